-- The parts of a path by the names that the routes give them.
use Rattle.std.specs.Prelude.{◌≡◌, codes, option_map}
use Rattle.matchit.specs.Params.{named}
use Rattle.api_request.specs.declared.parts.PathParts.{PathParts}
use Rattle.api_request.specs.Admit.{Parts}

-- each is what the first parameter of its name took
pub record AreParts (p : PathParts) (all : Parts) : Type 0 where
  pub group : option_map (λ s. s.now) p.group ≡ named (codes "group") all
  pub version : option_map (λ s. s.now) p.version ≡ named (codes "version") all
  pub plural : option_map (λ s. s.now) p.plural ≡ named (codes "plural") all
  pub namespace : option_map (λ s. s.now) p.namespace ≡ named (codes "namespace") all
  pub name : option_map (λ s. s.now) p.name ≡ named (codes "name") all
