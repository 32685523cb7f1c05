use Rattle.std.proofs.Common.{◌≡◌, codes, option_map, List, ℕ, Option}
use Rattle.std.specs.Option.{option_or}
use Rattle.matchit.specs.Params.{AllText, named}
use Rattle.api_request.specs.Admit.{Parts}
use Rattle.api_request.specs.Views.{parts_of}
use Rattle.api_request.proofs.parts.parts_in.Given as goal

-- what was found of a name, or else what it has among those that are left, is what it has among all
abbrev pub IsFound : List ℕ → Option (List ℕ) → Parts → Parts → Type 0
IsFound name found rest all = (option_or found (named name rest) ≡ named name all)

abbrev pub invariant-loop-name : goal.invariant-loop-name
invariant-loop-name l =
    AllText l.name-iterator
    × IsFound (codes "group") (option_map (λ s. s.now) l.parts.group) l.name-iterator (parts_of l.params)
    × IsFound (codes "version") (option_map (λ s. s.now) l.parts.version) l.name-iterator (parts_of l.params)
    × IsFound (codes "plural") (option_map (λ s. s.now) l.parts.plural) l.name-iterator (parts_of l.params)
    × IsFound (codes "namespace") (option_map (λ s. s.now) l.parts.namespace) l.name-iterator (parts_of l.params)
    × IsFound (codes "name") (option_map (λ s. s.now) l.parts.name) l.name-iterator (parts_of l.params)
