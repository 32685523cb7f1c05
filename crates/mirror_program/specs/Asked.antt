-- What a mirror's options ask a client for.
use Rattle.std.specs.Prelude.{◌≡◌, ◌&&◌, ℕ, List, [], Option, Some, None, if◌then◌else◌, is_ok, is_none, option_and_then, option_map, slice_get, string_bytes}
use Rattle.api_types.specs.TypesFile.{ServedShape, type_number}
use Rattle.selector.specs.Grammar.{parse_selector}
use Rattle.decoder.specs.declared.wanted.Source as sources
use Rattle.reflector.specs.Faults.{fault_in}
use Rattle.reflector.specs.Requests.{Settings}
use Rattle.programs.specs.Resources.{Resource}
use Rattle.programs.specs.Views.{resource_of}
use Rattle.mirror_program.specs.declared.arguments.MirrorOptions.{MirrorOptions}

-- which objects, and how
pub record Asked : Type 0 where
  pub resource : Resource
  pub namespace : Option (List ℕ)
  pub selector : List ℕ
  pub page : ℕ

abbrev pub asked_of : MirrorOptions → Asked
asked_of o = record { resource = resource_of o.resource; namespace = option_map (λ s. s.now) o.namespace; selector = o.selector.now; page = o.page }

-- the type of these names
abbrev pub type_of : List ServedShape → Resource → Option ServedShape
type_of ts r = option_and_then (slice_get ts) (type_number r.group r.version r.plural ts)

-- the type's names, as a client asks for it
abbrev pub IsSourceOf : ServedShape → sources.Source → Type 0
IsSourceOf t s = (string_bytes s.group ≡ t.group) × (string_bytes s.version ≡ t.version) × (string_bytes s.kind ≡ t.kind) × (string_bytes s.plural ≡ t.plural)

-- a client of this type's objects
abbrev pub settings_with : Asked → ServedShape → Settings
settings_with asked t = record {
  wanted = record { group = t.group; version = t.version; kind = t.kind; plural = t.plural; namespace = asked.namespace };
  selector = asked.selector;
  page = asked.page;
}

-- settings that a client takes
abbrev pub unless_refused : Settings → Option Settings
unless_refused s = if is_ok (parse_selector s.selector) && is_none (fault_in s) then Some s else None

-- the client that is asked for: of a type that there is, by settings that it takes
abbrev pub settings_of : List ServedShape → Asked → Option Settings
settings_of ts asked = option_and_then (λ t. unless_refused (settings_with asked t)) (type_of ts asked.resource)
