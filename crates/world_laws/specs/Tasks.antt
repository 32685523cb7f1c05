-- What a client mirrors and counts (Kubernetes API Concepts, "Resource URIs"; "Labels and Selectors").
use Rattle.std.specs.Prelude.{◌≡◌, ℕ, Bool, true, if◌then◌else◌, is_ok, is_some, List, Option, Some, None, slice_get}
use Rattle.std.specs.declared.result.Result.TheVariants.{Ok}
use Rattle.api_types.specs.Named.{has_names}
use Rattle.schema.specs.Shape.{Shape}
use Rattle.api_types.specs.TypesFile.{ServedShape, type_number}
use Rattle.history.specs.History.{History}
use Rattle.history.specs.History as history
use Rattle.history.specs.Seen.{Selection, seen_at}
use Rattle.selector.specs.Grammar.{parse_selector}
use Rattle.selector.specs.Requirement.{Requirement}
use Rattle.lists.specs.Labels.{selection_of}
use Rattle.lists.specs.TokenLaws.{IsText}
use Rattle.indexer.specs.Names.{are_distinct}
use Rattle.indexer.specs.Objects.{Place}
use Rattle.decoder.specs.Wanted.{Wanted}
use Rattle.reflector.specs.Faults.{is_namespace_or_all, is_page_size}
use Rattle.reflector.specs.Requests.{Settings}

-- what a run is asked for: to mirror the objects of the type with this number, in a namespace or in all, that the selector's text
-- selects, in pages of so many; and to count a label's values, and apply the counts to the object of this namespace and name
pub record RunSettings : Type 0 where
  pub kind : ℕ
  pub namespace : Option (List ℕ)
  pub selector : List ℕ
  pub page : ℕ
  pub label : List ℕ
  pub summary : Place

-- what a run does: its settings, the type of their number, and what their selector asks of labels
pub record Task : Type 0 where
  pub settings : RunSettings
  pub t : ServedShape
  pub requirements : List Requirement

-- ---- what it mirrors

-- the objects of the type, in the namespace or in all, as a client asks for them
abbrev pub wanted_by : Task → Wanted
wanted_by task = record { group = task.t.group; version = task.t.version; kind = task.t.kind; plural = task.t.plural; namespace = task.settings.namespace }

-- the settings of the client that mirrors them
abbrev pub client_settings : Task → Settings
client_settings task = record { wanted = wanted_by task; selector = task.settings.selector; page = task.settings.page }

-- of the type, in the namespace or in all, with labels that meet the requirements
abbrev pub selection : Task → Selection
selection task = selection_of task.settings.kind task.settings.namespace task.requirements

-- the objects of a machine that are to be mirrored, as they were at a revision
abbrev pub selected_at : Task → History → ℕ → history.Objects
selected_at task machine revision = seen_at (selection task) machine.changes revision

-- ---- when it can be done

-- this number where it doesn't hold, else the first of the others
abbrev pub or_fault : ℕ → Bool → Option ℕ → Option ℕ
or_fault number holds others = if holds then others else Some number

-- the least number of what is wrong: 1 the page's size, 2 the selector isn't read, 3 no type has the number, 4 two of the indexes have
-- one name, 5 the namespace is no DNS label
abbrev pub settings_fault : List ServedShape → List (List ℕ) → RunSettings → Option ℕ
settings_fault types index_names s =
    or_fault 1 (is_page_size s.page) (or_fault 2 (is_ok (parse_selector s.selector)) (or_fault 3 (is_some (slice_get types s.kind)) (or_fault 4 (are_distinct index_names) (or_fault 5 (is_namespace_or_all s.namespace) None))))

-- the task of its settings, over these types: the type is the one of the number, with names that no type before it has; the selector
-- is read; the page's size is lawful, and the namespace, if one is named, a DNS label
pub record IsTask (types : List ServedShape) (task : Task) : Type 0 where
  pub served : slice_get types task.settings.kind ≡ Some task.t
  pub named : has_names task.t ≡ true
  pub numbered : type_number task.t.group task.t.version task.t.plural types ≡ Some task.settings.kind
  pub text : IsText task.settings.selector
  pub selector : parse_selector task.settings.selector ≡ Ok task.requirements
  pub page : is_page_size task.settings.page ≡ true
  pub namespace : is_namespace_or_all task.settings.namespace ≡ true

-- ---- where other types are served

-- the task where its type has this shape: what it mirrors is the same
abbrev pub with_shape : Task → Shape → Task
with_shape task s = record task { t = record task.t { shape = s } }

-- it is a task over these types, whatever the shape of its type is now
abbrev pub IsStillTask : List ServedShape → Task → Type 0
IsStillTask types task = (s : Shape) × IsTask types (with_shape task s)
