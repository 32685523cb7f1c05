-- What the crate's values stand for.
use Rattle.std.specs.Prelude.{◌≡◌, ◌≢◌, List, Option, Some, None, string_bytes}
use Rattle.serde_json.specs.Data.{Data}
use Rattle.serde_json.specs.View.{view}
use Rattle.api_types.specs.Views.{FailsWith}
use Rattle.api_types.specs.TypesFile.{ServedShape, declared_types}
use Rattle.api_types.specs.declared.fault.TypesFault.{TypesFault}
use Rattle.api_types.specs.declared.profile.Profile.TheVariants.{Plain}
use Rattle.api_types.specs.declared.fault.TypesFault.TheVariants as types_fault
use Rattle.history.specs.declared.object.Object.{Object as TheObject}
use Rattle.history.specs.History.{Change, Object, Objects, History}
use Rattle.history.specs.Read.{key_of, object_of as stored_object}
use Rattle.history.specs.View.{View, state_in, view as view_of}
use Rattle.api_validation.specs.Views.{rest_seen}
use Rattle.verbs.specs.declared.fault.RetypeFault.{RetypeFault}
use Rattle.verbs.specs.declared.fault.RetypeFault.TheVariants as retype_fault
use Rattle.verbs.specs.declared.api.Api.{Api}
use Rattle.verbs.specs.declared.validating.Creation.{Creation as TheCreation}
use Rattle.verbs.specs.declared.validating.Intent.{Intent as TheIntent}
use Rattle.verbs.specs.Machine.{AreUnicode, ComeAfter, IsMachine}
use Rattle.verbs.specs.Retyping.{RetypeRefusal, not_types, not_lawful, too_few_revisions}
use Rattle.verbs.specs.Step.{Creation, Intent}

-- ---- refusals, and what writes intend

-- why other types are refused, unless memory ran out or the store failed
abbrev pub retype_refusal : RetypeFault → Option RetypeRefusal
retype_refusal (retype_fault.NotTypes fault) = Some not_types
retype_refusal retype_fault.NotLawful = Some not_lawful
retype_refusal retype_fault.TooFewRevisions = Some too_few_revisions
retype_refusal (retype_fault.Failed fault) = None

-- the fault of a types file is that for which it declares no types, whatever their profile, never that memory ran out
abbrev pub IsFileFault : Data → TypesFault → Type 0
IsFileFault file why = (why ≢ types_fault.Memory) × FailsWith why (declared_types Plain file)

-- which fault of the types file is reported, where it is told to be none
abbrev pub reported_of_file : RetypeFault → Option TypesFault
reported_of_file (retype_fault.NotTypes why) = Some why
reported_of_file retype_fault.NotLawful = None
reported_of_file retype_fault.TooFewRevisions = None
reported_of_file (retype_fault.Failed fault) = None

abbrev pub intent_seen : TheIntent → Intent
intent_seen i = record { version = i.version; content = i.content; manager = string_bytes i.manager; subresource = i.subresource; is_forced = i.is_forced; rest = rest_seen (view i.body.now) }

abbrev pub creation_seen : TheCreation → Creation
creation_seen c = record { key = key_of c.key; intent = intent_seen c.intent }

-- ---- the API

abbrev pub object_of : TheObject → Object
object_of = stored_object

-- the objects that stand, by what may be seen of the store
abbrev pub objects_in : View → Objects
objects_in v = state_in v v.current

-- the types that it serves
abbrev pub types_of : Api → List ServedShape
types_of api = api.catalog

-- what is seen of its store
abbrev pub store_of : Api → View
store_of api = api.store

-- changes that may come next in it
abbrev pub ComeNext : Api → List Change → Type 0
ComeNext api cs = ComeAfter (store_of api) cs

-- the API serves these types, and of its store is seen what is seen of the machine, whose bodies are texts
pub record ApiRepresents (api : Api) (types : List ServedShape) (m : History) : Type 0 where
  pub is_machine : IsMachine types m
  pub serves : types_of api ≡ types
  pub store : store_of api ≡ view_of m
  pub unicode : AreUnicode m.changes
