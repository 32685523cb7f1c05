-- Dry runs of types that clients discover: writes that are answered, and change nothing (Kubernetes docs, "Kubernetes API Concepts",
-- "Dry-run").
use Rattle.std.specs.Prelude.{ℕ, Bool, false, ◌&&◌, ◌||◌, if◌then◌else◌, List, [], Option, Some, None}
use Rattle.std.specs.FinMap as fin
use Rattle.serde_json.specs.Data.{Data}
use Rattle.api_types.specs.Profiles.{is_discovered}
use Rattle.api_types.specs.TypesFile.{ServedShape}
use Rattle.history.specs.History.{Key, Object, Objects}
use Rattle.params.specs.Lenient as params
use Rattle.params.specs.Query.{pairs_in}
use Rattle.watchline.specs.Versions.{text_at_version}
use Rattle.api_request.specs.Calls.{Answer, Call, Plan, only_key, verb_of}
use Rattle.api_request.specs.declared.verb.Verb.{Verb}
use Rattle.api_request.specs.declared.verb.Verb.TheVariants.{Delete}
use Rattle.api_validation.specs.Options.{is_dry_deletion}

-- the body of a deletion may ask for it
abbrev pub asks_in_body : Verb → Option Data → Bool
asks_in_body Delete body = is_dry_deletion body
asks_in_body how body = false

-- by its query, or by the body of a deletion
abbrev pub is_dry_run : Option ServedShape → Call → Bool
is_dry_run None call = false
is_dry_run (Some t) call = is_discovered t.profile && (params.is_dry_run (pairs_in call.query) || asks_in_body (verb_of call.target) call.body)

-- the object is shown with the version that stands; where none does, with the version that it would have
abbrev pub text_tried : Option Object → List ℕ → List ℕ
text_tried None text = text
text_tried (Some o) text = text_at_version o.revision text

abbrev pub shown_over : Option Object → Answer → Answer
shown_over existing answer = record answer { body = text_tried existing answer.body }

-- by the key of the only object that is changed
abbrev pub answer_tried : Objects → Option Key → Answer → Answer
answer_tried objects None answer = answer
answer_tried objects (Some k) answer = shown_over (fin.get objects k) answer

-- what a dry run comes to where these objects stand: the answer, and no change
abbrev pub tried : Objects → Plan → Plan
tried objects p = record { answer = answer_tried objects (only_key p.changes) p.answer; changes = [] }

abbrev pub run_by : Bool → Objects → Plan → Plan
run_by is_dry objects p = if is_dry then tried objects p else p
