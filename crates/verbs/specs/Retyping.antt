-- What becomes of the machine where other types are served from here on: each object whose text changes gets the next revision
-- (Kubernetes docs, "Server-Side Apply", "Compatibility across topology changes").
use Rattle.std.specs.Prelude.{ℕ, suc, ◌+◌, Bool, true, not, nat_le, if◌then◌else◌, List, [], ◌∷◌, filter, length, Option, Some, None, option_and_then, option_map, slice_get}
use Rattle.std.specs.declared.result.Result.{Result}
use Rattle.std.specs.declared.result.Result.TheVariants.{Ok, Err}
use Rattle.std.specs.FinMap as fin
use Rattle.std.specs.List.{list_all}
use Rattle.std.specs.Str.{bytes_eq}
use Rattle.serde_json.specs.Data.{Data}
use Rattle.api_types.specs.Retyping.{types_may_become}
use Rattle.schema.specs.ObjectTest.{is_object_shape}
use Rattle.api_types.specs.Refusals as schemas
use Rattle.api_types.specs.Discovered.{declared_after}
use Rattle.api_types.specs.TypesFile.{ServedShape}
use Rattle.history.specs.History.{Key, Object, Objects, History, last_revision, current_objects}
use Rattle.history.specs.Writes.{written_all}
use Rattle.ownership.specs.Carry.{carried_state}
use Rattle.objects.specs.SystemMetadata.{stamped}
use Rattle.verbs.specs.Machine.{decoded_state, decoded_system}
use Rattle.verbs.specs.Step.{text_stamped}

-- ---- what changes

-- an object's text under its new type, at a revision: its content is printed under the old shape and read under the new one, of which
-- `typed::carried_is_one` says in the subject's words what it is; what the system says of it stays
abbrev pub carried_text : ServedShape → ServedShape → ℕ → Key → Object → List ℕ
carried_text t u revision k o = text_stamped u k (stamped revision (decoded_system t.shape o.body)) (carried_state t.shape u.shape (decoded_state t.shape o.body))

-- by the types that were served and the others
abbrev pub carried_text_at : List ServedShape → List ServedShape → ℕ → Key → Object → Option (List ℕ)
carried_text_at types next_types revision k o = option_and_then (λ t. option_map (λ u. carried_text t u revision k o) (slice_get next_types k.kind)) (slice_get types k.kind)

-- an object whose type isn't there, as no machine has one, keeps its text
abbrev pub text_unchanged : Option (List ℕ) → List ℕ → Bool
text_unchanged None text = true
text_unchanged (Some other) text = bytes_eq other text

-- the text that stands is another than its new one at the same revision
abbrev pub is_changed : List ServedShape → List ServedShape → Key × Object → Bool
is_changed types next_types e = not (text_unchanged (carried_text_at types next_types e.1.revision e.0 e.1) e.1.body)

-- in the order of keys: by the number of the type, then by namespace, then by name
abbrev pub changed_objects : List ServedShape → List ServedShape → Objects → List (Key × Object)
changed_objects types next_types s = filter (is_changed types next_types) (fin.entries s)

-- each gets its new text at the next revision
abbrev pub writes_from : List ServedShape → List ServedShape → ℕ → List (Key × Object) → List (Key × Option (List ℕ))
writes_from types next_types r [] = []
writes_from types next_types r (e ∷ es) = (e.0, carried_text_at types next_types (suc r) e.0 e.1) ∷ writes_from types next_types (suc r) es

abbrev pub retyping_writes : List ServedShape → List ServedShape → History → List (Key × Option (List ℕ))
retyping_writes types next_types m = writes_from types next_types m.current (changed_objects types next_types (current_objects m))

-- the machine where the others are served
unfoldable pub retyped : List ServedShape → List ServedShape → History → History
retyped types next_types m = written_all m (retyping_writes types next_types m)

-- ---- why types stay

-- a value that is no types file; another change than of sets, map lists and granular maps that have become atomic; fewer revisions left than
-- objects that change. They stand in their order: of several causes the first counts
pub data RetypeRefusal : Type 0 where
  not_types : RetypeRefusal
  not_lawful : RetypeRefusal
  too_few_revisions : RetypeRefusal

abbrev pub if_revisions_left : ℕ → List ServedShape → Result (List ServedShape) RetypeRefusal
if_revisions_left revision next_types = if nat_le revision last_revision then Ok next_types else Err too_few_revisions

abbrev pub if_compatible : List ServedShape → History → List ServedShape → Result (List ServedShape) RetypeRefusal
if_compatible types m next_types = if types_may_become types next_types then if_revisions_left (m.current + length (changed_objects types next_types (current_objects m))) next_types else Err not_lawful

-- a types file, whose members stand in order, declares types of objects alone: that each is one holds of every JSON value, and what is no
-- types file counts first in any case
abbrev pub if_declared : List ServedShape → History → Result (List ServedShape) schemas.Refusal → Result (List ServedShape) RetypeRefusal
if_declared types m (Ok next_types) = if list_all (λ t. is_object_shape t.shape) next_types then if_compatible types m next_types else Err not_types
if_declared types m (Err e) = Err not_types

-- the types that are served where a types file is to take the place of these; they follow the profile of these
unfoldable pub retyping : List ServedShape → History → Data → Result (List ServedShape) RetypeRefusal
retyping types m file = if_declared types m (declared_after types file)
