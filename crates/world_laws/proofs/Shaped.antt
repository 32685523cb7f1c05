-- A task over types that may have become others: its type is still the one of its number, with its names, whatever its shape is now.
use Rattle.std.proofs.Common.{◌≡◌, ℕ, suc, Bool, List, [], ◌∷◌, map, Option, Some, None, refl, sym, ap, ◌∙◌}
use Rattle.std.proofs.lemmas.Option.{slice_get-map}
use Rattle.std.specs.Prelude.{if◌then◌else◌, option_map, slice_get, unwrap_or}
use Rattle.schema.specs.Shape.{Shape}
use Rattle.api_types.specs.TypesFile.{ServedShape, is_named, number_from}
use Rattle.history.specs.History.{History}
use Rattle.httpedge.specs.Runs.{lasting}
use Rattle.httpedge.specs.Watches.{Turn, Watch}
use Rattle.world_laws.proofs.Passes.{GoesOnAt, IsTaskWatch, TurnComes}
use Rattle.world_laws.specs.Tasks.{IsStillTask, IsTask, Task, with_shape}

-- ---- types that keep their names

abbrev names_of : List (ServedShape × Bool) → List ServedShape
names_of = map (λ e. e.0)

number_by_names : (n : ℕ) (group version plural : List ℕ) (ts : List ServedShape) → number_from n group version plural ts ≡ number_from n group version plural (names_of (map lasting ts))
number_by_names n group version plural [] = refl
number_by_names n group version plural (t ∷ ts) = ap (λ (o : Option ℕ). if is_named group version plural t then Some n else o) (number_by_names (suc n) group version plural ts)

number_stays : (group version plural : List ℕ) (ts us : List ServedShape) → map lasting us ≡ map lasting ts → number_from 0 group version plural us ≡ number_from 0 group version plural ts
number_stays group version plural ts us same =
    number_by_names 0 group version plural us ∙ ap (λ (l : List (ServedShape × Bool)). number_from 0 group version plural (names_of l)) same ∙ sym (number_by_names 0 group version plural ts)

same_but_shape : (t u : ServedShape) → Some (lasting u) ≡ Some (lasting t) → u ≡ record t { shape = u.shape }
same_but_shape t u same = let f : Option (ServedShape × Bool) → ServedShape = λ o. record (unwrap_or (option_map (λ (e : ServedShape × Bool). e.0) o) t) { shape = u.shape } in ap f same

type_stays : (ts us : List ServedShape) (k : ℕ) (t : ServedShape) → map lasting us ≡ map lasting ts → slice_get ts k ≡ Some t → (s : Shape) × (slice_get us k ≡ Some (record t { shape = s }))
type_stays ts us k t same there =
    go (slice_get us k) refl (sym (slice_get-map lasting us k) ∙ ap (λ (l : List (ServedShape × Bool)). slice_get l k) same ∙ slice_get-map lasting ts k ∙ ap (option_map lasting) there)
  where
    go : (o : Option ServedShape) → slice_get us k ≡ o → option_map lasting o ≡ Some (lasting t) → (s : Shape) × (slice_get us k ≡ Some (record t { shape = s }))
    go None is at = absurd cc
    go (Some u) is at = (u.shape, is ∙ ap (λ (v : ServedShape). Some v) (same_but_shape t u at))

-- ---- the task

pub is_still : (types : List ServedShape) (task : Task) → IsTask types task → IsStillTask types task
is_still types task is = (task.t.shape, is)

task_lasts : (types others : List ServedShape) (task : Task) → map lasting others ≡ map lasting types → IsTask types task → IsStillTask others task
task_lasts types others task same is =
    let there = type_stays types others task.settings.kind task.t same is.served in (
      there.0,
      record {
        served = there.1;
        named = is.named;
        numbered = number_stays task.t.group task.t.version task.t.plural types others same ∙ is.numbered;
        text = is.text;
        selector = is.selector;
        page = is.page;
        namespace = is.namespace;
      },
    )

pub still_lasts : (types others : List ServedShape) (task : Task) → map lasting others ≡ map lasting types → IsStillTask types task → IsStillTask others task
still_lasts types others task same (s, is) = task_lasts types others (with_shape task s) same is

-- ---- what is told of its watch doesn't ask for the shape

pub watch_shaped : (task : Task) (s : Shape) (w : Watch) → IsTaskWatch task w → IsTaskWatch (with_shape task s) w
watch_shaped task s w is = record { kind = is.kind; namespace = is.namespace; requirements = is.requirements; bookmarks = is.bookmarks; left = is.left; endless = is.endless }

goes_on_shaped : (task : Task) (s : Shape) (h : History) (to : ℕ) (next : Option Watch) → GoesOnAt task h to next → GoesOnAt (with_shape task s) h to next
goes_on_shaped task s h to None is = tt
goes_on_shaped task s h to (Some w) is = (watch_shaped task s w is.0, is.1, is.2)

turn_shaped : (task : Task) (s : Shape) (h : History) (p : ℕ) (turn : Turn) → TurnComes task h p turn → TurnComes (with_shape task s) h p turn
turn_shaped task s h p turn is = record { texts = is.texts; plain = is.plain; lines = is.lines; to = is.to; watches = is.watches; next = goes_on_shaped task s h is.to turn.next is.next }

pub turn_unshaped : (task : Task) (s : Shape) (h : History) (p : ℕ) (turn : Turn) → TurnComes (with_shape task s) h p turn → TurnComes task h p turn
turn_unshaped task s h p turn is = turn_shaped (with_shape task s) task.t.shape h p turn is
