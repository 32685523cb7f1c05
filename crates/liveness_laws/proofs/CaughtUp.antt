-- Where the client has the machine's revision, its objects are the machine's of it.
use Rattle.std.proofs.Common.{◌≡◌, ◌∙◌, ℕ, true, List, Option, Some, None, refl, sym, ap, subst, eq-eqb, eqb-true, true≢false}
use Rattle.api_types.specs.TypesFile.{ServedShape}
use Rattle.verbs.specs.Machine.{AreObjectTypes}
use Rattle.reflector.specs.Client.{Cache}
use Rattle.liveness_laws.specs.Leading.{IsCaughtUp}
use Rattle.liveness_laws.specs.Listable.{listed_now}
use Rattle.world_laws.specs.Headline.{Headline}
use Rattle.world_laws.specs.Moves.{is_at, is_current}
use Rattle.world_laws.specs.Reports.{IsKeptRight, IsStateAt, Report, Runs, last_reported}
use Rattle.world_laws.specs.Tasks.{IsTask, Task, selected_at, wanted_by}
use Rattle.world_laws.specs.World.{World, WorldEvent, start}

revision_is : (current : ℕ) (now : Cache) → is_at current (Some now) ≡ true → now.revision ≡ current
revision_is current now is = eqb-true now.revision current is

pub objects_right : Headline → (types : List ServedShape) (task : Task) (before : List WorldEvent) (w : World) (earlier : List Report) (now : Cache)
    → AreObjectTypes types → IsTask types task → Runs task 1 (start types) before w earlier → w.client.cache ≡ Some now → is_current w ≡ true
    → IsStateAt (wanted_by task) (listed_now task w.hub.machine) now.objects
objects_right headline types task before w earlier now shapes is run kept current =
    let right = subst (IsKeptRight task (last_reported 1 earlier) w.hub.machine) kept (headline types task before w earlier shapes is run).1 in
    subst (λ (r : ℕ). IsStateAt (wanted_by task) (selected_at task w.hub.machine r) now.objects)
    (revision_is w.hub.machine.current now (ap (is_at w.hub.machine.current) (sym kept) ∙ current)) right.objects

pub caught_up : Headline → (types : List ServedShape) (task : Task) (before : List WorldEvent) (w : World) (earlier : List Report)
    → AreObjectTypes types → IsTask types task → Runs task 1 (start types) before w earlier → is_current w ≡ true → IsCaughtUp task w
caught_up headline types task before w earlier shapes is run current = by_cache w.client.cache refl
  where
    by_cache : (cache : Option Cache) → w.client.cache ≡ cache → IsCaughtUp task w
    by_cache None none = absurd (true≢false (sym current ∙ ap (is_at w.hub.machine.current) none))
    by_cache (Some now) kept =
        record {
          now = now;
          kept = kept;
          is_current = revision_is w.hub.machine.current now (ap (is_at w.hub.machine.current) (sym kept) ∙ current);
          objects = objects_right headline types task before w earlier now shapes is run kept current;
        }

pub current_so : (task : Task) (w : World) → IsCaughtUp task w → is_current w ≡ true
current_so task w caught = ap (is_at w.hub.machine.current) caught.kept ∙ eq-eqb caught.now.revision w.hub.machine.current caught.is_current
