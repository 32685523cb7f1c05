use Rattle.std.proofs.Common.{◌≡◌, ◌∙◌, ◌+◌, ◌<◌, ◌^◌, ap, arith, length, map, subst, sym}
use Rattle.std.specs.FinMap as fin
use Rattle.reflector.specs.ReplayLaws.{OldSidesMatch, replayed}
use Rattle.reflector.specs.Views.{notice_seen}
use Rattle.summary.specs.Counts.{summed_of}
use Rattle.world_laws.specs.Tasks.{wanted_by}
use Rattle.world.proofs.Worlds.{reaches_taken}
use Rattle.world.proofs.world.World.settle.Goals as goal

pub returns-clause-settles : goal.returns-clause-settles
returns-clause-settles g c = λ task o w represents.
    let k = represents.client in
    let label = task.settings.label in
    let all : map notice_seen c.deref.result.now ≡ w.client.notices = ap (map notice_seen) c.deref.ensures.value ∙ c.take_notices-notices.ensures.notices w.client k.0 k.1 k.2 in
    let old = subst (OldSidesMatch o) (sym all) represents.reaches.lead.0 in
    let few : fin.len o + length c.deref.result.now < 2 ^ 63 = omega (arith, represents.few, c.deref.type_inv.1) in
    let noted = c.in_ok-note_all.ensures.noted label o represents.counted few old in
    record {
      hub = represents.hub;
      requested = represents.requested;
      connection = represents.connection;
      client = (k.0, k.1, c.take_notices-notices.ensures.taken w.client k.0 k.1 k.2, k.3);
      wanted = c.take_notices-notices.ensures.settings ∙ represents.wanted;
      reaches = reaches_taken (wanted_by task) o w.client represents.reaches;
      few = represents.reaches.few;
      counted = noted ∙ ap (λ ns. summed_of label (replayed o ns)) all ∙ ap (summed_of label) represents.reaches.lead.1;
      label = represents.label;
      place = represents.place;
    }
