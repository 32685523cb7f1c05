use Rattle.std.proofs.Common.{[], ◌∷◌}
use Rattle.line_laws.specs.Following.{turn}
use Rattle.wire_laws.proofs.WatchPieces.{all_written}
use Rattle.wire_laws.proofs.watch_lines.watches_write_changes.Goals as goal

pub returns : goal.returns
returns c = λ s t hs id conn w is runs got watches none come.
    all_written (record {
      sends = λ h cursor room is left low. c.watches_send_all.ensures.changes h cursor (turn room ∷ []) is left (low, tt);
      grows = c.machines_grow.ensures.all;
      lasts = c.machines_last.ensures;
    }) hs s t id conn w is runs got watches none come
