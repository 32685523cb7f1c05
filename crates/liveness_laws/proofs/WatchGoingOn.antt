-- A watch that the client reads goes on, or is given up.
use Rattle.std.proofs.Common.{suc, length}
use Rattle.liveness_laws.proofs.Leads.{leads_to}
use Rattle.liveness_laws.proofs.Standing.{stands_after}
use Rattle.liveness_laws.proofs.Telling.{awaits_on, ends}
use Rattle.liveness_laws.specs.Leading.{AnyPhase, WatchesGoOn}
use Rattle.world_laws.proofs.Laws.{Laws}

pub going_on : Laws → WatchesGoOn
going_on laws types task before w earlier shapes is run awaits sync behind =
    leads_to task (suc (length before)) 8 0 w AnyPhase
    (ends laws task w (awaits_on task w (stands_after laws task types before w earlier shapes is run) awaits sync behind) (suc (length before)))
