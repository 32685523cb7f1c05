use Rattle.std.proofs.Common.{◌≡◌, [], None}
use Rattle.reflector.specs.Client.{Client}
use Rattle.reflector.specs.InformerViews.{InformerRepresents, settings_in, relist_reason_in}
use Rattle.reflector.specs.Run.{asked}
use Rattle.mirroring.specs.Syncs.{Received}
use Rattle.mirroring.proofs.syncing.receive_until.Given as goal

abbrev pub invariant-pieces : goal.invariant-pieces
invariant-pieces g l =
    (settings_in l.informer ≡ settings_in l.fn.informer)
    × ((c : Client) → InformerRepresents (λ b s. g.I.IndexBy.keys b s) l.fn.informer (asked c) [] [] → relist_reason_in l.fn.informer ≡ None
    → Received (λ b s. g.I.IndexBy.keys b s) (settings_in l.fn.informer).wanted c l.informer (g.R.Read.remaining l.fn.reader) (g.R.Read.remaining l.reader))
