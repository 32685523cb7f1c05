use Rattle.reflector.specs.InformerViews.{settings_in}
use Rattle.reflector.specs.Run.{closed}
use Rattle.mirroring.specs.Syncs.{all_replied}
use Rattle.mirroring.specs.Turns.{Answers}
use Rattle.mirroring.proofs.Ahead.{closed_keeps}
use Rattle.mirroring.proofs.Replies.{syncs_by}
use Rattle.mirroring.proofs.Texts.{error_is}
use Rattle.mirroring.proofs.syncing.sync.Goals as goal

pub returns-in_err-catch_up-clause-fault : goal.returns-in_err-catch_up-clause-fault
returns-in_err-catch_up-clause-fault g c = λ d is. error_is c.from_residual.result _ _ c.from_residual.ensures.1 (c.in_err-catch_up.ensures.fault d is)

pub returns-clause-synced : goal.returns-clause-synced
returns-clause-synced g c = λ d is.
    let (replies, many, catches) = c.in_ok-catch_up.ensures.made d is in
    let runs = catches.1 in
    let e = all_replied (settings_in c.args.informer.now).wanted (closed d) replies in
    syncs_by (Answers (λ a q r b. g.D.Dial.dials a q r b) (λ r. g.D.Reader.Read.remaining r)) (λ a t b. g.D.Dial.learns a t b) (settings_in c.args.informer.now) c.args.least (λ b s. g.I.IndexBy.keys b s) c.args.turns
    c.args.dialer.now c.catch_up.new.dialer (closed d) c.catch_up.new.informer replies c.has_reached.result (closed_keeps d).0 catches
    (c.has_reached.ensures e.cache (c.revision.ensures e runs.0 runs.1 runs.2))
