use Rattle.std.proofs.Common.{Some, ◌∙◌, subst, sym}
use Rattle.decoder.specs.Views.{line_seen}
use Rattle.reflector.specs.InformerViews.{RepresentsExceptReader}
use Rattle.reflector.specs.Items.{line}
use Rattle.reflector.specs.Run.{with_watch}
use Rattle.reflector.proofs.ReceivedItems.{broken_line}
use Rattle.reflector.proofs.informer.Informer.receive_line.Goals as goal

pub returns-in-Some-clause-received : goal.returns-in-Some-clause-received
returns-in-Some-clause-received g c = λ cl k follows awaiting_reply.
    let l = line_seen c.args.line in
    let taken = c.in_ok-broken.ensures.taken cl k.mirror in
    let wrong = sym c.in-Some.is ∙ taken.1 in
    subst (RepresentsExceptReader g.I.IndexBy.keys c.give_up.new.self (with_watch cl cl.cache (line l))) wrong
    (subst (λ d. RepresentsExceptReader g.I.IndexBy.keys c.give_up.new.self d (Some c.in-Some.broken)) (broken_line cl awaiting_reply l c.in-Some.broken wrong) (c.give_up.ensures.given_up _ taken.0))
