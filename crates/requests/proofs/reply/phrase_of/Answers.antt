use Rattle.requests.proofs.Heading.{phrase_known}
use Rattle.requests.proofs.reply.phrase_of.Goals as goal

pub returns-in-Ok : goal.returns-in-Ok
returns-in-Ok c = phrase_known c.args.code c.in-Ok.status c.standard_phrase.result.now c.in-Ok.ensures.0 c.in-Ok.ensures.1 c.standard_phrase.ensures
