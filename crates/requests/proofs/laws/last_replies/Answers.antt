use Rattle.requests.proofs.KeptHeads.{last_answer, last_refusal, last_reply, last_watch_head}
use Rattle.requests.proofs.laws.last_replies.Goals as goal

pub returns : goal.returns
returns c = record { replies = last_reply; watches = last_watch_head; refusals = last_refusal; answers = last_answer }
