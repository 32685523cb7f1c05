use Rattle.requests.specs.Views.{decision_of, head_of}
use Rattle.httpedge.proofs.Outcomes.{step_with, step_without}
use Rattle.httpedge.proofs.laws.each_steps.Goals as goal

pub returns : goal.returns
returns c = record { without_bytes = step_without; with_bytes = λ s e at. step_with s e c.args.bytes.now (decision_of head_of c.read_head.result) c.read_head.ensures.says at }
