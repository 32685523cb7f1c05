use Rattle.requests.specs.Views.{decision_of, head_of}
use Rattle.requests.proofs.Cuts.{reads_more, reads_one}
use Rattle.requests.proofs.head.read_head.Goals as goal

pub returns-clause-alone : goal.returns-clause-alone
returns-clause-alone c = λ prefix says. reads_one c.args.bytes.now prefix (decision_of head_of c.read_to.result) says c.read_to.ensures.says

pub returns-clause-stays : goal.returns-clause-stays
returns-clause-stays c = λ more decided. reads_more c.args.bytes.now more (decision_of head_of c.read_to.result) c.read_to.ensures.says decided
