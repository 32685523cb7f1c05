use Rattle.summary.proofs.ByValue.{counts_get}
use Rattle.summary.proofs.HowMany.{none_counted, notice_counted}
use Rattle.summary.proofs.law.counts_follow.Goals as goal

pub returns : goal.returns
returns c = record { none = λ test. none_counted test; one = λ test o n is. notice_counted test o n is; by_value = λ label value o. counts_get label value o }
