use Rattle.line_laws.proofs.Kept.{answer_read, leaf_value_read}
use Rattle.line_laws.proofs.Pages.{page_is_read}
use Rattle.line_laws.proofs.page_laws.pages_are_read.Goals as goal

pub returns-clause-pages : goal.returns-clause-pages
returns-clause-pages c = λ wanted of revision page is are low text. page_is_read wanted of is revision page are low text

pub returns-clause-leaf_value : goal.returns-clause-leaf_value
returns-clause-leaf_value c = λ wanted of values revision s is kept low text. leaf_value_read wanted of is values revision s kept low text

pub returns-clause-answers : goal.returns-clause-answers
returns-clause-answers c = λ wanted of values current compacted at text is kept order low says utf8. answer_read wanted of is values current compacted at text kept order low says utf8
