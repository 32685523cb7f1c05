use Rattle.api_types.proofs.Marks.{none_follows}
use Rattle.api_types.proofs.Naming.{file_marks_none}
use Rattle.api_types.proofs.change_laws.files_mark_none.Goals as goal

pub returns-clause-none : goal.returns-clause-none
returns-clause-none c = file_marks_none

pub returns-clause-follow : goal.returns-clause-follow
returns-clause-follow c = none_follows
