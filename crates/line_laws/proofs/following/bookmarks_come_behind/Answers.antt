use Rattle.line_laws.proofs.Waiting.{marks_behind}
use Rattle.line_laws.proofs.following.bookmarks_come_behind.Goals as goal

pub returns : goal.returns
returns c = marks_behind
