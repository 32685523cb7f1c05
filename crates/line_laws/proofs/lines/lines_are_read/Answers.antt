use Rattle.line_laws.proofs.Said.{bookmark_read, change_read, error_read, object_shown}
use Rattle.line_laws.proofs.Values.{line_in_value}
use Rattle.line_laws.proofs.lines.lines_are_read.Goals as goal

pub returns-clause-json : goal.returns-clause-json
returns-clause-json c = line_in_value

pub returns-clause-objects : goal.returns-clause-objects
returns-clause-objects c = object_shown

pub returns-clause-changes : goal.returns-clause-changes
returns-clause-changes c = change_read

pub returns-clause-bookmarks : goal.returns-clause-bookmarks
returns-clause-bookmarks c = bookmark_read

pub returns-clause-errors : goal.returns-clause-errors
returns-clause-errors c = error_read
