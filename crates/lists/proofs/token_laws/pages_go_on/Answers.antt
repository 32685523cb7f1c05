use Rattle.lists.proofs.NextPages.{at_once, begins_after, first, next, next_is_last, of_revision, shows_more, whole}
use Rattle.lists.proofs.token_laws.pages_go_on.Goals as goal

pub returns : goal.returns
returns c = record { last = next_is_last; revision = of_revision; after = begins_after; first = first; next = next; more = shows_more; whole = whole; at_once = at_once }
