use Rattle.history.proofs.Leading.{first, next, rising, whole}
use Rattle.history.proofs.page_laws.lists_come_in_pages.Goals as goal

pub returns : goal.returns
returns c = record { first = first; next = next; whole = whole; rising = rising }
