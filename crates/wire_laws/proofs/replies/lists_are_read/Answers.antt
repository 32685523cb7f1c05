use Rattle.wire_laws.proofs.Listings.{list_read, machine_keeps}
use Rattle.wire_laws.proofs.replies.lists_are_read.Goals as goal

pub returns-clause-kept : goal.returns-clause-kept
returns-clause-kept c = machine_keeps c.texts_say_states.ensures.revisions

pub returns-clause-pages : goal.returns-clause-pages
returns-clause-pages c = list_read c.texts_say_states.ensures.revisions c.pages_are_read.ensures.answers
