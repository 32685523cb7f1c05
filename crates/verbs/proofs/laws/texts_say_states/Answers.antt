use Rattle.verbs.proofs.Promise.{bodies_say_states, stored_texts_decode, texts_say_states}
use Rattle.verbs.proofs.laws.texts_say_states.Goals as goal

pub returns-clause-revisions : goal.returns-clause-revisions
returns-clause-revisions c = texts_say_states

pub returns-clause-changes : goal.returns-clause-changes
returns-clause-changes c = bodies_say_states

pub returns-clause-represents : goal.returns-clause-represents
returns-clause-represents c = stored_texts_decode
