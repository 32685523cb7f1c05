use Rattle.verbs.proofs.Documents.{documents_of_types, no_documents}
use Rattle.verbs.proofs.laws.documents_tell_types.Goals as goal

pub returns-clause-types : goal.returns-clause-types
returns-clause-types c = documents_of_types

pub returns-clause-none : goal.returns-clause-none
returns-clause-none c = no_documents
