use Rattle.api_request.proofs.Documents.{only_objects, places_still}
use Rattle.api_request.proofs.route_laws.documents_leave_places.Goals as goal

pub returns-clause-places : goal.returns-clause-places
returns-clause-places c = places_still

pub returns-clause-objects : goal.returns-clause-objects
returns-clause-objects c = only_objects
