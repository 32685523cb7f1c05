use Rattle.api_request.proofs.Leading.{paths_of_all, paths_of_collections, paths_of_objects, paths_of_status}
use Rattle.api_request.proofs.route_laws.paths_lead_by_parts.Goals as goal

pub returns-clause-all : goal.returns-clause-all
returns-clause-all c = paths_of_all

pub returns-clause-collections : goal.returns-clause-collections
returns-clause-collections c = paths_of_collections

pub returns-clause-objects : goal.returns-clause-objects
returns-clause-objects c = paths_of_objects

pub returns-clause-status : goal.returns-clause-status
returns-clause-status c = paths_of_status
