use Rattle.api_types.proofs.Keeping.{fields_stay, itself, numbers_stay}
use Rattle.api_types.proofs.Marks.{marks_stay}
use Rattle.api_types.proofs.change_laws.lawful_changes.Goals as goal

pub returns-clause-same : goal.returns-clause-same
returns-clause-same c = itself

pub returns-clause-numbers : goal.returns-clause-numbers
returns-clause-numbers c = numbers_stay

pub returns-clause-fields : goal.returns-clause-fields
returns-clause-fields c = fields_stay

pub returns-clause-marks : goal.returns-clause-marks
returns-clause-marks c = marks_stay
