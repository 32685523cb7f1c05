use Rattle.std.proofs.Common.{◌≡◌}
use Rattle.serde_json.specs.View.{members_view}
use Rattle.api_validation.specs.Naming.{annotations_validated}
use Rattle.api_validation.proofs.naming.validate_annotations.Given as goal

-- those that are left decide
abbrev pub invariant-loop-key : goal.invariant-loop-key
invariant-loop-key l = annotations_validated (members_view l.key-iterator) ≡ annotations_validated (members_view l.annotations.entries)
