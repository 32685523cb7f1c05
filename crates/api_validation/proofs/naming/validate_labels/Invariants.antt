use Rattle.std.proofs.Common.{◌≡◌}
use Rattle.serde_json.specs.View.{members_view}
use Rattle.api_validation.specs.Naming.{labels_validated}
use Rattle.api_validation.proofs.naming.validate_labels.Given as goal

-- those that are left decide
abbrev pub invariant-loop-key : goal.invariant-loop-key
invariant-loop-key l = labels_validated (members_view l.key-iterator) ≡ labels_validated (members_view l.labels.entries)
