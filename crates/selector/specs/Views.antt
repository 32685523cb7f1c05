-- What the crate's values say, without where they lie in memory.
use Rattle.std.specs.Prelude.{map, String, string_bytes}
use Rattle.std.specs.BTreeMap.{BTreeMap}
use Rattle.std.specs.declared.alloc.Global.{Global}
use Rattle.selector.specs.declared.requirement.Condition as condition
use Rattle.selector.specs.declared.requirement.Condition.TheVariants as conditions
use Rattle.selector.specs.declared.requirement.Requirement as requirement
use Rattle.selector.specs.Labels.{Labels}
use Rattle.selector.specs.Requirement.{Condition, equals, differs, among, outside, exists, absent, Requirement}

abbrev pub condition_of : condition.Condition → Condition
condition_of (conditions.Equals v) = equals (string_bytes v)
condition_of (conditions.Differs v) = differs (string_bytes v)
condition_of (conditions.Among vs) = among (map string_bytes vs.items)
condition_of (conditions.Outside vs) = outside (map string_bytes vs.items)
condition_of conditions.Exists = exists
condition_of conditions.Absent = absent

abbrev pub requirement_of : requirement.Requirement → Requirement
requirement_of r = record { key = string_bytes r.key; condition = condition_of r.condition }

-- the labels that a map holds: key and value
abbrev pub labels_of : BTreeMap (String Global) (String Global) → Labels
labels_of labels = map (λ e. (string_bytes e.0, string_bytes e.1)) labels.entries
