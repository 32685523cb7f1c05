-- For private clauses: what stands at a depth of a type's schema, which itself stands at 1.
use Rattle.std.specs.Prelude.{◌≡◌, ◌+◌, ◌≤◌, ℕ, suc, true}
use Rattle.fieldpath.specs.Scalars.{ascend}
use Rattle.schema.specs.Lawful.{names_of, depth_of, fields_depth, is_well_formed, are_well_formed}
use Rattle.schema.specs.Shape.{Shape, Fields}

-- a schema at this depth
abbrev pub KeepsAt : ℕ → Shape → Type 0
KeepsAt depth s = (is_well_formed s ≡ true) × (depth + depth_of s ≤ 17)

-- the fields of a struct at this depth, in any order
abbrev pub KeepAt : ℕ → Fields → Type 0
KeepAt depth all = (are_well_formed all ≡ true) × (depth + suc (fields_depth all) ≤ 17)

-- in byte order
abbrev pub AreFieldsAt : ℕ → Fields → Type 0
AreFieldsAt depth all = KeepAt depth all × (ascend (names_of all) ≡ true)
