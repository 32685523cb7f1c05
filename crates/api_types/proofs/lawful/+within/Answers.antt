use Rattle.std.proofs.Common.{◌≡◌, ℕ, zero, suc, ◌-◌, nat_le, ◌∙◌, refl, arith}
use Rattle.schema.specs.Shape.{fields_in}
use Rattle.schema.specs.Lawful.{fields_depth}
use Rattle.schema.proofs.Shapes.{shape-Struct}
use Rattle.api_types.proofs.lawful.+within.Goals as goal

one_deeper : (n d : ℕ) → (d ≡ 0 → ⊥) → nat_le n (d - 1) ≡ nat_le (suc n) d
one_deeper n zero h = absurd (h refl)
one_deeper n (suc d) h = grind arith

pub is_within-returns-in-Struct : goal.is_within-returns-in-Struct
is_within-returns-in-Struct t c =
    rw (c.in-Struct.is, shape-Struct c.in-Struct.fields c.in-Struct.field-1, ← c.deref.ensures.value)
    (c.are_within.ensures ∙ one_deeper (fields_depth (fields_in c.deref.result.now)) c.args.depth c.if-depth-eq0.false)
