use Rattle.std.proofs.Common.{Some, None, map, option_map, sym, ap, ◌∙◌, arith}
use Rattle.serde_json.specs.View.{view}
use Rattle.json_patch.specs.Represented.{operation_of}
use Rattle.json_patch.proofs.Several.{read_within, too_many}
use Rattle.json_patch.proofs.reading_patches.read_patch.Goals as goal

pub returns-then-len-gt-OPERATIONS_LIMIT : goal.returns-then-len-gt-OPERATIONS_LIMIT
returns-then-len-gt-OPERATIONS_LIMIT c =
    too_many (view c.args.patch) c.in-Some.items.items c.in-Some.ensures (omega (arith, c.in-Some.items.ok.0, c.len.ensures, c.if-len-gt-OPERATIONS_LIMIT.true))

pub returns-in-Some-2 : goal.returns-in-Some-2
returns-in-Some-2 c =
    read_within (view c.args.patch) c.in-Some.items.items c.in-Some.ensures (omega (arith, c.in-Some.items.ok.0, c.len.ensures, c.if-len-gt-OPERATIONS_LIMIT.false))
    (Some (map operation_of c.in-Some-2.operations.items)) (ap (option_map (λ v. map operation_of v.items)) (sym c.in-Some-2.is) ∙ c.in_ok-operations.ensures)

pub returns-in-None : goal.returns-in-None
returns-in-None c =
    read_within (view c.args.patch) c.in-Some.items.items c.in-Some.ensures (omega (arith, c.in-Some.items.ok.0, c.len.ensures, c.if-len-gt-OPERATIONS_LIMIT.false))
    None (ap (option_map (λ v. map operation_of v.items)) (sym c.in-None.is) ∙ c.in_ok-operations.ensures)
