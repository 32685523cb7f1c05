use Rattle.std.proofs.lemmas.Bool.{and_parts}
use Rattle.objects.specs.Views.{state_of}
use Rattle.schema.specs.Lawful.{is_well_formed}
use Rattle.schema.specs.Shape.{shape}
use Rattle.schema.proofs.ObjectTests.{tested}
use Rattle.ownership.proofs.Carried.{gave}
use Rattle.ownership.proofs.carry.carried.Goals as goal

pub returns : goal.returns
returns c =
    let s = shape c.args.schemas.old.now in
    let t = shape c.args.schemas.new.now in
    gave s t (state_of c.args.object.now) c.in_ok-tree.tree c.in_ok-managers.managers c.in_ok-present.present c.in_ok-made.made (and_parts (is_well_formed s) _ (tested s c.args.schemas.was_object).1).0 (tested t c.args.schemas.is_object) c.requires
    c.in_ok-tree.ensures.is c.in_ok-tree.ensures.carried c.in_ok-tree.ensures.content c.in_ok-tree.ensures.stand c.in_ok-present.ensures c.in_ok-made.ensures c.in_ok-managers.ensures
