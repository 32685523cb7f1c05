use Rattle.schema.specs.Shape.{shape}
use Rattle.typed.proofs.Taken.{never_reported, none_read, none_taken, some_read, some_taken}
use Rattle.typed.proofs.tree.Tree.carried.Goals as goal

pub returns-in_default-clause-is : goal.returns-in_default-clause-is
returns-in_default-clause-is c = none_read (shape c.args.schemas.old.now) (shape c.args.schemas.new.now) c.args.self.now c.in_ok-value.field-0 c.in_default.not-Some c.in_ok-value.ensures c.empty.result c.empty.ensures

pub returns-in_default-clause-carried : goal.returns-in_default-clause-carried
returns-in_default-clause-carried c = (none_taken (shape c.args.schemas.old.now) (shape c.args.schemas.new.now) c.args.self.now c.args.schemas.was_object c.args.schemas.is_object c.args.schemas.lawful c.requires c.in_ok-value.field-0 c.in_default.not-Some c.in_ok-value.ensures c.empty.result c.empty.ensures).0

pub returns-in_default-clause-stand : goal.returns-in_default-clause-stand
returns-in_default-clause-stand c = (none_taken (shape c.args.schemas.old.now) (shape c.args.schemas.new.now) c.args.self.now c.args.schemas.was_object c.args.schemas.is_object c.args.schemas.lawful c.requires c.in_ok-value.field-0 c.in_default.not-Some c.in_ok-value.ensures c.empty.result c.empty.ensures).1

pub returns-in_default-clause-content : goal.returns-in_default-clause-content
returns-in_default-clause-content c = (none_taken (shape c.args.schemas.old.now) (shape c.args.schemas.new.now) c.args.self.now c.args.schemas.was_object c.args.schemas.is_object c.args.schemas.lawful c.requires c.in_ok-value.field-0 c.in_default.not-Some c.in_ok-value.ensures c.empty.result c.empty.ensures).2

pub returns-in_default-clause-printed : goal.returns-in_default-clause-printed
returns-in_default-clause-printed c = (none_taken (shape c.args.schemas.old.now) (shape c.args.schemas.new.now) c.args.self.now c.args.schemas.was_object c.args.schemas.is_object c.args.schemas.lawful c.requires c.in_ok-value.field-0 c.in_default.not-Some c.in_ok-value.ensures c.empty.result c.empty.ensures).3

pub returns-in-Ok-clause-is : goal.returns-in-Ok-clause-is
returns-in-Ok-clause-is c = some_read (shape c.args.schemas.old.now) (shape c.args.schemas.new.now) c.args.self.now c.in_ok-value.field-0 c.in-Some.value c.in-Some.is c.in_ok-value.ensures c.in-Ok.tree c.in-Ok.ensures

pub returns-in-Ok-clause-carried : goal.returns-in-Ok-clause-carried
returns-in-Ok-clause-carried c = (some_taken (shape c.args.schemas.old.now) (shape c.args.schemas.new.now) c.args.self.now c.args.schemas.was_object c.args.schemas.is_object c.args.schemas.lawful c.requires c.in_ok-value.field-0 c.in-Some.value c.in-Some.is c.in_ok-value.ensures c.in-Ok.tree c.in-Ok.ensures).0

pub returns-in-Ok-clause-stand : goal.returns-in-Ok-clause-stand
returns-in-Ok-clause-stand c = (some_taken (shape c.args.schemas.old.now) (shape c.args.schemas.new.now) c.args.self.now c.args.schemas.was_object c.args.schemas.is_object c.args.schemas.lawful c.requires c.in_ok-value.field-0 c.in-Some.value c.in-Some.is c.in_ok-value.ensures c.in-Ok.tree c.in-Ok.ensures).1

pub returns-in-Ok-clause-content : goal.returns-in-Ok-clause-content
returns-in-Ok-clause-content c = (some_taken (shape c.args.schemas.old.now) (shape c.args.schemas.new.now) c.args.self.now c.args.schemas.was_object c.args.schemas.is_object c.args.schemas.lawful c.requires c.in_ok-value.field-0 c.in-Some.value c.in-Some.is c.in_ok-value.ensures c.in-Ok.tree c.in-Ok.ensures).2

pub returns-in-Ok-clause-printed : goal.returns-in-Ok-clause-printed
returns-in-Ok-clause-printed c = (some_taken (shape c.args.schemas.old.now) (shape c.args.schemas.new.now) c.args.self.now c.args.schemas.was_object c.args.schemas.is_object c.args.schemas.lawful c.requires c.in_ok-value.field-0 c.in-Some.value c.in-Some.is c.in_ok-value.ensures c.in-Ok.tree c.in-Ok.ensures).3

pub unreachable-requires : goal.unreachable-requires
unreachable-requires c = never_reported (shape c.args.schemas.old.now) (shape c.args.schemas.new.now) c.args.self.now c.args.schemas.was_object c.args.schemas.is_object c.args.schemas.lawful c.requires c.in_ok-value.field-0 c.in-Some.value c.in-Some.is c.in_ok-value.ensures c.in-Err-Shape.field-0 _ _ c.in-Err-Shape.field-0-is c.in-Err-Shape.ensures
