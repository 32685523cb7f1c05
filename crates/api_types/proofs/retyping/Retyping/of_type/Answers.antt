use Rattle.std.proofs.Common.{ap, option_map}
use Rattle.schema.proofs.ObjectTests.{test}
use Rattle.api_types.proofs.Pairs.{both_shapes, lawful_pairs, none_before, none_then}
use Rattle.api_types.proofs.retyping.Retyping.of_type.Goals as goal

pub returns-in_default-clause-new : goal.returns-in_default-clause-new
returns-in_default-clause-new c = ap (option_map (λ t. t.shape)) (none_then _ _ (lawful_pairs _ _ c.args.self.lawful c.args.number) c.in_default.ensures.found)

pub returns-in_default-get-clause-old : goal.returns-in_default-get-clause-old
returns-in_default-get-clause-old c = ap (option_map (λ t. t.shape)) (none_before _ _ (lawful_pairs _ _ c.args.self.lawful c.args.number) c.in_default-get.ensures.found)

pub invariant_of-result : goal.invariant_of-result
invariant_of-result c = record {
  lawful = both_shapes _ _ _ _ (lawful_pairs _ _ c.args.self.lawful c.args.number) c.in-Some.ensures.found c.in-Some-get.ensures.found;
  was_object = test _ c.in-Some.ensures.object;
  is_object = test _ c.in-Some-get.ensures.object;
}
