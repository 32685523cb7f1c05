use Rattle.std.proofs.Common.{◌≡◌, ℕ, List, ◌++◌, map}
use Rattle.std.specs.Prelude.{string_bytes}
use Rattle.selector.specs.Grammar.{each_of, value_of}
use Rattle.selector.proofs.Reading.{with_prefix}
use Rattle.selector.proofs.requirement.values_of.Given as goal

abbrev pub invariant-loop-value : goal.invariant-loop-value
invariant-loop-value l = record {
  can : (goal.iterator-loop-value).can_next l.value-iterator;
  finite : (goal.iterator-loop-value).is_finite l.value-iterator;
  emitted : (rest : List (List ℕ)) → each_of value_of (map (λ x. x.now) l.yielded ++ rest) ≡ with_prefix (map string_bytes l.values.items) (each_of value_of rest);
}
