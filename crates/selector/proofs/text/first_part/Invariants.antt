use Rattle.std.proofs.Common.{◌≡◌, ◌++◌, take, drop, false}
use Rattle.selector.specs.Grammar.{first_part}
use Rattle.selector.proofs.text.first_part.Given as goal

abbrev pub invariant-loop-i : goal.invariant-loop-i
invariant-loop-i l = record {
  prefix : take l.i l.byte-items ++ (first_part l.is_inside (drop l.i l.byte-items)).0 ≡ (first_part false l.byte-items).0;
  rest : (first_part l.is_inside (drop l.i l.byte-items)).1 ≡ (first_part false l.byte-items).1;
}
