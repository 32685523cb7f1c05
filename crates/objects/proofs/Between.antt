-- Fields between two names, of those between others.
use Rattle.std.proofs.Common.{◌≡◌, ℕ, Bool, true, false, cond, ◌&&◌, List, Option, Some, None, Ordering, Less, Equal, Greater, nat_cmp, refl, sym, ap, ◌∙◌, true≢false}
use Rattle.std.specs.Cmp.Lexicographic.{slice_cmp}
use Rattle.std.specs.Ordering.{is_lt}
use Rattle.std.proofs.lemmas.Cmp.{nat_list_cmp_total}
use Rattle.schema.specs.Lawful.{names_of}
use Rattle.schema.specs.Shape.{Shape, Fields, no_fields, field}
use Rattle.typed.specs.Between.{fields_between, is_above, is_below}
use Rattle.typed.proofs.KeyFields.{AreRising}
use Rattle.typed.proofs.Rows.{AllAbove}

abbrev cmp : List ℕ → List ℕ → Ordering
cmp = slice_cmp nat_cmp

above_between : (g : List ℕ) (low high : Option (List ℕ)) (fs : Fields) → AllAbove g (names_of fs) → AllAbove g (names_of (fields_between low high fs))
above_between g low high no_fields above = tt
above_between g low high (field f s more) above = by_test (is_above low f && is_below high f) (above_between g low high more above.1)
  where
    by_test : (b : Bool) → AllAbove g (names_of (fields_between low high more)) → AllAbove g (names_of (cond b (field f s (fields_between low high more)) (fields_between low high more)))
    by_test true later = (above.0, later)
    by_test false later = later

pub rising_between : (low high : Option (List ℕ)) (fs : Fields) → AreRising (names_of fs) → AreRising (names_of (fields_between low high fs))
rising_between low high no_fields rise = tt
rising_between low high (field f s more) rise = by_test (is_above low f && is_below high f) (rising_between low high more rise.1)
  where
    by_test : (b : Bool) → AreRising (names_of (fields_between low high more)) → AreRising (names_of (cond b (field f s (fields_between low high more)) (fields_between low high more)))
    by_test true later = (above_between f low high more rise.0, later)
    by_test false later = later

below_by : (k f : List ℕ) (s : Shape) (more : Fields) (o : Ordering) → cmp f k ≡ o
    → fields_between None (Some k) (field f s more) ≡ cond (is_lt o) (field f s (fields_between None (Some k) more)) (fields_between None (Some k) more)
below_by k f s more o is = ap (λ o. cond (is_lt o) (field f s (fields_between None (Some k) more)) (fields_between None (Some k) more)) is

-- what lies below k lies below l
pub below_twice : (k l : List ℕ) → cmp k l ≡ Less → (fs : Fields) → fields_between None (Some k) (fields_between None (Some l) fs) ≡ fields_between None (Some k) fs
below_twice k l less no_fields = refl
below_twice k l less (field f s more) = by_order (cmp f l) refl (cmp f k) refl (below_twice k l less more)
  where
    by_order : (o : Ordering) → cmp f l ≡ o → (p : Ordering) → cmp f k ≡ p → fields_between None (Some k) (fields_between None (Some l) more) ≡ fields_between None (Some k) more
        → fields_between None (Some k) (fields_between None (Some l) (field f s more)) ≡ fields_between None (Some k) (field f s more)
    by_order Less is p at later = ap (fields_between None (Some k)) (below_by l f s more Less is) ∙ ap (λ fs. cond (is_lt (cmp f k)) (field f s fs) fs) later
    by_order Equal is Less at later = absurd (true≢false (ap is_lt (sym (nat_list_cmp_total.trans f k l at less) ∙ is)))
    by_order Equal is Equal at later = ap (fields_between None (Some k)) (below_by l f s more Equal is) ∙ later ∙ sym (below_by k f s more Equal at)
    by_order Equal is Greater at later = ap (fields_between None (Some k)) (below_by l f s more Equal is) ∙ later ∙ sym (below_by k f s more Greater at)
    by_order Greater is Less at later = absurd (true≢false (ap is_lt (sym (nat_list_cmp_total.trans f k l at less) ∙ is)))
    by_order Greater is Equal at later = ap (fields_between None (Some k)) (below_by l f s more Greater is) ∙ later ∙ sym (below_by k f s more Equal at)
    by_order Greater is Greater at later = ap (fields_between None (Some k)) (below_by l f s more Greater is) ∙ later ∙ sym (below_by k f s more Greater at)

pub above_below : (k l : List ℕ) (fs : Fields) → fields_between (Some k) None (fields_between None (Some l) fs) ≡ fields_between (Some k) (Some l) fs
above_below k l no_fields = refl
above_below k l (field f s more) = by_test (is_lt (cmp f l)) (above_below k l more)
  where
    by_test : (b : Bool) → fields_between (Some k) None (fields_between None (Some l) more) ≡ fields_between (Some k) (Some l) more
        → fields_between (Some k) None (cond b (field f s (fields_between None (Some l) more)) (fields_between None (Some l) more)) ≡ cond (is_lt (cmp k f) && b) (field f s (fields_between (Some k) (Some l) more)) (fields_between (Some k) (Some l) more)
    by_test true later = ap (λ fs. cond (is_lt (cmp k f) && true) (field f s fs) fs) later
    by_test false later = later ∙ sym (skipped (is_lt (cmp k f)))
      where
        skipped : (t : Bool) → cond (t && false) (field f s (fields_between (Some k) (Some l) more)) (fields_between (Some k) (Some l) more) ≡ fields_between (Some k) (Some l) more
        skipped true = refl
        skipped false = refl
