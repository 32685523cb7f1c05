use Rattle.std.proofs.Common.{◌≡◌, ℕ, ◌<◌, List, length, map, get_or, true≢false, sym, ap, subst, ◌∙◌}
use Rattle.std.proofs.lemmas.List.{get_or-map}
use Rattle.selector.specs.Views.{requirement_of}
use Rattle.selector.proofs.requirement.are_same.Goals as goal

-- lists that are the same are so at each place
same_at : {A B : Type 0} (f : A → B) (xs ys : List A) (i : ℕ) (x y : A) → i < length xs → i < length ys → x ≡ get_or xs i x → y ≡ get_or ys i y → map f xs ≡ map f ys → f x ≡ f y
same_at f xs ys i x y within within_other is is_other same =
    ap f is ∙ sym (get_or-map f xs i x (f x) within) ∙ ap (λ l. get_or l i (f x)) same ∙ get_or-map f ys i y (f x) within_other ∙ ap f (sym is_other)

pub returns-then-not-is_same : goal.returns-then-not-is_same
returns-then-not-is_same c = (
  λ e. absurd (true≢false (sym e)),
  λ same. c.if-not-is_same.ensures.1
      (same_at requirement_of c.args.ones.now c.args.others.now c.loop-i.i c.index-ones-i.result c.index-others-i.result c.loop-i-test.true
      (subst (λ n. c.loop-i.i < n) c.if-ones-others.false c.loop-i-test.true) c.index-ones-i.is c.index-others-i.is same),
)
