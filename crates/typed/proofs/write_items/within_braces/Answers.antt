use Rattle.std.proofs.Common.{◌≡◌, ℕ, List, [], ◌∷◌, ◌++◌, Bor, MatchOption, Option, Some, None, drop, lit<, sym, ap, subst, ◌∙◌}
use Rattle.std.proofs.lemmas.Str.Pattern.{strip_prefix_char, strip_suffix_char}
use Rattle.typed.proofs.write_items.within_braces.Goals as goal

at_none : (P : Type 0) (Q : Bor (List ℕ) → Type 0) (r : Option (Bor (List ℕ))) → r ≡ None → MatchOption r P Q → P
at_none P Q r is h = subst (λ o. MatchOption o P Q) is h

at_some : (P : Type 0) (Q : Bor (List ℕ) → Type 0) (r : Option (Bor (List ℕ))) (x : Bor (List ℕ)) → r ≡ Some x → MatchOption r P Q → Q x
at_some P Q r x is h = subst (λ o. MatchOption o P Q) is h

pub returns-in_default : goal.returns-in_default
returns-in_default c = λ members is.
    absurd (at_none _ _ c.strip_prefix.result c.in_default.is (strip_prefix_char 123 c.args.text.now c.strip_prefix.result c.strip_prefix.ensures.cases (lit< tt)) (members ++ 125 ∷ []) is)

pub returns-in_default-strip_suffix : goal.returns-in_default-strip_suffix
returns-in_default-strip_suffix c = λ members is.
    let text = c.args.text.now in
    let rest = c.in-Some.rest in
    let opened : text ≡ 123 ∷ rest.now = at_some _ _ c.strip_prefix.result rest c.in-Some.is (strip_prefix_char 123 text c.strip_prefix.result c.strip_prefix.ensures.cases (lit< tt)) in
    absurd
    (at_none _ _ c.strip_suffix.result c.in_default-strip_suffix.is (strip_suffix_char 125 rest.now c.strip_suffix.result c.strip_suffix.ensures.cases (lit< tt)) members
    (ap (drop 1) (sym opened ∙ is)))
