-- The paths of a map put after one prefix, one child after another.
use Rattle.std.proofs.Common.{◌≡◌, ℕ, Bool, true, false, cond, List, [], ◌∷◌, ◌++◌, map, Option, is_some, Ok, Err, OnOk, refl, sym, ap, ap₂, ◌∙◌}
use Rattle.std.proofs.lemmas.List.{append_assoc, append-nil, map-append}
use Rattle.std.specs.declared.result.Result.{Result}
use Rattle.fieldpath.specs.Paths.{PathTexts}
use Rattle.pathmap.specs.Contents.{Content, over, gather, dom, in_order}
use Rattle.pathmap.specs.Levels.{at_top, IsRising}
use Rattle.pathmap.specs.declared.held.PathValue.{PathValue}
use Rattle.pathmap.proofs.Order.{in_order-first, in_order-level, in_order-nothing, tops}

-- each path with the prefix before it
abbrev pub after_prefix : PathTexts → List PathTexts → List PathTexts
after_prefix prefix = map (λ q. prefix ++ q)

abbrev pub paths_below : List (List ℕ × Content) → List PathTexts
paths_below es = in_order (dom (gather es))

longer_prefix : (prefix : PathTexts) (f : List ℕ) (qs : List PathTexts) → after_prefix (prefix ++ f ∷ []) qs ≡ after_prefix prefix (map (λ q. f ∷ q) qs)
longer_prefix prefix f [] = refl
longer_prefix prefix f (q ∷ qs) = ap₂ (λ x xs. x ∷ xs) (append_assoc prefix (f ∷ []) q) (longer_prefix prefix f qs)

pub no_prefix : (qs : List PathTexts) → after_prefix [] qs ≡ qs
no_prefix [] = refl
no_prefix (q ∷ qs) = ap (λ xs. q ∷ xs) (no_prefix qs)

pub listed_more : (prefix next : PathTexts) (e : List ℕ × Content) (es : List (List ℕ × Content)) → IsRising (e ∷ es) → next ≡ prefix ++ e.0 ∷ []
    → (old new : List PathTexts) → new ≡ old ++ after_prefix next (in_order (dom e.1)) → new ++ after_prefix prefix (paths_below es) ≡ old ++ after_prefix prefix (paths_below (e ∷ es))
listed_more prefix next e es sorted is old new did =
    let mine = in_order (dom e.1) in
    ap (λ xs. xs ++ after_prefix prefix (paths_below es)) (did ∙ ap (λ p. old ++ after_prefix p mine) is ∙ ap (λ xs. old ++ xs) (longer_prefix prefix (e.0) mine))
    ∙ append_assoc old (after_prefix prefix (map (λ q. e.0 ∷ q) mine)) (after_prefix prefix (paths_below es))
    ∙ ap (λ xs. old ++ xs) (sym (map-append (λ q. prefix ++ q) (map (λ q. e.0 ∷ q) mine) (paths_below es)) ∙ ap (after_prefix prefix) (sym (in_order-first e es sorted)))

pub listed_none : (prefix : PathTexts) (it : List (List ℕ × Content)) (all : List PathTexts) → it ≡ [] → all ++ after_prefix prefix (paths_below it) ≡ all
listed_none prefix it all none = ap (λ es. all ++ after_prefix prefix (paths_below es)) none ∙ ap (λ qs. all ++ after_prefix prefix qs) in_order-nothing ∙ append-nil all

pub listed_level : (prefix : PathTexts) (held : Option PathValue) (es : List (List ℕ × Content)) (old mid : List PathTexts) → mid ≡ old ++ cond (is_some held) (prefix ∷ []) []
    → mid ++ after_prefix prefix (paths_below es) ≡ old ++ after_prefix prefix (in_order (dom (over (at_top held) (gather es))))
listed_level prefix held es old mid did =
    let rest = paths_below es in
    ap (λ xs. xs ++ after_prefix prefix rest) (did ∙ ap (λ xs. old ++ xs) (top (is_some held))) ∙ append_assoc old (after_prefix prefix (tops held)) (after_prefix prefix rest)
    ∙ ap (λ xs. old ++ xs) (sym (map-append (λ q. prefix ++ q) (tops held) rest) ∙ ap (after_prefix prefix) (sym (in_order-level held es)))
  where
    top : (b : Bool) → cond b (prefix ∷ []) [] ≡ after_prefix prefix (cond b ([] ∷ []) [])
    top true = ap (λ p. p ∷ []) (sym (append-nil prefix))
    top false = refl

pub on_rising : {A E : Type 0} (r : Result A E) (R P Q : Type 0) → R → (P → Q) → OnOk r (R → P) → OnOk r Q
on_rising (Ok x) R P Q rises f h = f (h rises)
on_rising (Err e) R P Q rises f h = h
