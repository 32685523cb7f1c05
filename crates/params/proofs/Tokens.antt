-- The text of a token reads back.
use Rattle.std.proofs.Common.{◌≡◌, ◌∙◌, ℕ, suc, ◌+◌, ◌<◌, ◌&&◌, ◌||◌, eqb-true, Bool, true, false, cond, not, List, [], ◌∷◌, ◌++◌, length, take, drop, Some, refl, ap, ap₂, arith, one-add, lit<}
use Rattle.std.specs.Prelude.{decimal}
use Rattle.std.specs.List.{list_any, list_all, position_or_len}
use Rattle.std.specs.Char.{is_ascii_digit}
use Rattle.std.proofs.lemmas.Fmt.{digits_decimal}
use Rattle.names.specs.Decimals.{version_of}
use Rattle.names.proofs.Decimals.{digits, exact}
use Rattle.params.specs.Texts.{cut_at_dot, is_dot, is_dotless, token_at, token_cut, token_of, token_text, token_with, IsToken}
use Rattle.params.specs.Values.{Token}

-- the first dot stands at the end of what has none
place_of_dot : (prefix back : List ℕ) → is_dotless prefix ≡ true → position_or_len is_dot (prefix ++ 46 ∷ back) ≡ length prefix
place_of_dot [] back none = refl
place_of_dot (b ∷ bs) back none = go (place_of_dot bs back) (is_dot b) refl none
  where
    go : (is_dotless bs ≡ true → position_or_len is_dot (bs ++ 46 ∷ back) ≡ length bs) → (t : Bool) → is_dot b ≡ t → (not t && is_dotless bs) ≡ true → cond (not t) (1 + position_or_len is_dot (bs ++ 46 ∷ back)) 0 ≡ length (b ∷ bs)
    go rest true is h = cc
    go rest false is h = ap (λ n. 1 + n) (rest h) ∙ one-add _

take_prefix : (prefix back : List ℕ) → take (length prefix) (prefix ++ back) ≡ prefix
take_prefix [] back = refl
take_prefix (b ∷ bs) back = ap (λ xs. b ∷ xs) (take_prefix bs back)

drop_prefix : (prefix back : List ℕ) → drop (length prefix + 1) (prefix ++ 46 ∷ back) ≡ back
drop_prefix [] back = refl
drop_prefix (b ∷ bs) back = let shift : length (b ∷ bs) + 1 ≡ suc (length bs + 1) = omega arith in rw shift (drop_prefix bs back)

some_dot : (prefix back : List ℕ) → list_any is_dot (prefix ++ 46 ∷ back) ≡ true
some_dot [] back = refl
some_dot (b ∷ bs) back = go (is_dot b) (some_dot bs back)
  where
    go : (t : Bool) → list_any is_dot (bs ++ 46 ∷ back) ≡ true → (t || list_any is_dot (bs ++ 46 ∷ back)) ≡ true
    go true h = refl
    go false h = h

cut_between : (prefix back : List ℕ) → is_dotless prefix ≡ true → cut_at_dot (prefix ++ 46 ∷ back) ≡ Some (prefix, back)
cut_between prefix back none =
    rw (some_dot prefix back) (ap (λ n. Some (take n (prefix ++ 46 ∷ back), drop (n + 1) (prefix ++ 46 ∷ back))) (place_of_dot prefix back none)
    ∙ ap₂ (λ xs ys. Some (xs, ys)) (take_prefix prefix (46 ∷ back)) (drop_prefix prefix back))

right : (a b : Bool) → (a && b) ≡ true → b ≡ true
right true b h = h
right false b h = cc

digits_have_none : (ds : List ℕ) → list_all is_ascii_digit ds ≡ true → is_dotless ds ≡ true
digits_have_none [] h = refl
digits_have_none (d ∷ ds) h = go (digits_have_none ds) (is_dot d) refl h
  where
    go : (list_all is_ascii_digit ds ≡ true → is_dotless ds ≡ true) → (t : Bool) → is_dot d ≡ t → list_all is_ascii_digit (d ∷ ds) ≡ true → (not t && is_dotless ds) ≡ true
    go rest true is all =
        let same : d ≡ 46 = eqb-true d 46 is in
        let bad : false ≡ true = rw same at all in
        cc
    go rest false is all = rest (right (is_ascii_digit d) _ all)

filled : (r : ℕ) (namespace name : List ℕ) → 0 < length namespace → 0 < length name → token_with (Some r) namespace name ≡ Some (record { revision = r; namespace = namespace; name = name })
filled r [] name some more = absurd (omega arith)
filled r (b ∷ bs) [] some more = absurd (omega arith)
filled r (b ∷ bs) (c ∷ cs) some more = refl

pub reads_back : (t : Token) → IsToken t → token_of (token_text t) ≡ Some t
reads_back t is =
    let number : version_of (decimal t.revision) ≡ Some t.revision = (exact 9223372036854775807 (decimal t.revision) t.revision (lit< tt)).1 (is.revision, refl) in
    let none = digits_have_none (decimal t.revision) (digits_decimal digits t.revision (omega (arith, is.revision))) in
    ap token_cut (cut_between (decimal t.revision) (t.namespace ++ 46 ∷ t.name) none)
    ∙ ap (token_at (decimal t.revision)) (cut_between t.namespace t.name is.dotless)
    ∙ ap (λ r. token_with r t.namespace t.name) number
    ∙ filled t.revision t.namespace t.name is.namespace is.name
