-- Loops that append what each item of a list adds: what is there with what is left is all.
use Rattle.std.proofs.Common.{◌≡◌, ℕ, ◌+◌, ◌<◌, ◌≤◌, List, [], ◌∷◌, ◌++◌, drop, get_or, length, map, ap, sym, subst, ◌∙◌, append_assoc, append-nil}
use Rattle.std.specs.List.{AllByRecursion}
use Rattle.std.proofs.lemmas.List.{drop_all, drop_more}
use Rattle.json.specs.Json.{Items, no_items, Members, no_members}
use Rattle.json.specs.Print.{IsPrintable}
use Rattle.json.specs.Reads.{token_of}
use Rattle.json.specs.Token.{end_array, end_object}
use Rattle.json.specs.Tree.{items_tokens, members_tokens}
use Rattle.json.specs.Written.{Written}
use Rattle.json.specs.declared.token.Token.{Token}
use Rattle.discovery.specs.Writing.{Adds, AddsItems, AddsMembers}

-- the item at a place, and those after it
pub at_place : {X : Type 0} (xs : List X) (i : ℕ) (x : X) → i < length xs → x ≡ get_or xs i x → drop i xs ≡ x ∷ drop (i + 1) xs
at_place xs i x lt is = drop_more xs i x lt ∙ ap (λ y. y ∷ drop (i + 1) xs) (sym is)

abbrev first_or : {X : Type 0} → X → List X → X
first_or d [] = d
first_or d (x ∷ xs) = x

-- within the list it doesn't matter what stands past its end
pub get_or_is : {X : Type 0} (xs : List X) (i : ℕ) (d : X) → i < length xs → get_or xs i d ≡ get_or xs i (get_or xs i d)
get_or_is xs i d lt = ap (first_or d) (sym (drop_more xs i d lt) ∙ drop_more xs i (get_or xs i d) lt)

-- ---- items of an array

abbrev pub ItemsSoFar : {X : Type 0} → (List X → Items) → List X → Written → ℕ → Written → Type 0
ItemsSoFar all xs o i w = (w.before ≡ o.before) × (w.tokens ++ items_tokens (all (drop i xs)) ≡ o.tokens ++ items_tokens (all xs))

module _ {X : Type 0} (all : List X → Items) (xs : List X) (o : Written) (i : ℕ) where
  pub items_next : (prefix : Items → Items) (x : X) → all (x ∷ drop (i + 1) xs) ≡ prefix (all (drop (i + 1) xs)) → i < length xs → x ≡ get_or xs i x → (w n : Written)
      → ItemsSoFar all xs o i w → AddsItems prefix w n → ItemsSoFar all xs o (i + 1) n
  items_next prefix x one lt is w n before added = (
    added.0 ∙ before.0,
    added.1 (all (drop (i + 1) xs)) ∙ sym (ap (λ ys. w.tokens ++ items_tokens (all ys)) (at_place xs i x lt is) ∙ ap (λ js. w.tokens ++ items_tokens js) one) ∙ before.1,
  )

  pub items_end : all [] ≡ no_items → length xs ≤ i → (w n : Written) → ItemsSoFar all xs o i w → Adds (end_array ∷ []) w n → Adds (items_tokens (all xs)) o n
  items_end none past w n before added =
      (added.0 ∙ before.0, added.1 ∙ sym (ap (λ ys. w.tokens ++ items_tokens (all ys)) (drop_all i xs past) ∙ ap (λ js. w.tokens ++ items_tokens js) none) ∙ before.1)

-- ---- members of an object

abbrev pub MembersSoFar : {X : Type 0} → (List X → Members) → List X → Written → ℕ → Written → Type 0
MembersSoFar all xs o i w = (w.before ≡ o.before) × (w.tokens ++ members_tokens (all (drop i xs)) ≡ o.tokens ++ members_tokens (all xs))

module _ {X : Type 0} (all : List X → Members) (xs : List X) (o : Written) (i : ℕ) where
  pub members_next : (prefix : Members → Members) (x : X) → all (x ∷ drop (i + 1) xs) ≡ prefix (all (drop (i + 1) xs)) → i < length xs → x ≡ get_or xs i x → (w n : Written)
      → MembersSoFar all xs o i w → AddsMembers prefix w n → MembersSoFar all xs o (i + 1) n
  members_next prefix x one lt is w n before added = (
    added.0 ∙ before.0,
    added.1 (all (drop (i + 1) xs)) ∙ sym (ap (λ ys. w.tokens ++ members_tokens (all ys)) (at_place xs i x lt is) ∙ ap (λ ms. w.tokens ++ members_tokens ms) one) ∙ before.1,
  )

  pub members_end : all [] ≡ no_members → length xs ≤ i → (w n : Written) → MembersSoFar all xs o i w → Adds (end_object ∷ []) w n → Adds (members_tokens (all xs)) o n
  members_end none past w n before added =
      (added.0 ∙ before.0, added.1 ∙ sym (ap (λ ys. w.tokens ++ members_tokens (all ys)) (drop_all i xs past) ∙ ap (λ ms. w.tokens ++ members_tokens ms) none) ∙ before.1)

-- ---- tokens

abbrev pub ArePrintable : List Token → Type 0
ArePrintable = AllByRecursion (λ t. IsPrintable (token_of t))

abbrev pub TokensSoFar : List Token → Written → ℕ → Written → Type 0
TokensSoFar xs o i w = ArePrintable (drop i xs) × (w.before ≡ o.before) × (w.tokens ++ map token_of (drop i xs) ≡ o.tokens ++ map token_of xs)

module _ (xs : List Token) (o : Written) (i : ℕ) (w : Written) (before : TokensSoFar xs o i w) where
  module _ (d : Token) (lt : i < length xs) where
    pub next_printable : IsPrintable (token_of (get_or xs i d))
    next_printable = (subst ArePrintable (drop_more xs i d lt) before.0).0

    pub tokens_next : (n : Written) → n.before ≡ w.before → n.tokens ≡ w.tokens ++ token_of (get_or xs i d) ∷ [] → TokensSoFar xs o (i + 1) n
    tokens_next n same pushed =
        let one = token_of (get_or xs i d) in
        let left = map token_of (drop (i + 1) xs) in (
          (subst ArePrintable (drop_more xs i d lt) before.0).1,
          same ∙ before.1,
          ap (λ ts. ts ++ left) pushed ∙ append_assoc w.tokens (one ∷ []) left ∙ sym (ap (λ ys. w.tokens ++ map token_of ys) (drop_more xs i d lt)) ∙ before.2,
        )

  pub tokens_end : length xs ≤ i → Adds (map token_of xs) o w
  tokens_end past = (before.1, sym (append-nil w.tokens) ∙ sym (ap (λ ys. w.tokens ++ map token_of ys) (drop_all i xs past)) ∙ before.2)
