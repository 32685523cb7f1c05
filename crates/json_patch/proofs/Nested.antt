-- How deep values nest, one after another.
use Rattle.std.proofs.Common.{◌≡◌, ℕ, suc, ◌+◌, ◌-◌, ◌<◌, ◌≤◌, max, leb, leb-true, le-leb, List, [], ◌∷◌, length, drop, get_or, Bool, true, false, Some, None, refl, sym, ap, ◌∙◌, arith}
use Rattle.std.specs.Option.{SomeIff}
use Rattle.std.proofs.lemmas.Bool.Decides.{nat_tests}
use Rattle.std.proofs.lemmas.List.{drop_all, drop_more}
use Rattle.serde_json.specs.Data.{depth, items_depth, members_depth}
use Rattle.serde_json.specs.View.{view, items_view, members_view}
use Rattle.serde_json.specs.declared.value.Value.{Value}
use Rattle.serde_json.proofs.Views.{Entry}
use Rattle.json_patch.proofs.Room.{within}

past : (l a b : ℕ) → ¬ (a ≤ l) → false ≡ leb (a + b) l
past l a b not = by_test (leb (a + b) l) refl
  where
    by_test : (t : Bool) → leb (a + b) l ≡ t → false ≡ t
    by_test true fits = let all = leb-true (a + b) l fits in absurd (not (omega arith))
    by_test false fits = refl

-- of two depths, one of which is within
other_within : (a b l : ℕ) → leb a l ≡ true → leb (max a b) l ≡ leb b l
other_within a b l h = grind (arith, nat_tests)

one_past : (a b l : ℕ) → leb a l ≡ false → false ≡ leb (max a b) l
one_past a b l h = grind (arith, nat_tests)

module _ (items : List Value) (i l : ℕ) (x : Value) (here : i < length items) (is : x ≡ get_or items i x)
    (so_far : leb (items_depth (items_view (drop i items))) l ≡ leb (items_depth (items_view items)) l) where
  this_item : leb (max (depth (view x)) (items_depth (items_view (drop (i + 1) items)))) l ≡ leb (items_depth (items_view items)) l
  this_item =
      ap (λ v. leb (max (depth (view v)) (items_depth (items_view (drop (i + 1) items)))) l) is
      ∙ sym (ap (λ vs. leb (items_depth (items_view vs)) l) (drop_more items i x here)) ∙ so_far

  pub item_within : (b : Bool) → b ≡ leb (depth (view x)) l → b ≡ true → leb (items_depth (items_view (drop (i + 1) items))) l ≡ leb (items_depth (items_view items)) l
  item_within b tells t = sym (other_within (depth (view x)) (items_depth (items_view (drop (i + 1) items))) l (sym tells ∙ t)) ∙ this_item

  pub item_past : (b : Bool) → b ≡ leb (depth (view x)) l → b ≡ false → false ≡ leb (items_depth (items_view items)) l
  item_past b tells f = one_past (depth (view x)) (items_depth (items_view (drop (i + 1) items))) l (sym tells ∙ f) ∙ this_item

module _ (whole : Bool) (it : List Entry) (l : ℕ) (e : Entry) (left : List Entry) (steps : it ≡ e ∷ left) (so_far : leb (members_depth (members_view it)) l ≡ whole) where
  this_member : leb (max (depth (view e.1)) (members_depth (members_view left))) l ≡ whole
  this_member = sym (ap (λ es. leb (members_depth (members_view es)) l) steps) ∙ so_far

  pub member_within : (b : Bool) → b ≡ leb (depth (view e.1)) l → b ≡ true → leb (members_depth (members_view left)) l ≡ whole
  member_within b tells t = sym (other_within (depth (view e.1)) (members_depth (members_view left)) l (sym tells ∙ t)) ∙ this_member

  pub member_past : (b : Bool) → b ≡ leb (depth (view e.1)) l → b ≡ false → false ≡ whole
  member_past b tells f = one_past (depth (view e.1)) (members_depth (members_view left)) l (sym tells ∙ f) ∙ this_member

pub items_end : (items : List Value) (i l : ℕ) → length items ≤ i → leb (items_depth (items_view (drop i items))) l ≡ leb (items_depth (items_view items)) l → true ≡ leb (items_depth (items_view items)) l
items_end items i l past so_far = sym (le-leb 0 l (omega arith)) ∙ sym (ap (λ vs. leb (items_depth (items_view vs)) l) (drop_all i items past)) ∙ so_far

pub members_end : (whole : Bool) (it : List Entry) (l : ℕ) → it ≡ [] → leb (members_depth (members_view it)) l ≡ whole → true ≡ whole
members_end whole it l none so_far = sym (le-leb 0 l (omega arith)) ∙ sym (ap (λ es. leb (members_depth (members_view es)) l) none) ∙ so_far

-- one level less
pub one_less : (n l k : ℕ) → SomeIff (Some k) (1 ≤ l) (l - 1) → leb n k ≡ leb (suc n) l
one_less n l k is = ap (leb n) (is.1) ∙ within l 1 n is.0 ∙ ap (λ m. leb m l) (let e : 1 + n ≡ suc n = omega arith in e)

pub no_level : (n l : ℕ) → SomeIff {T = ℕ} None (1 ≤ l) (l - 1) → false ≡ leb (suc n) l
no_level n l not = past l 1 n not ∙ ap (λ m. leb m l) (let e : 1 + n ≡ suc n = omega arith in e)

pub levels_left : (a d l k : ℕ) → SomeIff (Some k) (a ≤ l) (l - a) → leb d k ≡ leb (a + d) l
levels_left a d l k is = ap (leb d) (is.1) ∙ within l a d is.0

pub none_left : (a d l : ℕ) → SomeIff {T = ℕ} None (a ≤ l) (l - a) → false ≡ leb (a + d) l
none_left a d l not = past l a d not
