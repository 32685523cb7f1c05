-- Arrays that are equal, item by item, and objects, member by member.
use Rattle.std.proofs.Common.{◌≡◌, ◌≢◌, ℕ, suc, ◌+◌, ◌<◌, ◌≤◌, List, [], ◌∷◌, length, drop, get_or, Bool, true, false, ◌&&◌, eqb, eq-eqb, ne_eqb, Some, None, string_bytes, refl, sym, ap, ap₂, ◌∙◌, arith}
use Rattle.std.proofs.lemmas.List.{drop_all, drop_more}
use Rattle.serde_json.specs.Data.{Data, Members}
use Rattle.serde_json.specs.Events.{members_len}
use Rattle.serde_json.specs.Find.{get_member}
use Rattle.serde_json.specs.View.{view, items_view, members_view}
use Rattle.serde_json.specs.declared.value.Value.{Value}
use Rattle.serde_json.proofs.Views.{Entry, members_len-members_view}
use Rattle.json_patch.specs.Equality.{have_members, holds, same, same_items}

and_false : (b : Bool) → (b && false) ≡ false
and_false true = refl
and_false false = refl

pub unequal : (xs ys : List Value) → length xs ≢ length ys → false ≡ same_items (items_view xs) (items_view ys)
unequal [] [] other = absurd (other refl)
unequal [] (y ∷ ys) other = refl
unequal (x ∷ xs) [] other = refl
unequal (x ∷ xs) (y ∷ ys) other =
    sym (and_false (same (view x) (view y))) ∙ ap (λ b. same (view x) (view y) && b) (unequal xs ys (λ e. other (ap suc e)))

abbrev alike_from : List Value → List Value → Bool
alike_from xs ys = same_items (items_view xs) (items_view ys)

-- an item of each has been looked at
module _ (xs ys : List Value) (i : ℕ) (x y : Value) (here : i < length xs) (there : i < length ys) (x_is : x ≡ get_or xs i x) (y_is : y ≡ get_or ys i y)
    (so_far : same_items (items_view (drop i xs)) (items_view (drop i ys)) ≡ same_items (items_view xs) (items_view ys)) where
  both_left : (same (view x) (view y) && same_items (items_view (drop (i + 1) xs)) (items_view (drop (i + 1) ys))) ≡ same_items (items_view xs) (items_view ys)
  both_left =
      ap₂ (λ v w. same (view v) (view w) && alike_from (drop (i + 1) xs) (drop (i + 1) ys)) x_is y_is
      ∙ sym (ap₂ alike_from (drop_more xs i x here) (drop_more ys i y there)) ∙ so_far

  pub same_so_far : (b : Bool) → b ≡ same (view x) (view y) → b ≡ true → same_items (items_view (drop (i + 1) xs)) (items_view (drop (i + 1) ys)) ≡ same_items (items_view xs) (items_view ys)
  same_so_far b is t = ap (λ c. c && alike_from (drop (i + 1) xs) (drop (i + 1) ys)) (sym t ∙ is) ∙ both_left

  pub differs_here : (b : Bool) → b ≡ same (view x) (view y) → b ≡ false → false ≡ same_items (items_view xs) (items_view ys)
  differs_here b is f = ap (λ c. c && alike_from (drop (i + 1) xs) (drop (i + 1) ys)) (sym f ∙ is) ∙ both_left

pub all_alike : (xs ys : List Value) (i : ℕ) → length xs ≤ i → length xs ≡ length ys → same_items (items_view (drop i xs)) (items_view (drop i ys)) ≡ same_items (items_view xs) (items_view ys)
    → true ≡ same_items (items_view xs) (items_view ys)
all_alike xs ys i past same_length so_far = sym (ap₂ alike_from (drop_all i xs past) (drop_all i ys (omega arith))) ∙ so_far

-- ---- members

pub other_count : (es fs : List Entry) (b : Bool) → length es ≢ length fs → false ≡ (eqb (members_len (members_view es)) (members_len (members_view fs)) && b)
other_count es fs b other = sym (ap (λ c. c && b) (ne_eqb _ _ (λ e. other (sym (members_len-members_view es) ∙ e ∙ members_len-members_view fs))))

pub same_count : (es fs : List Entry) (b : Bool) → length es ≡ length fs → b ≡ (eqb (members_len (members_view es)) (members_len (members_view fs)) && b)
same_count es fs b e = sym (ap (λ c. c && b) (eq-eqb _ _ (members_len-members_view es ∙ e ∙ sym (members_len-members_view fs))))

module _ (whole : Bool) (ns : Members) (it : List Entry) (e : Entry) (left : List Entry) (steps : it ≡ e ∷ left) (so_far : have_members (members_view it) ns ≡ whole)
    (name : List ℕ) (named : name ≡ string_bytes e.0) where
  this_member : (holds (same (view e.1)) (get_member name ns) && have_members (members_view left) ns) ≡ whole
  this_member = ap (λ k. holds (same (view e.1)) (get_member k ns) && have_members (members_view left) ns) named ∙ sym (ap (λ es. have_members (members_view es) ns) steps) ∙ so_far

  pub no_member : None ≡ get_member name ns → false ≡ whole
  no_member none = ap (λ o. holds (same (view e.1)) o && have_members (members_view left) ns) none ∙ this_member

  module _ (f : Data) (there : Some f ≡ get_member name ns) (b : Bool) (tells : b ≡ same (view e.1) f) where
    decided : (b && have_members (members_view left) ns) ≡ whole
    decided = ap (λ c. c && have_members (members_view left) ns) (tells ∙ ap (holds (same (view e.1))) there) ∙ this_member

    pub member_differs : b ≡ false → false ≡ whole
    member_differs wrong = ap (λ c. c && have_members (members_view left) ns) (sym wrong) ∙ decided

    pub member_alike : b ≡ true → have_members (members_view left) ns ≡ whole
    member_alike t = ap (λ c. c && have_members (members_view left) ns) (sym t) ∙ decided

pub all_members_alike : (whole : Bool) (ns : Members) (it : List Entry) → it ≡ [] → have_members (members_view it) ns ≡ whole → true ≡ whole
all_members_alike whole ns it none so_far = sym (ap (λ es. have_members (members_view es) ns) none) ∙ so_far
