-- Where a name stands among members, and what is left without it.
use Rattle.std.proofs.Common.{◌≡◌, ◌+◌, ◌<◌, Bool, true, false, cond, ℕ, zero, suc, List, [], ◌∷◌, remove, get_or, length, Option, Some, None, option_map, unwrap_or, Ordering, Less, Equal, Greater, nat_cmp, is_eq, refl, sym, ap, subst, ◌∙◌, arith}
use Rattle.std.specs.Cmp.Derive.{both_true}
use Rattle.std.specs.Cmp.Lexicographic.{slice_cmp}
use Rattle.std.specs.Ordering.{is_lt, match_ordering}
use Rattle.std.specs.Str.{bytes_eq}
use Rattle.std.proofs.lemmas.Bool.{and_parts}
use Rattle.std.proofs.lemmas.Map.Text.{is_eq-slice_cmp}
use Rattle.json.specs.Value.{value_view, members_view}
use Rattle.serde_json.specs.Data.{Members, member}
use Rattle.serde_json.specs.Find.{get_member}
use Rattle.json_values.specs.Members.{less}
use Rattle.fieldpath.specs.Scalars.{ascend, ascend_from}
use Rattle.fieldpath.proofs.Names.{ascend_rest, first_below, further, rest_above}
use Rattle.json_texts.specs.InOrder.{are_ordered, data_of, is_ordered, members_are_ordered, members_data, names}
use Rattle.json_texts.specs.Places.{place_of}
use Rattle.json_texts.proofs.Parts.{Entry, ordered_parts}

by_order : {X : Type 0} (o : Ordering) (other same : X) → match_ordering o other same other ≡ cond (is_eq o) same other
by_order Less other same = refl
by_order Equal other same = refl
by_order Greater other same = refl

module _ (k : List ℕ) where
  abbrev data_in : List Entry → Members
  data_in ms = members_data (members_view ms)

  found_first : (m : Entry) (ms : List Entry) → get_member k (data_in (m ∷ ms)) ≡ cond (bytes_eq k m.0.now) (Some (data_of (value_view m.1))) (get_member k (data_in ms))
  found_first m ms =
      by_order (slice_cmp nat_cmp k m.0.now) (get_member k (data_in ms)) (Some (data_of (value_view m.1)))
      ∙ ap (λ b. cond b (Some (data_of (value_view m.1))) (get_member k (data_in ms))) (is_eq-slice_cmp k m.0.now)

  less_first : (m : Entry) (ms : List Entry) → less k (data_in (m ∷ ms)) ≡ cond (bytes_eq k m.0.now) (data_in ms) (member m.0.now (data_of (value_view m.1)) (less k (data_in ms)))
  less_first m ms =
      by_order (slice_cmp nat_cmp k m.0.now) (member m.0.now (data_of (value_view m.1)) (less k (data_in ms))) (data_in ms)
      ∙ ap (λ b. cond b (data_in ms) (member m.0.now (data_of (value_view m.1)) (less k (data_in ms)))) (is_eq-slice_cmp k m.0.now)

  -- the name stands at this place, and what is left without it
  abbrev pub StandsAt : List Entry → ℕ → Type 0
  StandsAt ms i =
      (i < length ms) × ((d : Entry) → get_member k (data_in ms) ≡ Some (data_of (value_view (get_or ms i d).1)))
      × (data_in (remove ms i) ≡ less k (data_in ms))

  stands_later : (m : Entry) (ms : List Entry) (i : ℕ) → bytes_eq k m.0.now ≡ false → StandsAt ms i → StandsAt (m ∷ ms) (suc i)
  stands_later m ms i other h = (
    omega (arith, h.0),
    λ d. found_first m ms ∙ ap (λ b. cond b (Some (data_of (value_view m.1))) (get_member k (data_in ms))) other ∙ h.1 d,
    ap (member m.0.now (data_of (value_view m.1))) h.2
        ∙ sym (less_first m ms ∙ ap (λ b. cond b (data_in ms) (member m.0.now (data_of (value_view m.1)) (less k (data_in ms)))) other),
  )

  stands_first : (m : Entry) (ms : List Entry) → bytes_eq k m.0.now ≡ true → StandsAt (m ∷ ms) 0
  stands_first m ms same = (
    omega arith,
    λ d. found_first m ms ∙ ap (λ b. cond b (Some (data_of (value_view m.1))) (get_member k (data_in ms))) same,
    sym (less_first m ms ∙ ap (λ b. cond b (data_in ms) (member m.0.now (data_of (value_view m.1)) (less k (data_in ms)))) same),
  )

  stands_by : (m : Entry) (ms : List Entry) (b : Bool) (r : Option ℕ) (i : ℕ) → bytes_eq k m.0.now ≡ b → ((j : ℕ) → r ≡ Some j → StandsAt ms j) → cond b (Some 0) (option_map suc r) ≡ Some i → StandsAt (m ∷ ms) i
  stands_by m ms true r i is later h = subst (StandsAt (m ∷ ms)) (ap (λ o. unwrap_or o 0) h) (stands_first m ms is)
  stands_by m ms false None i is later h = absurd cc
  stands_by m ms false (Some j) i is later h = subst (StandsAt (m ∷ ms)) (ap (λ o. unwrap_or o 0) h) (stands_later m ms j is (later j refl))

  pub stands_at : (ms : List Entry) (i : ℕ) → place_of k (members_view ms) ≡ Some i → StandsAt ms i
  stands_at [] i h = absurd cc
  stands_at (m ∷ ms) i h = stands_by m ms (bytes_eq k m.0.now) (place_of k (members_view ms)) i refl (λ j. stands_at ms j) h

  -- the name is missing
  abbrev pub IsMissing : List Entry → Type 0
  IsMissing ms = (get_member k (data_in ms) ≡ None) × (data_in ms ≡ less k (data_in ms))

  missing_by : (m : Entry) (ms : List Entry) (b : Bool) (r : Option ℕ) → bytes_eq k m.0.now ≡ b → (r ≡ None → IsMissing ms) → cond b (Some 0) (option_map suc r) ≡ None → IsMissing (m ∷ ms)
  missing_by m ms true r is later h = absurd cc
  missing_by m ms false (Some j) is later h = absurd cc
  missing_by m ms false None is later h =
      let rest = later refl in (
        found_first m ms ∙ ap (λ b. cond b (Some (data_of (value_view m.1))) (get_member k (data_in ms))) is ∙ rest.0,
        ap (member m.0.now (data_of (value_view m.1))) rest.1
            ∙ sym (less_first m ms ∙ ap (λ b. cond b (data_in ms) (member m.0.now (data_of (value_view m.1)) (less k (data_in ms)))) is),
      )

  pub is_missing : (ms : List Entry) → place_of k (members_view ms) ≡ None → IsMissing ms
  is_missing [] h = (refl, refl)
  is_missing (m ∷ ms) h = missing_by m ms (bytes_eq k m.0.now) (place_of k (members_view ms)) refl (λ none. is_missing ms none) h

  -- ---- a loop over the members, as far as it has come

  abbrev pub IsSearchedTo : ℕ → List Entry → Option ℕ → Type 0
  IsSearchedTo i left whole = option_map (λ n. i + n) (place_of k (members_view left)) ≡ whole

  from_zero : (o : Option ℕ) → option_map (λ n. 0 + n) o ≡ o
  from_zero None = refl
  from_zero (Some n) = let same : 0 + n ≡ n = omega arith in ap Some same

  pub search_begin : (ms : List Entry) → IsSearchedTo 0 ms (place_of k (members_view ms))
  search_begin ms = from_zero (place_of k (members_view ms))

  one_on : (i : ℕ) (o : Option ℕ) → option_map (λ n. (i + 1) + n) o ≡ option_map (λ n. i + n) (option_map suc o)
  one_on i None = refl
  one_on i (Some n) = let same : (i + 1) + n ≡ i + suc n = omega arith in ap Some same

  module _ (i : ℕ) (left : List Entry) (m : Entry) (more : List Entry) (whole : Option ℕ) (steps : left ≡ m ∷ more) (so_far : IsSearchedTo i left whole) where
    next : option_map (λ n. i + n) (cond (bytes_eq k m.0.now) (Some 0) (option_map suc (place_of k (members_view more)))) ≡ whole
    next = sym (ap (λ l. option_map (λ n. i + n) (place_of k (members_view l))) steps) ∙ so_far

    pub search_found : bytes_eq k m.0.now ≡ true → Some i ≡ whole
    search_found same =
        let here : i ≡ i + 0 = omega arith in
        ap Some here ∙ sym (ap (λ b. option_map (λ n. i + n) (cond b (Some 0) (option_map suc (place_of k (members_view more))))) same) ∙ next

    pub search_on : bytes_eq k m.0.now ≡ false → IsSearchedTo (i + 1) more whole
    search_on other =
        one_on i (place_of k (members_view more))
        ∙ sym (ap (λ b. option_map (λ n. i + n) (cond b (Some 0) (option_map suc (place_of k (members_view more))))) other) ∙ next

  pub search_end : (i : ℕ) (left : List Entry) (whole : Option ℕ) → left ≡ [] → IsSearchedTo i left whole → None ≡ whole
  search_end i left whole none so_far = sym (ap (λ l. option_map (λ n. i + n) (place_of k (members_view l))) none) ∙ so_far

-- ---- what is left is in order

from_without : (l : List ℕ) (ms : List Entry) (i : ℕ) → i < length ms → ascend_from l (names (members_view ms)) ≡ true → ascend_from l (names (members_view (remove ms i))) ≡ true
from_without l [] i lt h = absurd (omega arith)
from_without l (m ∷ ms) zero lt h = let ns = names (members_view ms) in further l m.0.now ns (first_below l m.0.now ns h) (rest_above l m.0.now ns h)
from_without l (m ∷ ms) (suc i) lt h =
    let p = and_parts (is_lt (slice_cmp nat_cmp l m.0.now)) _ h in both_true p.0 (from_without m.0.now ms i (omega arith) p.1)

names_without : (ms : List Entry) (i : ℕ) → i < length ms → ascend (names (members_view ms)) ≡ true → ascend (names (members_view (remove ms i))) ≡ true
names_without [] i lt h = absurd (omega arith)
names_without (m ∷ ms) zero lt h = ascend_rest m.0.now (names (members_view ms)) h
names_without (m ∷ ms) (suc i) lt h = from_without m.0.now ms i (omega arith) h

values_without : (ms : List Entry) (i : ℕ) → i < length ms → members_are_ordered (members_view ms) ≡ true → members_are_ordered (members_view (remove ms i)) ≡ true
values_without [] i lt h = absurd (omega arith)
values_without (m ∷ ms) zero lt h = (and_parts (is_ordered (value_view m.1)) _ h).1
values_without (m ∷ ms) (suc i) lt h = let p = and_parts (is_ordered (value_view m.1)) _ h in both_true p.0 (values_without ms i (omega arith) p.1)

pub ordered_without : (ms : List Entry) (i : ℕ) → i < length ms → are_ordered (members_view ms) ≡ true → are_ordered (members_view (remove ms i)) ≡ true
ordered_without ms i lt h = let p = ordered_parts (members_view ms) h in both_true (names_without ms i lt p.0) (values_without ms i lt p.1)
