-- The parts of values in order, one by one.
use Rattle.std.proofs.Common.{◌≡◌, ◌<◌, true, ℕ, zero, suc, List, [], ◌∷◌, ◌+◌, map, drop, get_or, length, Global, Bor, refl, sym, ap, ◌∙◌, arith}
use Rattle.std.specs.Cmp.Derive.{both_true}
use Rattle.std.proofs.lemmas.Bool.{and_parts}
use Rattle.std.proofs.lemmas.List.{drop_more}
use Rattle.json.specs.Json as json
use Rattle.json.specs.Value.{value_view, items_view, members_view}
use Rattle.json.specs.declared.value.Value.{Value}
use Rattle.fieldpath.specs.Scalars.{ascend}
use Rattle.fieldpath.specs.Encodable.{member_names}
use Rattle.fieldpath.proofs.Names.{ascend_rest}
use Rattle.json_texts.specs.InOrder.{are_ordered, is_ordered, items_are_ordered, members_are_ordered, members_data, names}

abbrev pub Item : Type 0
Item = Value Global

-- a member as a slice has it: its name and its value
abbrev pub Entry : Type 0
Entry = Bor (List ℕ) × Item

pub names-data : (ms : json.Members) → member_names (members_data ms) ≡ names ms
names-data json.no_members = refl
names-data (json.member k j ms) = ap (λ ns. k ∷ ns) (names-data ms)

pub names-members : (ms : List Entry) → names (members_view ms) ≡ map (λ m. m.0.now) ms
names-members [] = refl
names-members (m ∷ ms) = ap (λ ns. m.0.now ∷ ns) (names-members ms)

-- what an object's members, in order, are: their names ascend, and each is in order
pub ordered_parts : (ms : json.Members) → are_ordered ms ≡ true → (ascend (names ms) ≡ true) × (members_are_ordered ms ≡ true)
ordered_parts ms h = and_parts (ascend (names ms)) _ h

-- ---- items

pub item_ordered : (vs : List Item) (i : ℕ) (v : Item) → i < length vs → v ≡ get_or vs i v → items_are_ordered (items_view vs) ≡ true → is_ordered (value_view v) ≡ true
item_ordered [] i v lt is h = absurd (omega arith)
item_ordered (w ∷ vs) zero v lt is h = ap (λ x. is_ordered (value_view x)) is ∙ (and_parts (is_ordered (value_view w)) _ h).0
item_ordered (w ∷ vs) (suc i) v lt is h = item_ordered vs i v (omega arith) is (and_parts (is_ordered (value_view w)) _ h).1

pub items_left : (vs : List Item) (i : ℕ) → items_are_ordered (items_view vs) ≡ true → items_are_ordered (items_view (drop i vs)) ≡ true
items_left vs zero h = h
items_left [] (suc i) h = refl
items_left (w ∷ vs) (suc i) h = items_left vs i (and_parts (is_ordered (value_view w)) _ h).1

-- ---- members

pub entry_ordered : (ms : List Entry) (i : ℕ) (d : Entry) → i < length ms → members_are_ordered (members_view ms) ≡ true → is_ordered (value_view (get_or ms i d).1) ≡ true
entry_ordered [] i d lt h = absurd (omega arith)
entry_ordered (n ∷ ms) zero d lt h = (and_parts (is_ordered (value_view n.1)) _ h).0
entry_ordered (n ∷ ms) (suc i) d lt h = entry_ordered ms i d (omega arith) (and_parts (is_ordered (value_view n.1)) _ h).1

pub member_ordered : (ms : List Entry) (i : ℕ) (m : Entry) → i < length ms → m ≡ get_or ms i m → members_are_ordered (members_view ms) ≡ true → is_ordered (value_view m.1) ≡ true
member_ordered ms i m lt is h = ap (λ x. is_ordered (value_view x.1)) is ∙ entry_ordered ms i m lt h

rest_ascends : (n : Entry) (ms : List Entry) → ascend (names (members_view (n ∷ ms))) ≡ true → ascend (names (members_view ms)) ≡ true
rest_ascends n ms h = ascend_rest n.0.now (names (members_view ms)) h

names_left : (ms : List Entry) (i : ℕ) → ascend (names (members_view ms)) ≡ true → ascend (names (members_view (drop i ms))) ≡ true
names_left ms zero h = h
names_left [] (suc i) h = refl
names_left (n ∷ ms) (suc i) h = names_left ms i (rest_ascends n ms h)

values_left : (ms : List Entry) (i : ℕ) → members_are_ordered (members_view ms) ≡ true → members_are_ordered (members_view (drop i ms)) ≡ true
values_left ms zero h = h
values_left [] (suc i) h = refl
values_left (n ∷ ms) (suc i) h = values_left ms i (and_parts (is_ordered (value_view n.1)) _ h).1

pub members_left : (ms : List Entry) (i : ℕ) → are_ordered (members_view ms) ≡ true → are_ordered (members_view (drop i ms)) ≡ true
members_left ms i h =
    let p = ordered_parts (members_view ms) h in
    both_true (names_left ms i p.0) (values_left ms i p.1)

-- what is left of a slice at a place within it
pub at_place : {X : Type 0} (xs : List X) (i : ℕ) (x : X) → i < length xs → x ≡ get_or xs i x → drop i xs ≡ x ∷ drop (i + 1) xs
at_place xs i x lt is = drop_more xs i x lt ∙ ap (λ y. y ∷ drop (i + 1) xs) (sym is)
