-- Items and members copied one after another.
use Rattle.std.proofs.Common.{◌≡◌, true, List, [], ◌∷◌, ◌++◌, refl, sym, ap, ◌∙◌}
use Rattle.json.specs.Value.{value_view}
use Rattle.json.specs.Value.{items_view as items_in, members_view as members_in}
use Rattle.serde_json.specs.Data.{Data, Items, no_items, item, Members, no_members, member, put}
use Rattle.serde_json.specs.View.{items_view, view}
use Rattle.serde_json.specs.declared.value.Value.{Value}
use Rattle.fieldpath.specs.Scalars.{ascend}
use Rattle.fieldpath.specs.Encodable.{member_names}
use Rattle.fieldpath.proofs.Encodable.{both, both_assoc, both_none, put_last}
use Rattle.json_texts.specs.InOrder.{are_ordered, data_of, items_data, members_data}
use Rattle.json_texts.proofs.Parts.{Entry, Item, names-data, ordered_parts}

-- the items so far, and those that are left
abbrev joined : List Value → Items → Items
joined [] more = more
joined (v ∷ vs) more = item (view v) (joined vs more)

joined_none : (vs : List Value) → joined vs no_items ≡ items_view vs
joined_none [] = refl
joined_none (v ∷ vs) = ap (item (view v)) (joined_none vs)

joined_push : (vs : List Value) (v : Value) (more : Items) → joined (vs ++ v ∷ []) more ≡ joined vs (item (view v) more)
joined_push [] v more = refl
joined_push (w ∷ vs) v more = ap (item (view w)) (joined_push vs v more)

abbrev pub AreCopied : List Value → List Item → Items → Type 0
AreCopied done left whole = joined done (items_data (items_in left)) ≡ whole

pub copies_begin : (done : List Value) (all : List Item) → done ≡ [] → AreCopied done all (items_data (items_in all))
copies_begin done all none = ap (λ vs. joined vs (items_data (items_in all))) none

pub copies_more : (done new : List Value) (v : Value) (left : List Item) (x : Item) (more : List Item) (whole : Items) → new ≡ done ++ v ∷ [] → view v ≡ data_of (value_view x) → left ≡ x ∷ more → AreCopied done left whole → AreCopied new more whole
copies_more done new v left x more whole pushed same steps so_far =
    let rest = items_data (items_in more) in
    ap (λ vs. joined vs rest) pushed ∙ joined_push done v rest ∙ ap (λ d. joined done (item d rest)) same
    ∙ sym (ap (λ l. joined done (items_data (items_in l))) steps) ∙ so_far

pub copies_end : (done : List Value) (left : List Item) (whole : Items) → left ≡ [] → AreCopied done left whole → items_view done ≡ whole
copies_end done left whole none so_far = sym (joined_none done) ∙ sym (ap (λ l. joined done (items_data (items_in l))) none) ∙ so_far

-- the members so far, and those that are left
abbrev pub ArePut : Members → List Entry → Members → Type 0
ArePut done left whole = (both done (members_data (members_in left)) ≡ whole) × (ascend (member_names whole) ≡ true)

pub puts_begin : (done : Members) (all : List Entry) → done ≡ no_members → are_ordered (members_in all) ≡ true → ArePut done all (members_data (members_in all))
puts_begin done all none up = (
  ap (λ ms. both ms (members_data (members_in all))) none,
  ap ascend (names-data (members_in all)) ∙ (ordered_parts (members_in all) up).0,
)

pub puts_more : (done new : Members) (d : Data) (left : List Entry) (m : Entry) (more : List Entry) (whole : Members) → new ≡ put m.0.now d done → d ≡ data_of (value_view m.1) → left ≡ m ∷ more → ArePut done left whole → ArePut new more whole
puts_more done new d left m more whole is same steps so_far =
    let k = m.0.now in
    let e = data_of (value_view m.1) in
    let rest = members_data (members_in more) in
    let all : both done (member k e rest) ≡ whole = sym (ap (λ l. both done (members_data (members_in l))) steps) ∙ so_far.0 in
    let last : put k e done ≡ both done (member k e no_members) = put_last k e done rest (ap (λ ms. ascend (member_names ms)) all ∙ so_far.1) in (
      ap (λ ms. both ms rest) (is ∙ ap (λ x. put k x done) same ∙ last) ∙ both_assoc done k e rest ∙ all,
      so_far.1,
    )

pub puts_end : (done : Members) (left : List Entry) (whole : Members) → left ≡ [] → ArePut done left whole → done ≡ whole
puts_end done left whole none so_far = sym (both_none done) ∙ sym (ap (λ l. both done (members_data (members_in l))) none) ∙ so_far.0
