-- How deep the parts of a borrowed value are.
use Rattle.std.proofs.Common.{◌≡◌, ◌<◌, ◌≤◌, ℕ, zero, suc, List, [], ◌∷◌, get_or, length, Some, unwrap_or, sym, ap, subst, arith}
use Rattle.json.specs.Value.{value_view, items_view, members_view}
use Rattle.serde_json.specs.Data.{Data, null, boolean, number, string, array, object, Items, Members, depth, items_depth, members_depth}
use Rattle.serde_json.specs.Find.{as_array, as_object}
use Rattle.json_texts.specs.InOrder.{data_of, items_data, members_data}
use Rattle.json_texts.proofs.Parts.{Entry, Item}

entry_depth : (ms : List Entry) (i : ℕ) (d : Entry) → i < length ms → depth (data_of (value_view (get_or ms i d).1)) ≤ members_depth (members_data (members_view ms))
entry_depth [] i d lt = absurd (omega arith)
entry_depth (n ∷ ms) zero d lt = omega arith
entry_depth (n ∷ ms) (suc i) d lt = let later = entry_depth ms i d (omega arith) in omega arith

pub member_depth : (ms : List Entry) (i : ℕ) (m : Entry) → i < length ms → m ≡ get_or ms i m → depth (data_of (value_view m.1)) ≤ members_depth (members_data (members_view ms))
member_depth ms i m lt is = subst (λ (x : Entry). depth (data_of (value_view x.1)) ≤ members_depth (members_data (members_view ms))) (sym is) (entry_depth ms i m lt)

pub object_depth : (d : Data) (ms : Members) → Some ms ≡ as_object d → depth d ≡ suc (members_depth ms)
object_depth null ms h = absurd cc
object_depth (boolean b) ms h = absurd cc
object_depth (number n) ms h = absurd cc
object_depth (string s) ms h = absurd cc
object_depth (array ds) ms h = absurd cc
object_depth (object ns) ms h = ap (λ o. suc (members_depth (unwrap_or o ns))) (sym h)

pub item_depth : (vs : List Item) (i : ℕ) (v : Item) → i < length vs → v ≡ get_or vs i v → depth (data_of (value_view v)) ≤ items_depth (items_data (items_view vs))
item_depth vs i v lt is = subst (λ x. depth (data_of (value_view x)) ≤ items_depth (items_data (items_view vs))) (sym is) (at_depth vs i v lt)
  where
    at_depth : (vs : List Item) (i : ℕ) (d : Item) → i < length vs → depth (data_of (value_view (get_or vs i d))) ≤ items_depth (items_data (items_view vs))
    at_depth [] i d lt = absurd (omega arith)
    at_depth (w ∷ vs) zero d lt = omega arith
    at_depth (w ∷ vs) (suc i) d lt = let later = at_depth vs i d (omega arith) in omega arith

pub array_depth : (d : Data) (ds : Items) → Some ds ≡ as_array d → depth d ≡ suc (items_depth ds)
array_depth null ds h = absurd cc
array_depth (boolean b) ds h = absurd cc
array_depth (number n) ds h = absurd cc
array_depth (string s) ds h = absurd cc
array_depth (array es) ds h = ap (λ o. suc (items_depth (unwrap_or o es))) (sym h)
array_depth (object ms) ds h = absurd cc
