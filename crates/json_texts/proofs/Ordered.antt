-- What texts in order are read as, and that compact texts are in order.
use Rattle.std.proofs.Common.{◌≡◌, Bool, true, false, cond, not, true≢false, ℕ, List, ◌∷◌, Option, Some, None, option_map, option_and_then, refl, sym, ap, ap₂, ◌∙◌}
use Rattle.std.specs.Cmp.Derive.{both_true}
use Rattle.std.proofs.lemmas.Bool.{and_parts, or_parts}
use Rattle.json.specs.Json as json
use Rattle.serde_json.specs.Data.{Num, Data, null, boolean, number, string, array, object, Items, no_items, item, Members, no_members, member, put}
use Rattle.serde_json.specs.Find.{is_float}
use Rattle.serde_json.specs.Read.{number_of, of_json, of_items, of_members}
use Rattle.serde_json.specs.Written.{outline, items_outline, members_outline, has_float, items_have_float, members_have_float}
use Rattle.fieldpath.specs.Scalars.{ascend}
use Rattle.fieldpath.specs.Encodable.{IsEncodable, AreEncodable, MembersAreEncodable, member_names}
use Rattle.fieldpath.proofs.Encodable.{both, both_assoc, both_none, compact-outline, number_back, put_last}
use Rattle.json_texts.specs.InOrder.{number_or_null, data_of, items_data, members_data, is_whole, names, is_ordered, items_are_ordered, members_are_ordered, data_if_ordered, json_of, in_order}
use Rattle.json_texts.specs.Laws.{CompactTextsAreOrdered, OrderedTextsAreRead}
use Rattle.json_texts.proofs.Parts.{names-data}

-- ---- what is read of a value in order is what it represents

number_read : (o : Option Num) → is_whole o ≡ true → option_map number o ≡ Some (number_or_null o)
number_read None h = absurd (true≢false (sym h))
number_read (Some n) h = refl

mutual
  json_read : (j : json.Json) → is_ordered j ≡ true → of_json j ≡ Some (data_of j)
  json_read json.null h = refl
  json_read (json.boolean b) h = refl
  json_read (json.number s) h = number_read (number_of s) h
  json_read (json.string s) h = refl
  json_read (json.array js) h = ap (option_map array) (items_read js h)
  json_read (json.object ms) h =
      let p = and_parts (ascend (names ms)) _ h in
      ap (option_map object) (members_read ms no_members (ap ascend (names-data ms) ∙ p.0) p.1)

  items_read : (js : json.Items) → items_are_ordered js ≡ true → of_items js ≡ Some (items_data js)
  items_read json.no_items h = refl
  items_read (json.item j js) h =
      let p = and_parts (is_ordered j) _ h in
      ap (option_and_then (λ x. option_map (item x) (of_items js))) (json_read j p.0) ∙ ap (option_map (item (data_of j))) (items_read js p.1)

  members_read : (ms : json.Members) (found : Members) → ascend (member_names (both found (members_data ms))) ≡ true → members_are_ordered ms ≡ true → of_members ms found ≡ Some (both found (members_data ms))
  members_read json.no_members found up h = ap Some (sym (both_none found))
  members_read (json.member k j ms) found up h =
      let p = and_parts (is_ordered j) _ h in
      let d = data_of j in
      let next = both_assoc found k d (members_data ms) in
      ap (option_and_then (λ x. of_members ms (put k x found))) (json_read j p.0)
      ∙ ap (of_members ms) (put_last k d found (members_data ms) up)
      ∙ members_read ms (both found (member k d no_members)) (ap (λ ns. ascend (member_names ns)) next ∙ up) p.1 ∙ ap Some next

some_data : (b : Bool) (j : json.Json) (d : Data) → is_ordered j ≡ b → cond b (Some (data_of j)) None ≡ Some d → of_json j ≡ Some d
some_data true j d is h = json_read j is ∙ h
some_data false j d is h = absurd cc

ordered_is : (o : Option json.Json) (d : Data) → option_and_then data_if_ordered o ≡ Some d → option_and_then of_json o ≡ Some d
ordered_is None d h = absurd cc
ordered_is (Some j) d h = some_data (is_ordered j) j d refl h

pub ordered-read : OrderedTextsAreRead
unfolding in_order
ordered-read text d h = ordered_is (json_of text) d h

-- ---- a compact text is in order

names-outline : (ms : Members) → names (members_outline ms) ≡ member_names ms
names-outline no_members = refl
names-outline (member k d ms) = ap (λ ns. k ∷ ns) (names-outline ms)

whole_back : (n : Num) → is_float n ≡ false → is_whole (Some n) ≡ true
whole_back n h = ap not h

mutual
  outline_ordered : (d : Data) → IsEncodable d → has_float d ≡ false → is_ordered (outline d) ≡ true
  outline_ordered null s h = refl
  outline_ordered (boolean b) s h = refl
  outline_ordered (number n) s h = ap is_whole (number_back n s h) ∙ whole_back n h
  outline_ordered (string x) s h = refl
  outline_ordered (array ds) s h = items_outline_ordered ds s h
  outline_ordered (object ms) s h = both_true (ap ascend (names-outline ms) ∙ s.0) (members_outline_ordered ms s.1 h)

  items_outline_ordered : (ds : Items) → AreEncodable ds → items_have_float ds ≡ false → items_are_ordered (items_outline ds) ≡ true
  items_outline_ordered no_items s h = refl
  items_outline_ordered (item d ds) s h = let p = or_parts (has_float d) _ h in both_true (outline_ordered d s.0 p.0) (items_outline_ordered ds s.1 p.1)

  members_outline_ordered : (ms : Members) → MembersAreEncodable ms → members_have_float ms ≡ false → members_are_ordered (members_outline ms) ≡ true
  members_outline_ordered no_members s h = refl
  members_outline_ordered (member k d ms) s h = let p = or_parts (has_float d) _ h in both_true (outline_ordered d s.0 p.0) (members_outline_ordered ms s.1 p.1)

mutual
  outline_data : (d : Data) → IsEncodable d → has_float d ≡ false → data_of (outline d) ≡ d
  outline_data null s h = refl
  outline_data (boolean b) s h = refl
  outline_data (number n) s h = ap number_or_null (number_back n s h)
  outline_data (string x) s h = refl
  outline_data (array ds) s h = ap array (items_outline_data ds s h)
  outline_data (object ms) s h = ap object (members_outline_data ms s.1 h)

  items_outline_data : (ds : Items) → AreEncodable ds → items_have_float ds ≡ false → items_data (items_outline ds) ≡ ds
  items_outline_data no_items s h = refl
  items_outline_data (item d ds) s h = let p = or_parts (has_float d) _ h in ap₂ item (outline_data d s.0 p.0) (items_outline_data ds s.1 p.1)

  members_outline_data : (ms : Members) → MembersAreEncodable ms → members_have_float ms ≡ false → members_data (members_outline ms) ≡ ms
  members_outline_data no_members s h = refl
  members_outline_data (member k d ms) s h = let p = or_parts (has_float d) _ h in ap₂ (member k) (outline_data d s.0 p.0) (members_outline_data ms s.1 p.1)

pub compact-ordered : CompactTextsAreOrdered
unfolding in_order
compact-ordered d s h shallow =
    ap (option_and_then data_if_ordered) (compact-outline d s h shallow)
    ∙ ap (λ b. cond b (Some (data_of (outline d))) None) (outline_ordered d s h) ∙ ap Some (outline_data d s h)

-- ---- what the reader answers

pub in_order-is : (text : List ℕ) (j : json.Json) → json_of text ≡ Some j → is_ordered j ≡ true → Some (data_of j) ≡ in_order text
unfolding in_order
in_order-is text j read up = sym (ap (option_and_then data_if_ordered) read ∙ ap (λ b. cond b (Some (data_of j)) None) up)

pub not_in_order : (text : List ℕ) (j : json.Json) → json_of text ≡ Some j → is_ordered j ≡ false → None ≡ in_order text
unfolding in_order
not_in_order text j read up = sym (ap (option_and_then data_if_ordered) read ∙ ap (λ b. cond b (Some (data_of j)) None) up)

pub no_value : (text : List ℕ) → json_of text ≡ None → None ≡ in_order text
unfolding in_order
no_value text none = sym (ap (option_and_then data_if_ordered) none)
