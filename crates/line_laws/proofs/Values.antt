-- A line as JSON: what stands in it is read back.
use Rattle.std.proofs.Common.{◌≡◌, ℕ, suc, ◌<◌, ◌≤◌, pos, negsuc, max, false, true≢false, List, [], ◌++◌, Option, Some, IsUtf8, refl, sym, ap, ap₂, subst, ◌∙◌, arith, append-nil}
use Rattle.std.specs.Prelude.{codes, option_and_then, option_map}
use Rattle.std.specs.declared.result.Result.TheVariants.{Ok}
use Rattle.std.proofs.lemmas.Bool.{or_parts}
use Rattle.std.proofs.lemmas.Str.{IsUtf8-append}
use Rattle.json.specs.Json as json
use Rattle.json.specs.Lex.{tokens}
use Rattle.json.specs.Tree as tree
use Rattle.json.specs.Tree.{HasNumbers, ItemsHaveNumbers, MembersHaveNumbers, json_tokens}
use Rattle.json.specs.Token.{Token}
use Rattle.json.specs.Print.{IsNumber}
use Rattle.json.proofs.Printed.Decimals.{IsNumber-decimal, IsNumber-signed_decimal}
use Rattle.json.proofs.Printed.Tokens.{tokens-print}
use Rattle.json.proofs.Printed.Trees.{value-json_tokens, ArePrintable-json_tokens}
use Rattle.json.proofs.Printed.Utf8.{IsUtf8-are_ascii}
use Rattle.serde_json.specs.Data.{Num, unsigned, negative, float, Data, null, boolean, number, string, array, object, Items, no_items, item, Members, no_members, member, put, depth, items_depth, members_depth}
use Rattle.serde_json.specs.Find.{is_float}
use Rattle.serde_json.specs.Read.{read, of_json, max_depth}
use Rattle.serde_json.specs.Written.{number_text, outline, items_outline, members_outline, has_float, items_have_float, members_have_float, compact_text}
use Rattle.serde_json.proofs.OnLiterals.{serde_json_on_literals}
use Rattle.serde_json.proofs.Texts.{print-outline}
use Rattle.fieldpath.specs.Encodable.{IsEncodableNumber, IsEncodable, AreEncodable, MembersAreEncodable}
use Rattle.fieldpath.proofs.Encodable.{compact-read}
use Rattle.decoder.specs.Members.{value_in}
use Rattle.decoder.proofs.Texts.{value_read}
use Rattle.watchline.specs.declared.event.EventType.{EventType}
use Rattle.watchline.specs.declared.event.EventType.TheVariants as event
use Rattle.watchline.specs.Lines.{type_text}
use Rattle.line_laws.specs.Shown.{IsShown, line_value, shown}

-- ---- a value and its outline

number_is : (n : Num) → IsEncodableNumber n → is_float n ≡ false → IsNumber (number_text n)
number_is (unsigned n) fits h = IsNumber-decimal n fits
number_is (negative (pos n)) fits h = absurd fits
number_is (negative (negsuc n)) fits h = IsNumber-signed_decimal (negsuc n) fits
number_is (float x) fits h = absurd (true≢false h)

mutual
  has_numbers : (d : Data) → IsEncodable d → has_float d ≡ false → HasNumbers (outline d)
  has_numbers null s h = tt
  has_numbers (boolean b) s h = tt
  has_numbers (number n) s h = number_is n s h
  has_numbers (string x) s h = tt
  has_numbers (array ds) s h = items_numbers ds s h
  has_numbers (object ms) s h = members_numbers ms s.1 h

  items_numbers : (ds : Items) → AreEncodable ds → items_have_float ds ≡ false → ItemsHaveNumbers (items_outline ds)
  items_numbers no_items s h = tt
  items_numbers (item d ds) s h = let p = or_parts (has_float d) _ h in (has_numbers d s.0 p.0, items_numbers ds s.1 p.1)

  members_numbers : (ms : Members) → MembersAreEncodable ms → members_have_float ms ≡ false → MembersHaveNumbers (members_outline ms)
  members_numbers no_members s h = tt
  members_numbers (member k d ms) s h = let p = or_parts (has_float d) _ h in (has_numbers d s.0 p.0, members_numbers ms s.1 p.1)

mutual
  outline_depth : (d : Data) → tree.depth (outline d) ≡ depth d
  outline_depth null = refl
  outline_depth (boolean b) = refl
  outline_depth (number n) = refl
  outline_depth (string s) = refl
  outline_depth (array ds) = ap suc (items_outline_depth ds)
  outline_depth (object ms) = ap suc (members_outline_depth ms)

  items_outline_depth : (ds : Items) → tree.items_depth (items_outline ds) ≡ items_depth ds
  items_outline_depth no_items = refl
  items_outline_depth (item d ds) = ap₂ max (outline_depth d) (items_outline_depth ds)

  members_outline_depth : (ms : Members) → tree.members_depth (members_outline ms) ≡ members_depth ms
  members_outline_depth no_members = refl
  members_outline_depth (member k d ms) = ap₂ max (outline_depth d) (members_outline_depth ms)

abbrev whole : Option (json.Json × List Token) → Option Data
whole o = option_and_then of_json (option_and_then (λ p. json.if_last p.0 p.1) o)

-- a compact text is read as what its outline is, whatever the order of its members
outline_read : (d : Data) → HasNumbers (outline d) → depth d ≤ max_depth → read (compact_text d) ≡ of_json (outline d)
outline_read d numbers shallow =
    let same : tokens (compact_text d) ≡ json_tokens (outline d) = ap tokens (sym (print-outline d)) ∙ tokens-print (json_tokens (outline d)) (ArePrintable-json_tokens (outline d) numbers) in
    let deep : tree.depth (outline d) ≤ max_depth = subst (λ n. n ≤ max_depth) (sym (outline_depth d)) shallow in
    ap whole (ap (json.value max_depth) (same ∙ sym (append-nil (json_tokens (outline d)))) ∙ value-json_tokens (outline d) max_depth [] deep)

-- ---- a line

-- with its members as they stand
abbrev as_written : EventType → Data → Data
as_written what d = object (member (codes "type") (string (type_text what)) (member (codes "object") d no_members))

pub shown_is : (what : EventType) (d : Data) → shown what (compact_text d) ≡ compact_text (as_written what d)
unfolding serde_json_on_literals
shown_is event.Added d = refl
shown_is event.Modified d = refl
shown_is event.Deleted d = refl
shown_is event.Bookmark d = refl
shown_is event.Error d = refl

module _ (what : EventType) (d : Data) (fits : IsShown d) where
  numbers : HasNumbers (outline d)
  numbers = has_numbers d fits.encodable fits.whole

  json_back : of_json (outline d) ≡ Some d
  json_back =
      let room : depth d < max_depth = fits.shallow in
      let shallow : depth d ≤ max_depth = omega (arith, room) in
      sym (outline_read d numbers shallow) ∙ compact-read d fits.encodable fits.whole shallow

  one_deeper : depth (as_written what d) ≤ max_depth
  one_deeper = let room : depth d < max_depth = fits.shallow in omega (arith, room)

  line_numbers : HasNumbers (outline (as_written what d))
  line_numbers = (tt, (numbers, tt))

  pub line_read : read (shown what (compact_text d)) ≡ Some (line_value what d)
  line_read =
      ap read (shown_is what d) ∙ outline_read (as_written what d) line_numbers one_deeper
      ∙ ap (λ o. option_map object (option_and_then (λ x. Some (put (codes "object") x (put (codes "type") (string (type_text what)) no_members))) o)) json_back

type_utf8 : (what : EventType) → IsUtf8 (codes "{\"type\":\"" ++ type_text what ++ codes "\",\"object\":")
type_utf8 event.Added = IsUtf8-are_ascii _ refl
type_utf8 event.Modified = IsUtf8-are_ascii _ refl
type_utf8 event.Deleted = IsUtf8-are_ascii _ refl
type_utf8 event.Bookmark = IsUtf8-are_ascii _ refl
type_utf8 event.Error = IsUtf8-are_ascii _ refl

shown_utf8 : (what : EventType) (text : List ℕ) → IsUtf8 text → IsUtf8 (shown what text)
shown_utf8 what text is =
    IsUtf8-append (codes "{\"type\":\"" ++ type_text what ++ codes "\",\"object\":" ++ text) (codes "}")
    (IsUtf8-append (codes "{\"type\":\"" ++ type_text what ++ codes "\",\"object\":") text (type_utf8 what) is) (IsUtf8-are_ascii (codes "}") refl)

pub line_in_value : (what : EventType) (d : Data) → IsShown d → IsUtf8 (compact_text d) → value_in (shown what (compact_text d)) ≡ Ok (line_value what d)
line_in_value what d fits text = value_read (shown what (compact_text d)) (line_value what d) (shown_utf8 what (compact_text d) text) (line_read what d fits)
