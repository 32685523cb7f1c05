-- What is written, with the members or items that are still to come and the closing brace or bracket.
use Rattle.std.proofs.Common.{◌≡◌, ℕ, true, false, List, [], ◌∷◌, ◌++◌, Option, Some, None, refl, sym, ap, ◌∙◌, subst, append_assoc}
use Rattle.json.specs.Print.{quoted}
use Rattle.serde_json.specs.Data.{Data, Items, no_items, item, Members, no_members, member, array, object}
use Rattle.serde_json.specs.Written.{comma_if, compact_text, items_text, members_text}
use Rattle.fieldpath.specs.Elements.{field_name, name_text}
use Rattle.json_texts.specs.Writing.{Writing, with_closing, with_name, with_opening, with_text}
use Rattle.pathmap.specs.Contents.{Content}
use Rattle.pathmap.specs.Insides.{inside}
use Rattle.schema.specs.Shape.{Shape, Fields, no_fields, field}
use Rattle.typed.specs.Between.{then_fields, then_member}
use Rattle.typed.specs.WellTyped.{ReadsBack}
use Rattle.typed.specs.Printing.{array_or_none, each_item, object_or_none, print as printed, with_item}
use Rattle.typed.specs.Rows.{IsThere, then_named}
use Rattle.typed.specs.Writes.{with_fields, with_named_pair, with_pair, with_pairs, with_value, with_items}
use Rattle.typed.proofs.RoundTrip.{round}
use Rattle.typed.proofs.Rows.{row_each, there}

abbrev pub closed : Members → Writing → List ℕ
closed ms w = w.text ++ members_text w.later ms

abbrev pub closed_items : Items → Writing → List ℕ
closed_items ds w = w.text ++ items_text w.later ds

-- ---- members

-- old text, comma, quoted name, text and rest
regroup : (o c q t r : List ℕ) → ((o ++ (c ++ (q ++ 58 ∷ []))) ++ t) ++ r ≡ o ++ (c ++ (q ++ 58 ∷ (t ++ r)))
regroup o c q t r =
    append_assoc (o ++ (c ++ (q ++ 58 ∷ []))) t r ∙ append_assoc o (c ++ (q ++ 58 ∷ [])) (t ++ r)
    ∙ ap (λ x. o ++ x) (append_assoc c (q ++ 58 ∷ []) (t ++ r) ∙ ap (λ x. c ++ x) (append_assoc q (58 ∷ []) (t ++ r)))

pair_closed : (k : List ℕ) (o : Option Data) (w : Writing) (rest : Members) → closed rest (with_pair k o w) ≡ closed (then_member k o rest) w
pair_closed k None w rest = refl
pair_closed k (Some d) w rest = regroup w.text (comma_if w.later) (quoted k) (compact_text d) (members_text true rest)

pub fields_closed : (fs : Fields) (c : Content) (w : Writing) (rest : Members) → closed rest (with_fields fs c w) ≡ closed (then_fields fs c rest) w
fields_closed no_fields c w rest = refl
fields_closed (field f s more) c w rest =
    let o = printed s (inside (name_text f) c) in fields_closed more c (with_pair f o w) rest ∙ pair_closed f o w (then_fields more c rest)

named_closed : (n : Option (List ℕ)) (o : Option Data) (w : Writing) (rest : Members) → closed rest (with_named_pair n o w) ≡ closed (then_named n o rest) w
named_closed None o w rest = refl
named_closed (Some k) o w rest = pair_closed k o w rest

pub pairs_closed : (inner : List ℕ → Option Data) (es : List (List ℕ)) (w : Writing) → closed no_members (with_pairs inner es w) ≡ closed (row_each inner es) w
pairs_closed inner [] w = refl
pairs_closed inner (e ∷ es) w = pairs_closed inner es (with_named_pair (field_name e) (inner e) w) ∙ named_closed (field_name e) (inner e) w (row_each inner es)

-- a member's text as it stands
pub text_closed : (k : List ℕ) (d : Data) (w : Writing) (rest : Members) → closed rest (with_text (quoted k ++ 58 ∷ compact_text d) w) ≡ closed (member k d rest) w
text_closed k d w rest =
    append_assoc w.text (comma_if w.later ++ (quoted k ++ 58 ∷ compact_text d)) (members_text true rest)
    ∙ ap (λ x. w.text ++ x) (append_assoc (comma_if w.later) (quoted k ++ 58 ∷ compact_text d) (members_text true rest)
    ∙ ap (λ x. comma_if w.later ++ x) (append_assoc (quoted k) (58 ∷ compact_text d) (members_text true rest)))

-- which an object of this member alone has between its braces
pub member_within : (k keys : List ℕ) (d : Data) → keys ≡ compact_text (object (member k d no_members)) → keys ≡ 123 ∷ ((quoted k ++ 58 ∷ compact_text d) ++ 125 ∷ [])
member_within k keys d is = is ∙ ap (λ x. 123 ∷ x) (sym (append_assoc (quoted k) (58 ∷ compact_text d) (125 ∷ [])))

-- ---- items

value_closed : (o : Option Data) (w : Writing) (rest : Items) → closed_items rest (with_value o w) ≡ closed_items (with_item o rest) w
value_closed None w rest = refl
value_closed (Some d) w rest =
    append_assoc w.text (comma_if w.later ++ compact_text d) (items_text true rest) ∙ ap (λ x. w.text ++ x) (append_assoc (comma_if w.later) (compact_text d) (items_text true rest))

values_closed : (inner : List ℕ → Option Data) (es : List (List ℕ)) (w : Writing) → closed_items no_items (with_items inner es w) ≡ closed_items (each_item inner es) w
values_closed inner [] w = refl
values_closed inner (e ∷ es) w = values_closed inner es (with_value (inner e) w) ∙ value_closed (inner e) w (each_item inner es)

-- ---- braces and brackets

abbrev ended : List ℕ → Writing
ended t = record { text = t; later = true }

-- what is due, the opening byte and what follows it, behind the old text
bracket : (o c r : List ℕ) (b : ℕ) → (o ++ (c ++ b ∷ [])) ++ r ≡ o ++ (c ++ b ∷ r)
bracket o c r b = append_assoc o (c ++ b ∷ []) r ∙ ap (λ x. o ++ x) (append_assoc c (b ∷ []) r)

pub braced : (ms : Members) (old now : Writing) → closed no_members now ≡ closed ms (with_opening 123 old) → with_closing 125 now ≡ with_text (compact_text (object ms)) old
braced ms old now is = ap ended (is ∙ bracket old.text (comma_if old.later) (members_text false ms) 123)

bracketed : (ds : Items) (old now : Writing) → closed_items no_items now ≡ closed_items ds (with_opening 91 old) → with_closing 93 now ≡ with_text (compact_text (array ds)) old
bracketed ds old now is = ap ended (is ∙ bracket old.text (comma_if old.later) (items_text false ds) 91)

-- ---- where something stands

module _ (s : Shape) (c : Content) (is_there : IsThere s c) where
  object_there : (ms : Members) (w : Writing) → printed s c ≡ object_or_none ms → with_text (compact_text (object ms)) w ≡ with_value (printed s c) w
  object_there no_members w is = absurd (is_there.1 (subst (λ o. ReadsBack s o c) is (round s c is_there.0.0 is_there.0.1)))
  object_there (member k d ms) w is = sym (ap (λ o. with_value o w) is)

  array_there : (ds : Items) (w : Writing) → printed s c ≡ array_or_none ds → with_text (compact_text (array ds)) w ≡ with_value (printed s c) w
  array_there no_items w is = absurd (is_there.1 (subst (λ o. ReadsBack s o c) is (round s c is_there.0.0 is_there.0.1)))
  array_there (item d ds) w is = sym (ap (λ o. with_value o w) is)

  -- an object of these members, and an array of these items
  pub object_wrote : (ms : Members) (old now : Writing) → printed s c ≡ object_or_none ms → closed no_members now ≡ closed ms (with_opening 123 old) → with_closing 125 now ≡ with_value (printed s c) old
  object_wrote ms old now is members = braced ms old now members ∙ object_there ms old is

  pub array_wrote : (inner : List ℕ → Option Data) (es : List (List ℕ)) (old now : Writing) → printed s c ≡ array_or_none (each_item inner es) → now ≡ with_items inner es (with_opening 91 old)
      → with_closing 93 now ≡ with_value (printed s c) old
  array_wrote inner es old now is items =
      bracketed (each_item inner es) old now (ap (closed_items no_items) items ∙ values_closed inner es (with_opening 91 old)) ∙ array_there (each_item inner es) old is

  pub pair_wrote : (k : List ℕ) (w : Writing) → with_value (printed s c) (with_name k w) ≡ with_pair k (printed s c) w
  pair_wrote k w = let d = there s c is_there in ap (λ o. with_value o (with_name k w)) d.1 ∙ sym (ap (λ o. with_pair k o w) d.1)
