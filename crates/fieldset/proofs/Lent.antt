-- The members of an object that borrows its text, one after another.
use Rattle.std.proofs.Common.{◌≡◌, ◌<◌, ◌≤◌, ◌+◌, ◌==◌, Bool, true, false, ℕ, suc, List, [], ◌∷◌, length, drop, get_or, Vec, Global, sym, ap, subst, ◌∙◌, arith}
use Rattle.std.proofs.lemmas.List.{drop_all}
use Rattle.json.specs.Tree.{json_tokens, members_tokens}
use Rattle.json.specs.Value.{members_view, value_view}
use Rattle.json.specs.declared.value.Value.{Value, Object}
use Rattle.json.proofs.Trees.{view-Object}
use Rattle.json_texts.specs.InOrder.{are_ordered, data_of, is_ordered, members_data}
use Rattle.json_texts.proofs.Parts.{Entry, at_place, names-data, ordered_parts}
use Rattle.serde_json.specs.Data.{Members, no_members, member, object}
use Rattle.fieldpath.specs.Scalars.{ascend}
use Rattle.fieldpath.specs.Encodable.{member_names}
use Rattle.schema.specs.Steps.{TypeRef}
use Rattle.fieldset.specs.FieldsV1.{is_empty, read_at}

abbrev pub data_in : List Entry → Members
data_in es = members_data (members_view es)

pub names_ascend : (es : List Entry) → are_ordered (members_view es) ≡ true → ascend (member_names (data_in es)) ≡ true
names_ascend es h = ap ascend (names-data (members_view es)) ∙ (ordered_parts (members_view es) h).0

pub data_next : (es : List Entry) (i : ℕ) (e : Entry) → i < length es → e ≡ get_or es i e → data_in (drop i es) ≡ member e.0.now (data_of (value_view e.1)) (data_in (drop (i + 1) es))
data_next es i e lt is = ap data_in (at_place es i e lt is)

pub data_past : (es : List Entry) (i : ℕ) → length es ≤ i → data_in (drop i es) ≡ no_members
data_past es i past = ap data_in (drop_all i es past)

one_more : (n : ℕ) → n < suc n
one_more n = omega arith

pub members_ordered : (v : Value Global) (ms : Vec Entry Global) (es : List Entry) → v ≡ Object ms → es ≡ ms.items → is_ordered (value_view v) ≡ true → are_ordered (members_view es) ≡ true
members_ordered v ms es is same h = ap (λ l. are_ordered (members_view l)) same ∙ sym (ap is_ordered (view-Object ms)) ∙ sym (ap (λ x. is_ordered (value_view x)) is) ∙ h

pub members_smaller : (v : Value Global) (ms : Vec Entry Global) (es : List Entry) → v ≡ Object ms → es ≡ ms.items → length (members_tokens (members_view es)) < length (json_tokens (value_view v))
members_smaller v ms es is same =
    subst (λ l. length (members_tokens (members_view l)) < length (json_tokens (value_view v))) (sym same)
    (subst (λ j. length (members_tokens (members_view ms.items)) < length (json_tokens j)) (sym (ap value_view is ∙ view-Object ms)) (one_more (length (members_tokens (members_view ms.items)))))

pub object_is : (s : TypeRef) (v : Value Global) (ms : Vec Entry Global) (es : List Entry) → v ≡ Object ms → es ≡ ms.items → read_at s (data_of (value_view v)) ≡ read_at s (object (data_in es))
object_is s v ms es is same =
    ap (λ x. read_at s (data_of (value_view x))) is ∙ ap (λ j. read_at s (data_of j)) (view-Object ms) ∙ ap (λ l. read_at s (object (data_in l))) (sym same)

not_zero : (n : ℕ) → (suc n == 0) ≡ false
not_zero n = grind arith

none : (0 == 0) ≡ true
none = grind arith

pub slice-is_empty : (b : Bool) (es : List Entry) → b ≡ (length es == 0) → b ≡ is_empty (data_in es)
slice-is_empty b [] is = is ∙ none
slice-is_empty b (e ∷ es) is = is ∙ not_zero (length es)
