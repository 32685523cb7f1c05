-- The name that is read of an object's text, and what a field selector selects by it.
use Rattle.std.proofs.Common.{◌≡◌, ◌∙◌, ℕ, Bool, true, false, cond, not, ◌&&◌, ◌==◌, List, [], ◌∷◌, ◌++◌, Some, None, drop, refl, sym, ap, true≢false}
use Rattle.std.specs.Prelude.{codes, decimal, option_and_then, option_map}
use Rattle.std.specs.Cmp.Lexicographic.{bytes_decides}
use Rattle.std.specs.FinMap as fin
use Rattle.std.specs.Str.{bytes_eq}
use Rattle.std.proofs.lemmas.Bool.{and_parts}
use Rattle.serde_json.specs.Data.{Members, string, put}
use Rattle.serde_json.specs.Find.{as_str, get, get_member}
use Rattle.serde_json.proofs.Views.{get_member-put}
use Rattle.schema.specs.Shape.{Shape}
use Rattle.typed.specs.Printing.{print}
use Rattle.selector.specs.Fields.{about_name, attributes, fields_of, is_plain, is_plain_text, name_asked}
use Rattle.selector.specs.Grammar.{begins_with, equal, sign_at}
use Rattle.selector.specs.Requirement.{Requirement, equals, selects}
use Rattle.history.specs.History.{Key}
use Rattle.lists.specs.Labels.{attributes_of, labels_of}
use Rattle.objects.specs.State.{State}
use Rattle.objects.specs.SystemMetadata.{Stamp, put_system}
use Rattle.objects.specs.ObjectText.{Identity, entry_items, members_printed, metadata_members, metadata_of, object_value, put_entries}
use Rattle.objects.proofs.Back.{text_read}
use Rattle.line_laws.specs.Names.{KeysNameTexts, NamesAreOfObjects, NamesSelectObjects, SelectByName, name_in}
use Rattle.line_laws.proofs.LabelsRead.{metadata_in_object}

-- ---- the name of an object's text

name_in_metadata : (s : Shape) (of : Identity) (v : Stamp) (state : State) (ms : Members) → option_and_then as_str (get_member (codes "name") (metadata_of s of v state.owners ms)) ≡ Some of.name
name_in_metadata s of v state ms =
    let versioned = put (codes "resourceVersion") (string (decimal v.version)) (put_entries (entry_items s of.api_version (fin.entries state.owners)) (put_system v.system ms)) in
    ap (option_and_then as_str) (get_member-put (codes "name") (string of.name) (put (codes "namespace") (string of.namespace) versioned))

name_in_value : (s : Shape) (of : Identity) (v : Stamp) (state : State) → name_in (object_value s of v state) ≡ Some of.name
unfolding object_value
name_in_value s of v state =
    let ms = metadata_members (print s state.content) in
    ap (λ o. option_and_then as_str (option_and_then (get (codes "name")) o)) (metadata_in_object of.api_version of.kind (metadata_of s of v state.owners ms) (members_printed (print s state.content)))
    ∙ name_in_metadata s of v state ms

pub names_are_of_objects : NamesAreOfObjects
names_are_of_objects s of v state text shaped said = ap (option_and_then name_in) (text_read s of v state text shaped said) ∙ name_in_value s of v state

pub keys_name_texts : KeysNameTexts
keys_name_texts k s of v state text shaped said same =
    ap (λ name. attributes (Some name) (labels_of text)) (sym same) ∙ ap (λ o. attributes o (labels_of text)) (sym (names_are_of_objects s of v state text shaped said))

-- ---- metadata.name=NAME

is_no_equals_sign : (x y z : Bool) → (not x && not y && not z) ≡ true → y ≡ false
is_no_equals_sign true y z plain = absurd (true≢false (sym plain))
is_no_equals_sign false true z plain = absurd (true≢false (sym plain))
is_no_equals_sign false false z plain = refl

-- one equals sign, where the name has none
one_sign : (name : List ℕ) → is_plain_text name ≡ true → begins_with (codes "==") (61 ∷ name) ≡ false
one_sign [] plain = refl
one_sign (b ∷ bs) plain = ap (λ (t : Bool). t && bytes_eq [] []) (is_no_equals_sign (b == 44) (b == 61) (b == 92) (and_parts (is_plain b) (is_plain_text bs) plain).0)

signed_so : (name : List ℕ) → is_plain_text name ≡ true → sign_at (61 ∷ name) ≡ Some (equal, name)
signed_so name plain = ap (λ (t : Bool). cond t (Some (equal, drop 2 (61 ∷ name))) (Some (equal, name))) (one_sign name plain)

abbrev named : List ℕ → Requirement
named name = about_name (equals name)

asked_so : (name : List ℕ) → is_plain_text name ≡ true → fields_of (codes "metadata.name=" ++ name) ≡ Some (named name ∷ [])
asked_so name plain =
    ap (λ o. option_map (λ r. r ∷ []) (option_map about_name (name_asked o))) (signed_so name plain)
    ∙ ap (λ (t : Bool). option_map (λ r. r ∷ []) (option_map about_name (option_map equals (cond t (Some name) None)))) plain

selected_by : (name : List ℕ) → SelectByName name (named name ∷ [])
selected_by name k text = (
  λ selects_it. (bytes_decides k.name name).0 (and_parts (bytes_eq k.name name) true selects_it).0,
  λ same. ap (λ (t : Bool). t && true) ((bytes_decides k.name name).1 same),
)

pub names_select_objects : NamesSelectObjects
names_select_objects name plain = (named name ∷ [], asked_so name plain, selected_by name)
