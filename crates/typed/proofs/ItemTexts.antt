-- Items of lists, written from their elements' texts.
use Rattle.std.proofs.Common.{◌≡◌, ℕ, true, false, inl, inr, ◌⊎◌, length, List, [], ◌∷◌, Option, Some, None, String, Global, string_bytes, refl, sym, ap, ap₂, ◌∙◌, subst, arith}
use Rattle.std.specs.Prelude.{◌||◌, option_and_then, option_map}
use Rattle.std.specs.Cmp.Lexicographic.{bytes_decides}
use Rattle.std.specs.List.{AllByRecursion, list_any}
use Rattle.std.specs.Str.{bytes_eq}
use Rattle.std.proofs.lemmas.Bool.{and_parts}
use Rattle.serde_json.specs.Data.{Data, Members, no_members, member, object}
use Rattle.serde_json.specs.Find.{as_object}
use Rattle.serde_json.specs.Read.{read}
use Rattle.serde_json.specs.Written.{compact_text}
use Rattle.json_texts.specs.Writing.{Writing, with_text}
use Rattle.fieldpath.specs.Elements.{key_text, keys_json, name_text, scalar_json, scalar_text}
use Rattle.pathmap.specs.Contents.{Content, nothing}
use Rattle.pathmap.specs.Insides.{heads, inside}
use Rattle.pathmap.specs.Maps.{contents_in}
use Rattle.pathmap.specs.declared.pathmap.PathMap.{PathMap}
use Rattle.pathmap.proofs.Heads.{heads-inside}
use Rattle.pathmap.specs.Sizes.{no_path}
use Rattle.schema.specs.Lawful.{names_of, item_is_lawful, is_well_formed, are_well_formed}
use Rattle.schema.specs.Shape.{set, keyed, Shape, text, whole, truth, struct_of, map_of, list_of, Fields, no_fields, field}
use Rattle.fieldpath.specs.Scalars.{ascend}
use Rattle.typed.specs.WellTyped.{HasKeys, IsItem, IsSetItem}
use Rattle.typed.specs.Printing.{keys_in, print as printed, print_fields, print_item, scalar_in, with_member}
use Rattle.typed.specs.Rows.{FieldsFit, Fits, IsScalarElement, item_of}
use Rattle.typed.specs.Writes.{with_value, with_items}
use Rattle.typed.proofs.ElementTexts.{key_element, scalar_same, value_element}
use Rattle.typed.proofs.Insides.{Children, child_names, children_of, heads-names}
use Rattle.typed.proofs.KeyFields.{AreKeys, keys_fit, keys_text}
use Rattle.typed.proofs.Prints.{print-nothing}
use Rattle.typed.proofs.RoundTrip.{every, lives}
use Rattle.typed.proofs.Rows.{all_fit}

-- ---- one after another

-- what is there with what is left is all, where each element that is left is one of these
abbrev pub Wrote : (List ℕ → Type 0) → (List ℕ → Option Data) → Content → Children → Writing → Writing → Type 0
Wrote P inner c it start out = AllByRecursion P (child_names it) × (with_items inner (child_names it) out ≡ with_items inner (heads c) start)

module _ (P : List ℕ → Type 0) (inner : List ℕ → Option Data) (c : Content) (it left : Children) (e : String Global × PathMap) (steps : it ≡ e ∷ left) (start out : Writing) (wrote : Wrote P inner c it start out) where
  -- one that is left
  pub first_left : P (string_bytes e.0)
  first_left = (subst (λ l. AllByRecursion P (child_names l)) steps wrote.0).0

  pub then_wrote : (new : Writing) → new ≡ with_value (inner (string_bytes e.0)) out → Wrote P inner c left start new
  then_wrote new step = (
    (subst (λ l. AllByRecursion P (child_names l)) steps wrote.0).1,
    ap (with_items inner (child_names left)) step ∙ sym (ap (λ l. with_items inner (child_names l) out) steps) ∙ wrote.1,
  )

pub first_wrote : (P : List ℕ → Type 0) (inner : List ℕ → Option Data) (c : Content) (all : Children) (start : Writing) → contents_in all ≡ children_of c → AllByRecursion P (heads c) → Wrote P inner c all start start
first_wrote P inner c all start are each =
    let names = heads-names c all are in (subst (AllByRecursion P) names each, ap (λ hs. with_items inner hs start) (sym names))

pub all_wrote : (P : List ℕ → Type 0) (inner : List ℕ → Option Data) (c : Content) (it : Children) (start out : Writing) → it ≡ [] → Wrote P inner c it start out → out ≡ with_items inner (heads c) start
all_wrote P inner c it start out none wrote = sym (ap (λ l. with_items inner (child_names l) out) none) ∙ wrote.1

-- ---- scalars

-- an item of a set is what stands behind the prefix of its element's text
pub scalar_item : (e : List ℕ) → IsScalarElement e → (d : Data) × (scalar_in e ≡ Some d) × (scalar_json e ≡ Some (compact_text d))
unfolding scalar_text
scalar_item e (v, is) = let encodable = value_element e v is in (encodable.0, encodable.1, ap scalar_json (sym encodable.3) ∙ ap Some (scalar_same encodable.0 v encodable.2))

pub all_scalars : (s : Shape) (c : Content) → Fits (list_of s set) c → AllByRecursion IsScalarElement (heads c)
all_scalars s c fits = every IsScalarElement (heads c) (λ e h. by_case e (lives c e h) (fits.1.1 e))
  where
    by_case : (e : List ℕ) → (inside e c ≡ nothing → ⊥) → (inside e c ≡ nothing) ⊎ IsSetItem s e (inside e c) → IsScalarElement e
    by_case e some (inl bare) = absurd (some bare)
    by_case e some (inr well_typed) = (well_typed.0, well_typed.1)

-- ---- one key field

abbrev IsOne : List ℕ → Members → Type 0
IsOne n ms = (d : Data) × (ms ≡ member n d no_members)

one_member : (n : List ℕ) (all : Fields) (ms : Members) → AreKeys (n ∷ []) all ms → IsOne n ms
one_member n all no_members keys = absurd keys
one_member n all (member k d no_members) keys = (d, ap (λ l. member l d no_members) (sym keys.0))
one_member n all (member k d (member l x ms)) keys = absurd keys.3

-- the key field's object is what stands behind the prefix of the element's text
abbrev pub ItemFits : List ℕ → Shape → Content → List ℕ → Type 0
ItemFits n s c e = (d : Data) × (keys_in e ≡ Some (member n d no_members)) × (keys_json e ≡ Some (compact_text (object (member n d no_members)))) × FieldsFit n s (inside e c)

key_item : (n : List ℕ) (all : Fields) (e : List ℕ) (c : Content) → HasKeys (n ∷ []) all e c → (d : Data) × (keys_in e ≡ Some (member n d no_members)) × (keys_json e ≡ Some (compact_text (object (member n d no_members))))
unfolding key_text
key_item n all e c (ks, is, fit, top, none, bare) =
    let encodable = key_element e ks is in
    let one = one_member n all encodable.0 (keys_fit (n ∷ []) all encodable.0 ks encodable.2 fit) in
    (one.0, encodable.1 ∙ ap Some one.1, ap keys_json (sym encodable.3 ∙ keys_text encodable.0 ks encodable.2) ∙ ap (λ ms. Some (compact_text (object ms))) one.1)

pub all_items : (n : List ℕ) (s : Shape) (c : Content) → Fits (list_of s (keyed (n ∷ []))) c → AllByRecursion (ItemFits n s c) (heads c)
all_items n s c fits = every (ItemFits n s c) (heads c) (λ e h. by_case s (and_parts (item_is_lawful (keyed (n ∷ [])) s) (is_well_formed s) fits.0).1 e (lives c e h) (fits.1.1 e))
  where
    named : list_any (bytes_eq n) (n ∷ []) ≡ true
    named = ap (λ b. b || false) ((bytes_decides n n).1 refl)

    by_shape : (t : Shape) → is_well_formed t ≡ true → (e : List ℕ) → IsItem (n ∷ []) t e (inside e c) → ItemFits n t c e
    by_shape text formed e well_typed = absurd well_typed
    by_shape whole formed e well_typed = absurd well_typed
    by_shape truth formed e well_typed = absurd well_typed
    by_shape (map_of t b) formed e well_typed = absurd well_typed
    by_shape (list_of t kind) formed e well_typed = absurd well_typed
    by_shape (struct_of all b) formed e well_typed =
        let k = key_item n all e (inside e c) well_typed.0 in
        let parts = and_parts (ascend (names_of all)) (are_well_formed all) formed in
        (k.0, k.1, k.2, (all_fit all (inside e c) parts.1 well_typed.1, parts.0, well_typed.0.5 n named))

    by_case : (t : Shape) → is_well_formed t ≡ true → (e : List ℕ) → (inside e c ≡ nothing → ⊥) → (inside e c ≡ nothing) ⊎ IsItem (n ∷ []) t e (inside e c) → ItemFits n t c e
    by_case t formed e some (inl bare) = absurd (some bare)
    by_case t formed e some (inr well_typed) = by_shape t formed e well_typed

same_text : (t u : List ℕ) → ◌≡◌ {A = Option (List ℕ)} (Some t) (Some u) → t ≡ u
same_text t u h = cc

pub item_wrote : (n : List ℕ) (s : Shape) (c below : Content) (e keys : List ℕ) (out new : Writing) → inside e c ≡ below → ItemFits n s c e → keys_json e ≡ Some keys
    → ((d : Data) → keys ≡ compact_text (object (member n d no_members)) → FieldsFit n s below → new ≡ with_text (compact_text (object (print_item s below (member n d no_members)))) out)
    → new ≡ with_value (item_of s c e) out
item_wrote n s c below e keys out new inner fits has value =
    let d = fits.0 in
    let is = ap₂ (λ x o. option_map (λ ms. object (print_item s x ms)) o) inner fits.1 in
    value d (same_text keys (compact_text (object (member n d no_members))) (sym has ∙ fits.2)) (subst (FieldsFit n s) inner fits.3) ∙ sym (ap (λ o. with_value o out) is)

pub item_skipped : (s : Shape) (c : Content) (e : List ℕ) (out : Writing) → keys_json e ≡ None → out ≡ with_value (item_of s c e) out
item_skipped s c e out has = sym (ap (λ o. with_value (option_map (λ ms. object (print_item s (inside e c) ms)) (option_and_then as_object (option_and_then read o))) out) has)

pub scalar_wrote : (e t : List ℕ) (out : Writing) → IsScalarElement e → scalar_json e ≡ Some t → with_text t out ≡ with_value (scalar_in e) out
scalar_wrote e t out is has =
    let s = scalar_item e is in ap (λ t. with_text t out) (same_text t (compact_text s.0) (sym has ∙ s.2)) ∙ sym (ap (λ o. with_value o out) s.1)

pub none_left : (es : Children) → length es ≡ 0 → es ≡ []
none_left [] h = refl
none_left (e ∷ es) h = absurd (omega (arith, h))

-- the object alone, where nothing stands below the item
pub no_fields_below : (all : Fields) (c : Content) (below : Children) (ms : Members) → contents_in below ≡ children_of c → below ≡ [] → print_fields all c ms ≡ ms
no_fields_below all c below ms are none = leave all ms
  where
    bare : heads c ≡ []
    bare = heads-names c below are ∙ ap child_names none

    empty : (g : List ℕ) → inside g c ≡ nothing
    empty g = no_path (inside g c) (sym (heads-inside c g) ∙ ap (list_any (bytes_eq g)) bare)

    leave : (fs : Fields) (ms : Members) → print_fields fs c ms ≡ ms
    leave no_fields ms = refl
    leave (field f s more) ms = ap (λ o. print_fields more c (with_member f o ms)) (ap (printed s) (empty (name_text f)) ∙ print-nothing s) ∙ leave more ms
