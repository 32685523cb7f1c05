-- How a member that reads was read: as an element, or as a mark of its item.
use Rattle.std.proofs.Common.{◌≡◌, ℕ, Bool, true, false, cond, ◌++◌, List, [], ◌∷◌, take, drop, take-append-drop, Option, Some, None, option_map, Result, Ok, Err, inl, inr, ◌⊎◌, refl, sym, ap, ap₂, ◌∙◌, true≢false}
use Rattle.std.specs.Str.{bytes_eq}
use Rattle.std.proofs.lemmas.Slice.Eq.{bytes_eq-Decides}
use Rattle.serde_json.specs.Data.{Data, null, boolean, number, string, array, object, Members, no_members, member}
use Rattle.fieldpath.specs.Elements.{Element, NoElement, has_prefix, name_text, read_element}
use Rattle.fieldpath.specs.Elements as element
use Rattle.pathmap.specs.Contents.{Content, nothing, under}
use Rattle.schema.proofs.Steps.{name_in, name-of}
use Rattle.json_values.specs.Members.{has}
use Rattle.schema.specs.Shape.{shape_at}
use Rattle.schema.specs.Steps.{TypeRef, value_of, set_item, map_item, step}
use Rattle.fieldset.specs.FieldsV1.{leaf, Reading, and_then, bad_key, dot, element_in, is_key_field, may_have_dot, not_an_object, not_canonical, off_schema, read_below, read_mark, read_member, some_or}
use Rattle.fieldset.proofs.Prefixes.{none_some}
use Rattle.fieldset.proofs.Marks.{dot_next, not_ok, same_ok}
use Rattle.schema.proofs.Places.{next, step_read}

abbrev name_or : List ℕ → Option (List ℕ) → List ℕ
name_or f None = f
name_or f (Some g) = g

pub named_text : (k f : List ℕ) → read_element k ≡ Ok (element.field f) → k ≡ name_text f
unfolding name_text
named_text k f is = by_prefix (has_prefix 102 k) refl (name-of k ∙ ap name_in is)
  where
    by_prefix : (b : Bool) → has_prefix 102 k ≡ b → cond b (Some (drop 2 k)) None ≡ Some f → k ≡ 102 ∷ 58 ∷ f
    by_prefix true pre h = sym (take-append-drop 2 k) ∙ ap₂ (λ s t. s ++ t) ((bytes_eq-Decides (take 2 k) (102 ∷ 58 ∷ [])).0 pre) (ap (name_or f) h)
    by_prefix false pre h = absurd (none_some f h)

-- why a member may be a mark
abbrev pub IsDue : TypeRef → Members → List ℕ → Type 0
IsDue type_ref beside k = ((k ≡ dot) × (may_have_dot type_ref beside ≡ true)) ⊎ ((f : List ℕ) × (k ≡ name_text f) × (is_key_field type_ref (element.field f) ≡ true) × (has dot beside ≡ true))

abbrev pub AsElement : TypeRef → List ℕ → (TypeRef → Reading) → Content → Type 0
AsElement type_ref k inner x = (p : TypeRef) × (y : Content) × (next type_ref k ≡ Some p) × (inner p ≡ Ok y) × (under k y ≡ x)

abbrev pub AsMark : TypeRef → Members → List ℕ → Data → Content → Type 0
AsMark type_ref beside k d x = (next type_ref k ≡ None) × (d ≡ leaf) × (nothing ≡ x) × IsDue type_ref beside k

abbrev pub Said : TypeRef → Members → List ℕ → Data → (TypeRef → Reading) → Content → Type 0
Said type_ref beside k d inner x = AsElement type_ref k inner x ⊎ AsMark type_ref beside k d x

mark_facts : (b : Bool) (d : Data) (x : Content) → read_mark b d ≡ Ok x → (b ≡ true) × (d ≡ leaf) × (nothing ≡ x)
mark_facts b null x h = absurd (not_ok not_an_object x h)
mark_facts b (boolean t) x h = absurd (not_ok not_an_object x h)
mark_facts b (number n) x h = absurd (not_ok not_an_object x h)
mark_facts b (string s) x h = absurd (not_ok not_an_object x h)
mark_facts b (array ds) x h = absurd (not_ok not_an_object x h)
mark_facts true (object no_members) x h = (refl, refl, same_ok nothing x h)
mark_facts false (object no_members) x h = absurd (not_ok not_canonical x h)
mark_facts true (object (member k d ms)) x h = absurd (not_ok not_canonical x h)
mark_facts false (object (member k d ms)) x h = absurd (not_ok not_canonical x h)

key_stops : (type_ref : TypeRef) (e : Element) → is_key_field type_ref e ≡ true → step type_ref e ≡ None
key_stops (value_of s) e h = absurd (true≢false (sym h))
key_stops set_item e h = refl
key_stops (map_item names all) (element.field f) h = ap (λ b. cond b None (option_map value_of (shape_at f all))) h
key_stops (map_item names all) (element.key ks) h = refl
key_stops (map_item names all) (element.value v) h = refl

key_is : (type_ref : TypeRef) (e : Element) → is_key_field type_ref e ≡ true → (f : List ℕ) × (e ≡ element.field f)
key_is (value_of s) e h = absurd (true≢false (sym h))
key_is set_item e h = absurd (true≢false (sym h))
key_is (map_item names all) (element.field f) h = (f, refl)
key_is (map_item names all) (element.key ks) h = absurd (true≢false (sym h))
key_is (map_item names all) (element.value v) h = absurd (true≢false (sym h))

module _ (type_ref : TypeRef) (beside : Members) (k : List ℕ) (d : Data) (inner : TypeRef → Reading) (x : Content) where
  by_below : (p : TypeRef) → next type_ref k ≡ Some p → (r : Reading) → inner p ≡ r → read_below k r ≡ Ok x → AsElement type_ref k inner x
  by_below p reaches (Err e) is h = absurd (not_ok e x h)
  by_below p reaches (Ok y) is h = (p, y, reaches, is, same_ok (under k y) x h)

  by_step : (e : Element) → read_element k ≡ Ok e → (o : Option TypeRef) → step type_ref e ≡ o → and_then (some_or off_schema o) (λ n. read_below k (inner n)) ≡ Ok x → AsElement type_ref k inner x
  by_step e read None is h = absurd (not_ok off_schema x h)
  by_step e read (Some p) is h = by_below p (ap (step_read type_ref) read ∙ is) (inner p) refl h

  by_key : (e : Element) → read_element k ≡ Ok e → (b : Bool) → is_key_field type_ref e ≡ b
      → cond b (read_mark (has dot beside) d) (and_then (some_or off_schema (step type_ref e)) (λ n. read_below k (inner n))) ≡ Ok x → Said type_ref beside k d inner x
  by_key e read true is h =
      let facts = mark_facts (has dot beside) d x h in
      let f = key_is type_ref e is in
      inr (ap (step_read type_ref) read ∙ key_stops type_ref e is, facts.1, facts.2, inr (f.0, named_text k f.0 (read ∙ ap Ok f.1), ap (is_key_field type_ref) (sym f.1) ∙ is, facts.0))
  by_key e read false is h = inl (by_step e read (step type_ref e) refl h)

  by_read : (r : Result Element NoElement) → read_element k ≡ r
      → and_then (element_in r) (λ e. cond (is_key_field type_ref e) (read_mark (has dot beside) d) (and_then (some_or off_schema (step type_ref e)) (λ n. read_below k (inner n)))) ≡ Ok x → Said type_ref beside k d inner x
  by_read (Err n) is h = absurd (not_ok bad_key x h)
  by_read (Ok e) is h = by_key e is (is_key_field type_ref e) refl h

  by_dot : (b : Bool) → bytes_eq k dot ≡ b
      → cond b (read_mark (may_have_dot type_ref beside) d)
      (and_then (element_in (read_element k)) (λ e. cond (is_key_field type_ref e) (read_mark (has dot beside) d) (and_then (some_or off_schema (step type_ref e)) (λ n. read_below k (inner n))))) ≡ Ok x
      → Said type_ref beside k d inner x
  by_dot true is h =
      let facts = mark_facts (may_have_dot type_ref beside) d x h in
      let same = (bytes_eq-Decides k dot).0 is in
      inr (ap (next type_ref) same ∙ dot_next type_ref, facts.1, facts.2, inl (same, facts.0))
  by_dot false is h = by_read (read_element k) refl h

  pub said : read_member type_ref beside k d inner ≡ Ok x → Said type_ref beside k d inner x
  said h = by_dot (bytes_eq k dot) refl h
