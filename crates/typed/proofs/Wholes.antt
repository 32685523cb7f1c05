-- What is written, one field or child after another.
use Rattle.std.proofs.Common.{◌≡◌, ℕ, ◌+◌, ◌<◌, ◌≤◌, Bool, true, false, cond, ◌⊎◌, inl, inr, get_or, drop, length, List, ◌∷◌, ◌++◌, Option, Some, None, String, Global, string_bytes, refl, sym, ap, ◌∙◌, subst, true≢false}
use Rattle.std.specs.Prelude.{◌&&◌}
use Rattle.std.specs.Result.{OnOk}
use Rattle.std.specs.declared.result.Result.{Result}
use Rattle.std.specs.declared.result.Result.TheVariants.{Ok, Err}
use Rattle.std.proofs.lemmas.List.{drop_all, drop_more}
use Rattle.json.specs.Print.{quoted}
use Rattle.serde_json.specs.Data.{Data, no_members, member, object}
use Rattle.serde_json.specs.Written.{compact_text}
use Rattle.fieldpath.specs.Elements.{field_name, name_text}
use Rattle.json_texts.specs.Writing.{Writing, with_closing, with_opening, with_text}
use Rattle.pathmap.specs.Contents.{Content, nothing}
use Rattle.pathmap.specs.Insides.{heads, inside}
use Rattle.pathmap.specs.declared.pathmap.PathMap.{PathMap}
use Rattle.schema.specs.Lawful.{names_of}
use Rattle.schema.specs.Shape.{Fields, Shape, field, fields_in, map_of, shape, struct_of}
use Rattle.schema.specs.declared.schema.Schema.{Schema}
use Rattle.schema.specs.declared.schema.Schema as schemas
use Rattle.typed.specs.Between.{fields_between, is_above, is_below, then_fields}
use Rattle.typed.specs.Printing.{object_or_none, print as printed, print_fields, value_at}
use Rattle.typed.specs.Rows.{AllFit, FitBesideKey, Fits, IsThere, row_of_fields}
use Rattle.typed.specs.Writes.{with_fields, with_named_pair, with_pair, with_pairs, with_value}
use Rattle.typed.proofs.Between.{all_between, beside_key}
use Rattle.typed.proofs.Insides.{Children, child_names}
use Rattle.typed.proofs.KeyFields.{ascend_rising}
use Rattle.typed.proofs.Prints.{print-nothing}
use Rattle.typed.proofs.RoundTrip.{heads_rise}
use Rattle.typed.proofs.Rows.{each_row, row_each, struct_row}
use Rattle.typed.proofs.Shapes.{shape-Text, shape-Truth, shape-Whole}
use Rattle.typed.proofs.Writes.{braced, closed, fields_closed, object_wrote, pairs_closed, text_closed}

pub weaker : {X E : Type 0} {P Q : Type 0} (r : Result X E) → (P → Q) → OnOk r P → OnOk r Q
weaker (Ok x) f h = f h
weaker (Err e) f h = tt

pub no_pair : (s : Shape) (c : Content) (k : List ℕ) (w : Writing) → c ≡ nothing → w ≡ with_pair k (printed s c) w
no_pair s c k w bare = sym (ap (λ o. with_pair k o w) (ap (printed s) bare ∙ print-nothing s))

-- ---- fields, one after another

-- what is left of the fields gives the rest
abbrev pub Wrote : Option (List ℕ) → Option (List ℕ) → List (String Global × Schema) → ℕ → Content → Writing → Writing → Type 0
Wrote low high all i c start out =
    AllFit (fields_in all) c → AllFit (fields_in (drop i all)) c × (with_fields (fields_between low high (fields_in (drop i all))) c out ≡ with_fields (fields_between low high (fields_in all)) c start)

module _ (low high : Option (List ℕ)) (all : List (String Global × Schema)) (i : ℕ) (f : String Global × Schema) (lt : i < length all) (is : f ≡ get_or all i f) (c : Content) (start out : Writing) (before : Wrote low high all i c start out) where
  abbrev test : Bool
  test = is_above low (string_bytes f.0) && is_below high (string_bytes f.0)

  abbrev later : Fields
  later = fields_between low high (fields_in (drop (i + 1) all))

  split : drop i all ≡ f ∷ drop (i + 1) all
  split = drop_more all i f lt ∙ ap (λ x. x ∷ drop (i + 1) all) (sym is)

  both_fit : AllFit (fields_in (drop i all)) c → AllFit (fields_in (f ∷ drop (i + 1) all)) c
  both_fit fit = subst (λ fs. AllFit (fields_in fs) c) split fit

  by_test : (b : Bool) → test ≡ b → with_fields (cond b (field (string_bytes f.0) (shape f.1) later) later) c out ≡ with_fields (fields_between low high (fields_in (drop i all))) c out
  by_test b is = sym (ap (λ fs. with_fields (fields_between low high (fields_in fs)) c out) split ∙ ap (λ b. with_fields (cond b (field (string_bytes f.0) (shape f.1) later) later) c out) is)

  pub field_wrote : (new : Writing) → test ≡ true
      → (Fits (shape f.1) (inside (name_text (string_bytes f.0)) c) → new ≡ with_pair (string_bytes f.0) (printed (shape f.1) (inside (name_text (string_bytes f.0)) c)) out) → Wrote low high all (i + 1) c start new
  field_wrote new between step fit =
      let so_far = before fit in let fits = both_fit so_far.0 in (fits.1, ap (with_fields later c) (step fits.0) ∙ by_test true between ∙ so_far.1)

  pub field_skipped : test ≡ false → Wrote low high all (i + 1) c start out
  field_skipped past fit = let so_far = before fit in ((both_fit so_far.0).1, by_test false past ∙ so_far.1)

pub all_wrote : (low high : Option (List ℕ)) (all : List (String Global × Schema)) (i : ℕ) (c : Content) (start out : Writing) → length all ≤ i → Wrote low high all i c start out → AllFit (fields_in all) c
    → out ≡ with_fields (fields_between low high (fields_in all)) c start
all_wrote low high all i c start out past before fit = sym (ap (λ fs. with_fields (fields_between low high (fields_in fs)) c out) (drop_all i all past)) ∙ (before fit).1

-- ---- children, one after another

module _ (inner : List ℕ → Option Data) (it left : Children) (e : String Global × PathMap) (steps : it ≡ e ∷ left) (out whole : Writing) (before : with_pairs inner (child_names it) out ≡ whole) where
  next : (n : Option (List ℕ)) → field_name (string_bytes e.0) ≡ n → with_pairs inner (child_names left) (with_named_pair n (inner (string_bytes e.0)) out) ≡ whole
  next n named = sym (ap (λ n. with_pairs inner (child_names left) (with_named_pair n (inner (string_bytes e.0)) out)) named) ∙ sym (ap (λ l. with_pairs inner (child_names l) out) steps) ∙ before

  pub child_wrote : (k : List ℕ) (new : Writing) → field_name (string_bytes e.0) ≡ Some k → new ≡ with_pair k (inner (string_bytes e.0)) out → with_pairs inner (child_names left) new ≡ whole
  child_wrote k new named step = ap (with_pairs inner (child_names left)) step ∙ next (Some k) named

  pub child_skipped : field_name (string_bytes e.0) ≡ None → with_pairs inner (child_names left) out ≡ whole
  child_skipped named = next None named

-- ---- braces

pub struct_wrote : (all : Fields) (b : Bool) (c : Content) (old now : Writing) → b ≡ false → IsThere (struct_of all b) c → now ≡ with_fields (fields_between None None all) c (with_opening 123 old)
    → with_closing 125 now ≡ with_value (printed (struct_of all b) c) old
struct_wrote all true c old now is is_there fields = absurd (true≢false is)
struct_wrote all false c old now is is_there fields =
    object_wrote (struct_of all false) c is_there (row_of_fields all c) old now (ap object_or_none (struct_row all c is_there.0.0))
    (ap (closed no_members) (fields ∙ ap (λ fs. with_fields fs c (with_opening 123 old)) (all_between all)) ∙ fields_closed all c (with_opening 123 old) no_members)

pub values_wrote : (s : Shape) (b : Bool) (c : Content) (old now : Writing) → b ≡ false → IsThere (map_of s b) c → now ≡ with_pairs (λ e. printed s (inside e c)) (heads c) (with_opening 123 old)
    → with_closing 125 now ≡ with_value (printed (map_of s b) c) old
values_wrote s true c old now is is_there members = absurd (true≢false is)
values_wrote s false c old now is is_there members =
    let inner = λ (e : List ℕ). printed s (inside e c) in
    object_wrote (map_of s false) c is_there (row_each inner (heads c)) old now (ap object_or_none (each_row inner (heads c) (heads_rise c)))
    (ap (closed no_members) members ∙ pairs_closed inner (heads c) (with_opening 123 old))

-- the key's member in its place among the fields
pub key_wrote : (n : List ℕ) (d : Data) (all : Fields) (c : Content) (old one two three : Writing) → FitBesideKey n all c → one ≡ with_fields (fields_between None (Some n) all) c (with_opening 123 old)
    → two ≡ with_text (quoted n ++ 58 ∷ compact_text d) one → three ≡ with_fields (fields_between (Some n) None all) c two
    → with_closing 125 three ≡ with_text (compact_text (object (print_fields all c (member n d no_members)))) old
key_wrote n d all c old one two three fit lower key upper =
    let above = then_fields (fields_between (Some n) None all) c no_members in
    braced (print_fields all c (member n d no_members)) old three
    (ap (closed no_members) upper ∙ fields_closed (fields_between (Some n) None all) c two no_members
    ∙ ap (closed above) key ∙ text_closed n d one above
    ∙ ap (closed (member n d above)) lower ∙ fields_closed (fields_between None (Some n) all) c (with_opening 123 old) (member n d above)
    ∙ sym (ap (λ ms. closed ms (with_opening 123 old)) (beside_key n d c fit.2 all (ascend_rising (names_of all) fit.1))))

-- ---- a whole value at the top

pub struct_top : (all : Fields) (b : Bool) (c : Content) → b ≡ true → value_at c ≡ printed (struct_of all b) c
struct_top all true c is = refl
struct_top all false c is = absurd (true≢false (sym is))

pub map_top : (s : Shape) (b : Bool) (c : Content) → b ≡ true → value_at c ≡ printed (map_of s b) c
map_top s true c is = refl
map_top s false c is = absurd (true≢false (sym is))

pub scalar_top : (t : Schema) (c : Content) → (t ≡ schemas.Text) ⊎ ((t ≡ schemas.Whole) ⊎ (t ≡ schemas.Truth)) → value_at c ≡ printed (shape t) c
scalar_top t c (inl is) = sym (ap (λ s. printed s c) (ap shape is ∙ shape-Text))
scalar_top t c (inr (inl is)) = sym (ap (λ s. printed s c) (ap shape is ∙ shape-Whole))
scalar_top t c (inr (inr is)) = sym (ap (λ s. printed s c) (ap shape is ∙ shape-Truth))
