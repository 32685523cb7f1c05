-- The labels of an object that a client keeps are texts, as the object's text is one.
use Rattle.std.proofs.Common.{◌≡◌, ℕ, Bool, true, false, cond, List, [], ◌∷◌, Option, Some, None, Ordering, Less, Equal, Greater, IsUtf8, codes, option_and_then, refl, sym, ap, subst, ◌∙◌}
use Rattle.std.specs.Prelude.{is_some, option_map}
use Rattle.std.specs.Cmp.Lexicographic.{slice_cmp}
use Rattle.std.specs.List.{AllByRecursion}
use Rattle.std.specs.Ordering.{match_ordering, nat_cmp}
use Rattle.std.specs.declared.result.Result.TheVariants.{Ok, Err}
use Rattle.serde_json.specs.Data.{Data, null, boolean, number, string, array, object, Members, no_members, member}
use Rattle.serde_json.specs.Find.{as_null, as_object, as_str, get_member}
use Rattle.serde_json.specs.Read.{read}
use Rattle.serde_json.specs.Written.{compact_text, has_float}
use Rattle.json_values.specs.Texts.{texts_of}
use Rattle.fieldpath.proofs.Encodable.{encodable-read}
use Rattle.objects.proofs.Taken.{same_some}
use Rattle.indexer.specs.Objects.{Stored}
use Rattle.line_laws.proofs.Texts.{HasTexts, MembersHaveTexts, has_texts}
use Rattle.decoder.specs.declared.malformed.Malformed.{Malformed}
use Rattle.decoder.specs.declared.malformed.Malformed.TheVariants as malformed
use Rattle.decoder.specs.Wanted.{Wanted, api_version_of}
use Rattle.decoder.specs.Members.{Read, ◌>>=◌, at, is_of, members_of, metadata_in, or_malformed, text_at, unless_null, version_in}
use Rattle.decoder.specs.Objects.{labels_of, namespace_in, object_of, text_of}
use Rattle.decoder.specs.OwnTexts.{object_in}

abbrev pub Labels : Type 0
Labels = List (List ℕ × List ℕ)

abbrev pub AreTexts : Labels → Type 0
AreTexts labels = AllByRecursion (λ e. IsUtf8 e.1) labels

-- ---- what was read

abbrev or_else : {A : Type 0} → A → Read A → A
or_else other (Ok x) = x
or_else other (Err m) = other

bound : {A B : Type 0} (r : Read A) (f : A → Read B) (b : B) → (r >>= f) ≡ Ok b → (a : A) × (r ≡ Ok a) × (f a ≡ Ok b)
bound (Ok a) f b is = (a, refl, is)
bound (Err m) f b is = absurd cc

ok_is : {A : Type 0} (x y : A) → ◌≡◌ {A = Read A} (Ok x) (Ok y) → x ≡ y
ok_is x y is = ap (or_else x) is

found : {A : Type 0} (m : Malformed) (o : Option A) (a : A) → or_malformed m o ≡ Ok a → o ≡ Some a
found m (Some x) a is = ap Some (ok_is x a is)
found m None a is = absurd cc

then_some : {A B : Type 0} (f : A → Option B) (o : Option A) (b : B) → option_and_then f o ≡ Some b → (a : A) × (o ≡ Some a) × (f a ≡ Some b)
then_some f (Some a) b is = (a, refl, is)
then_some f None b is = absurd cc

-- ---- texts in a value of texts

texts_at : (k : List ℕ) (ms : Members) (d : Data) → MembersHaveTexts ms → get_member k ms ≡ Some d → HasTexts d
texts_at k no_members d texts is = absurd cc
texts_at k (member l e ms) d texts is = by_order (slice_cmp nat_cmp k l) (λ there. texts_at k ms d texts.1.1 there) is
  where
    by_order : (o : Ordering) → (get_member k ms ≡ Some d → HasTexts d) → match_ordering o (get_member k ms) (Some e) (get_member k ms) ≡ Some d → HasTexts d
    by_order Less later there = later there
    by_order Equal later there = subst HasTexts (same_some e d there) texts.1.0
    by_order Greater later there = later there

not_null : (e d : Data) → unless_null e ≡ Some d → e ≡ d
not_null e d is = by_null (is_some (as_null e)) is
  where
    by_null : (b : Bool) → cond b None (Some e) ≡ Some d → e ≡ d
    by_null true there = absurd cc
    by_null false there = same_some e d there

at_texts : (k : List ℕ) (ms : Members) (d : Data) → MembersHaveTexts ms → at k ms ≡ Some d → HasTexts d
at_texts k ms d texts is =
    let there = then_some unless_null (get_member k ms) d is in
    subst HasTexts (not_null there.0 d there.2) (texts_at k ms there.0 texts there.1)

object_texts : (d : Data) (ms : Members) → HasTexts d → as_object d ≡ Some ms → MembersHaveTexts ms
object_texts null ms texts is = absurd cc
object_texts (boolean b) ms texts is = absurd cc
object_texts (number n) ms texts is = absurd cc
object_texts (string s) ms texts is = absurd cc
object_texts (array ds) ms texts is = absurd cc
object_texts (object ns) ms texts is = subst MembersHaveTexts (same_some ns ms is) texts

str_text : (d : Data) (s : List ℕ) → HasTexts d → as_str d ≡ Some s → IsUtf8 s
str_text null s texts is = absurd cc
str_text (boolean b) s texts is = absurd cc
str_text (number n) s texts is = absurd cc
str_text (string t) s texts is = subst IsUtf8 (same_some t s is) texts
str_text (array ds) s texts is = absurd cc
str_text (object ms) s texts is = absurd cc

members_texts : (ms : Members) (labels : Labels) → MembersHaveTexts ms → texts_of ms ≡ Some labels → AreTexts labels
members_texts no_members labels texts is = subst AreTexts (same_some [] labels is) tt
members_texts (member k d ms) labels texts is = by_value (λ more there. members_texts ms more texts.1.1 there) (then_some (λ v. option_map (λ more. (k, v) ∷ more) (texts_of ms)) (as_str d) labels is)
  where
    by_more : ((more : Labels) → texts_of ms ≡ Some more → AreTexts more) → (v : List ℕ) → IsUtf8 v → (o : Option Labels) → texts_of ms ≡ o → option_map (λ more. (k, v) ∷ more) o ≡ Some labels → AreTexts labels
    by_more further v text None at there = absurd cc
    by_more further v text (Some more) at there = subst AreTexts (same_some ((k, v) ∷ more) labels there) (text, further more at)

    by_value : ((more : Labels) → texts_of ms ≡ Some more → AreTexts more) → (v : List ℕ) × (as_str d ≡ Some v) × (option_map (λ more. (k, v) ∷ more) (texts_of ms) ≡ Some labels) → AreTexts labels
    by_value further (v, str, there) = by_more further v (str_text d v texts.1.0 str) (texts_of ms) refl there

-- ---- an object

listed_texts : (o : Option Data) (labels : Labels) → ((d : Data) → o ≡ Some d → HasTexts d) → labels_of o ≡ Ok labels → AreTexts labels
listed_texts None labels texts is = subst AreTexts (ok_is [] labels is) tt
listed_texts (Some d) labels texts is =
    let there = then_some texts_of (as_object d) labels (found malformed.Labels (option_and_then texts_of (as_object d)) labels is) in
    members_texts there.0 labels (object_texts d there.0 (texts d refl) there.1) there.2

abbrev labels_in : Labels → Read Stored → Labels
labels_in other (Ok o) = o.labels
labels_in other (Err m) = other

abbrev text_in : List ℕ → Read Stored → List ℕ
text_in other (Ok o) = o.text
text_in other (Err m) = other

abbrev text_unless : Bool → Data → Read (List ℕ)
text_unless b d = cond b (Err malformed.Number) (Ok (compact_text d))

compact : (d : Data) (text : List ℕ) → text_of d ≡ Ok text → compact_text d ≡ text
compact d text is = by_float (has_float d) is
  where
    by_float : (b : Bool) → text_unless b d ≡ Ok text → compact_text d ≡ text
    by_float true there = absurd cc
    by_float false there = ok_is (compact_text d) text there

made : (namespace name text : List ℕ) (revision : ℕ) (labels : Labels) (o : Stored)
    → ◌≡◌ {A = Read Stored} (Ok (record { namespace = namespace; name = name; revision = revision; labels = labels; text = text })) (Ok o) → (text ≡ o.text) × (labels ≡ o.labels)
made namespace name text revision labels o is = (ap (text_in text) is, ap (labels_in labels) is)

module _ (wanted : Wanted) (d : Data) (o : Stored) (is : object_of wanted d ≡ Ok o) where
  -- what is kept of it: its text is the value's, and its labels those of the value
  kept : (compact_text d ≡ o.text) × (HasTexts d → AreTexts o.labels)
  kept =
      let top = bound (members_of d) _ o is in
      let wants = bound (is_of (api_version_of wanted) wanted.kind top.0) _ o top.2 in
      let metadata = bound (metadata_in top.0) _ o wants.2 in
      let name = bound (or_malformed malformed.Name (text_at (codes "name") metadata.0)) _ o metadata.2 in
      let namespace = bound (namespace_in wanted.namespace metadata.0) _ o name.2 in
      let revision = bound (version_in metadata.0) _ o namespace.2 in
      let labels = bound (labels_of (at (codes "labels") metadata.0)) _ o revision.2 in
      let text = bound (text_of d) _ o labels.2 in
      let parts = made namespace.0 name.0 text.0 revision.0 labels.0 o text.2 in
      let inside = then_some as_object (at (codes "metadata") top.0) metadata.0 (found malformed.Metadata (option_and_then as_object (at (codes "metadata") top.0)) metadata.0 metadata.1) in (
        compact d text.0 text.1 ∙ parts.0,
        λ texts.
            let all = object_texts d top.0 texts (found malformed.Object (as_object d) top.0 top.1) in
            let marks = object_texts inside.0 metadata.0 (at_texts (codes "metadata") top.0 inside.0 all inside.1) inside.2 in
            subst AreTexts parts.1 (listed_texts (at (codes "labels") metadata.0) labels.0 (λ e there. at_texts (codes "labels") metadata.0 e marks there) labels.1),
      )

-- the labels of an object whose text is UTF-8
pub labels_texts : (wanted : Wanted) (body : List ℕ) (o : Stored) → object_in wanted body ≡ Ok o → IsUtf8 o.text → AreTexts o.labels
labels_texts wanted body o is text =
    let value = bound (or_malformed malformed.Json (read body)) (object_of wanted) o is in
    let both = kept wanted value.0 o value.2 in
    both.1 (has_texts value.0 (encodable-read body value.0 (found malformed.Json (read body) value.0 value.1)).0 (subst IsUtf8 (sym both.0) text))
