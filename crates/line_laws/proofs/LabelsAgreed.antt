-- The two readers of labels agree.
use Rattle.std.proofs.Common.{◌≡◌, ℕ, Bool, true, false, List, [], Option, Some, None, Ok, Err, is_some, refl, sym, ap, ◌∙◌, true≢false}
use Rattle.std.specs.Prelude.{codes, option_and_then, unwrap_or}
use Rattle.serde_json.specs.Data.{Data, null, boolean, number, string, array, object, Members}
use Rattle.serde_json.specs.Find.{as_object, get, get_member}
use Rattle.selector.specs.Labels.{Labels}
use Rattle.indexer.specs.Objects.{Stored}
use Rattle.decoder.specs.declared.malformed.Malformed.{Malformed}
use Rattle.decoder.specs.declared.malformed.Malformed.TheVariants as malformed
use Rattle.decoder.specs.Members.{Read, ◌>>=◌, at, is_of, members_of, metadata_in, or_malformed, text_at, unless_null, version_in}
use Rattle.decoder.specs.Objects as client
use Rattle.decoder.specs.Wanted.{api_version_of}
use Rattle.json_values.specs.Texts.{texts_of}
use Rattle.lists.specs.Labels.{label_members}
use Rattle.line_laws.specs.LabelReaders.{ReadersAgree}

abbrev is_ok : {A : Type 0} → Read A → Bool
is_ok (Ok x) = true
is_ok (Err m) = false

abbrev or_given : {A : Type 0} → A → Read A → A
or_given x (Ok y) = y
or_given x (Err m) = x

fails : {A P : Type 0} (m : Malformed) (y : A) → ◌≡◌ {A = Read A} (Err m) (Ok y) → P
fails m y e = absurd (true≢false (sym (ap is_ok e)))

same_ok : {A : Type 0} (x y : A) → ◌≡◌ {A = Read A} (Ok x) (Ok y) → x ≡ y
same_ok x y e = ap (or_given x) e

passed : {A B : Type 0} (r : Read A) (f : A → Read B) (y : B) → r >>= f ≡ Ok y → (x : A) × (r ≡ Ok x) × (f x ≡ Ok y)
passed (Ok x) f y e = (x, refl, e)
passed (Err m) f y e = fails m y e

given : {A : Type 0} (m : Malformed) (o : Option A) (y : A) → or_malformed m o ≡ Ok y → o ≡ Some y
given m None y e = fails m y e
given m (Some x) y e = ap Some (same_ok x y e)

no_some : {A P : Type 0} (y : A) → ◌≡◌ {A = Option A} None (Some y) → P
no_some y e = absurd (true≢false (sym (ap is_some e)))

get_of : (k : List ℕ) (d : Data) → get k d ≡ option_and_then (get_member k) (as_object d)
get_of k null = refl
get_of k (boolean b) = refl
get_of k (number n) = refl
get_of k (string s) = refl
get_of k (array ds) = refl
get_of k (object ms) = refl

-- a member that is taken as an object is that object
get_in : (k : List ℕ) (o : Option Data) (ms : Members) → option_and_then as_object (option_and_then unless_null o) ≡ Some ms → option_and_then (get k) o ≡ get_member k ms
get_in k None ms e = no_some ms e
get_in k (Some null) ms e = no_some ms e
get_in k (Some (boolean b)) ms e = no_some ms e
get_in k (Some (number n)) ms e = no_some ms e
get_in k (Some (string s)) ms e = no_some ms e
get_in k (Some (array ds)) ms e = no_some ms e
get_in k (Some (object os)) ms e = ap (λ o. option_and_then (get_member k) o) e

labels_agree : (o : Option Data) (ls : Labels) → client.labels_of (option_and_then unless_null o) ≡ Ok ls → ls ≡ unwrap_or (option_and_then texts_of (option_and_then as_object o)) []
labels_agree None ls e = sym (same_ok [] ls e)
labels_agree (Some null) ls e = sym (same_ok [] ls e)
labels_agree (Some (boolean b)) ls e = fails malformed.Labels ls e
labels_agree (Some (number n)) ls e = fails malformed.Labels ls e
labels_agree (Some (string s)) ls e = fails malformed.Labels ls e
labels_agree (Some (array ds)) ls e = fails malformed.Labels ls e
labels_agree (Some (object ms)) ls e = sym (ap (λ o. unwrap_or o []) (given malformed.Labels (texts_of ms) ls e))

pub readers_agree : ReadersAgree
readers_agree wanted text d x is e =
    let top = passed (members_of d) _ x e in
    let named = passed (is_of (api_version_of wanted) wanted.kind top.0) _ x top.2 in
    let metadata = passed (metadata_in top.0) _ x named.2 in
    let name = passed (or_malformed malformed.Name (text_at (codes "name") metadata.0)) _ x metadata.2 in
    let namespace = passed (client.namespace_in wanted.namespace metadata.0) _ x name.2 in
    let version = passed (version_in metadata.0) _ x namespace.2 in
    let labels = passed (client.labels_of (at (codes "labels") metadata.0)) _ x version.2 in
    let written = passed (client.text_of d) _ x labels.2 in
    let found : option_and_then (get (codes "labels")) (get (codes "metadata") d) ≡ get_member (codes "labels") metadata.0 =
    ap (option_and_then (get (codes "labels"))) (get_of (codes "metadata") d ∙ ap (option_and_then (get_member (codes "metadata"))) (given malformed.Object (as_object d) top.0 top.1))
    ∙ get_in (codes "labels") (get_member (codes "metadata") top.0) metadata.0 (given malformed.Metadata _ metadata.0 metadata.1) in
    ap (λ (r : Read Stored). (or_given x r).labels) (sym written.2)
    ∙ labels_agree (get_member (codes "labels") metadata.0) labels.0 labels.1
    ∙ sym (ap (λ o. unwrap_or (option_and_then texts_of (option_and_then label_members o)) []) is ∙ ap (λ o. unwrap_or (option_and_then texts_of (option_and_then as_object o)) []) found)
