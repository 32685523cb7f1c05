-- What is kept of an object is what its own text says.
use Rattle.std.proofs.Common.{◌≡◌, ℕ, ◌≤◌, ◌||◌, Bool, true, false, cond, List, ◌++◌, Option, Some, None, is_some, option_and_then, codes, Ordering, Less, Equal, Greater, nat_cmp, refl, sym, ap, subst, ◌∙◌, arith}
use Rattle.std.specs.Cmp.Lexicographic.{slice_cmp}
use Rattle.std.specs.Ordering.{match_ordering}
use Rattle.std.specs.Str.{bytes_eq, is_utf8}
use Rattle.std.specs.declared.result.Result.TheVariants.{Ok, Err}
use Rattle.serde_json.specs.Data.{Data, null, boolean, number, string, array, object, Items, no_items, item, Members, no_members, member, depth, items_depth, members_depth}
use Rattle.serde_json.specs.Find.{get_member, as_null, as_array, as_object}
use Rattle.serde_json.specs.Read.{read, max_depth}
use Rattle.serde_json.specs.Written.{has_float, compact_text}
use Rattle.fieldpath.specs.Encodable.{IsEncodable, AreEncodable, MembersAreEncodable}
use Rattle.fieldpath.proofs.Encodable.{compact-read, encodable-read}
use Rattle.indexer.specs.Objects.{Stored}
use Rattle.decoder.specs.declared.malformed.Malformed.{Malformed}
use Rattle.decoder.specs.declared.malformed.Malformed.TheVariants as malformed
use Rattle.decoder.specs.Wanted.{Wanted, api_version_of}
use Rattle.decoder.specs.Members.{Read, ◌>>=◌, or_malformed, value_in, members_of, unless_null, at, text_at, is_of, metadata_in, version_in}
use Rattle.decoder.specs.Objects.{namespace_in, labels_of, text_of, object_of}
use Rattle.decoder.specs.Pages.{Page, token_of, objects_of, page_in}
use Rattle.decoder.specs.Lines.{Line, put, deleted, bookmark, error, bookmark_of, line_in}
use Rattle.decoder.specs.OwnTexts.{object_in, IsItsText, AreTheirTexts, ShowsItsText}

-- ---- what was read

abbrev or_else : {A : Type 0} → A → Read A → A
or_else other (Ok x) = x
or_else other (Err m) = other

bound : {A B : Type 0} (r : Read A) (f : A → Read B) (b : B) → (r >>= f) ≡ Ok b → (a : A) × (r ≡ Ok a) × (f a ≡ Ok b)
bound (Ok a) f b is = (a, refl, is)
bound (Err m) f b is = absurd cc

found : {A : Type 0} (m : Malformed) (o : Option A) (a : A) → or_malformed m o ≡ Ok a → o ≡ Some a
found m (Some x) a is = ap Some (ap (or_else a) is)
found m None a is = absurd cc

some_is : {A : Type 0} (x y : A) → Some x ≡ Some y → x ≡ y
some_is x y is = cc

then_some : {A B : Type 0} (f : A → Option B) (o : Option A) (b : B) → option_and_then f o ≡ Some b → (a : A) × (o ≡ Some a) × (f a ≡ Some b)
then_some f (Some a) b is = (a, refl, is)
then_some f None b is = absurd cc

-- ---- what stands in a value that was read

abbrev Fits : ℕ → Data → Type 0
Fits n d = IsEncodable d × (depth d ≤ n)

abbrev MembersFit : ℕ → Members → Type 0
MembersFit n ms = MembersAreEncodable ms × (members_depth ms ≤ n)

abbrev ItemsFit : ℕ → Items → Type 0
ItemsFit n ds = AreEncodable ds × (items_depth ds ≤ n)

member_fits : (n : ℕ) (k : List ℕ) (ms : Members) (d : Data) → MembersFit n ms → get_member k ms ≡ Some d → Fits n d
member_fits n k no_members d fits is = absurd cc
member_fits n k (member l e ms) d fits is =
    let first : depth e ≤ n = omega (arith, fits.1) in
    let others : members_depth ms ≤ n = omega (arith, fits.1) in
    by_order (slice_cmp nat_cmp k l) (fits.0.0, first) (λ more. member_fits n k ms d (fits.0.1, others) more) is
  where
    by_order : (o : Ordering) → Fits n e → (get_member k ms ≡ Some d → Fits n d) → match_ordering o (get_member k ms) (Some e) (get_member k ms) ≡ Some d → Fits n d
    by_order Less one more here = more here
    by_order Equal one more here = subst (Fits n) (some_is e d here) one
    by_order Greater one more here = more here

not_null : (e d : Data) → unless_null e ≡ Some d → e ≡ d
not_null e d is = by_null (is_some (as_null e)) is
  where
    by_null : (b : Bool) → cond b None (Some e) ≡ Some d → e ≡ d
    by_null true here = absurd cc
    by_null false here = some_is e d here

at_fits : (n : ℕ) (k : List ℕ) (ms : Members) (d : Data) → MembersFit n ms → at k ms ≡ Some d → Fits n d
at_fits n k ms d fits is =
    let there = then_some unless_null (get_member k ms) d is in
    subst (Fits n) (not_null there.0 d there.2) (member_fits n k ms there.0 fits there.1)

object_fits : (n : ℕ) (d : Data) (ms : Members) → Fits n d → as_object d ≡ Some ms → MembersFit n ms
object_fits n null ms fits is = absurd cc
object_fits n (boolean b) ms fits is = absurd cc
object_fits n (number x) ms fits is = absurd cc
object_fits n (string s) ms fits is = absurd cc
object_fits n (array ds) ms fits is = absurd cc
object_fits n (object ns) ms fits is =
    let shallow : members_depth ns ≤ n = omega (arith, fits.1) in
    subst (MembersFit n) (some_is ns ms is) (fits.0.1, shallow)

array_fits : (n : ℕ) (d : Data) (ds : Items) → Fits n d → as_array d ≡ Some ds → ItemsFit n ds
array_fits n null ds fits is = absurd cc
array_fits n (boolean b) ds fits is = absurd cc
array_fits n (number x) ds fits is = absurd cc
array_fits n (string s) ds fits is = absurd cc
array_fits n (object ms) ds fits is = absurd cc
array_fits n (array es) ds fits is =
    let shallow : items_depth es ≤ n = omega (arith, fits.1) in
    subst (ItemsFit n) (some_is es ds is) (fits.0, shallow)

value_fits : (bytes : List ℕ) (d : Data) → value_in bytes ≡ Ok d → Fits max_depth d
value_fits bytes d is = encodable-read bytes d (if_text (is_utf8 bytes) (found malformed.Json _ d is))
  where
    if_text : (b : Bool) → cond b (read bytes) None ≡ Some d → read bytes ≡ Some d
    if_text true here = here
    if_text false here = absurd cc

-- ---- one object

abbrev or_text : List ℕ → Read Stored → List ℕ
or_text other (Ok o) = o.text
or_text other (Err m) = other

text_kept : (wanted : Wanted) (d : Data) (o : Stored) → object_of wanted d ≡ Ok o → text_of d ≡ Ok o.text
text_kept wanted d o is =
    let top = bound (members_of d) _ o is in
    let wants = bound (is_of (api_version_of wanted) wanted.kind top.0) _ o top.2 in
    let metadata = bound (metadata_in top.0) _ o wants.2 in
    let name = bound (or_malformed malformed.Name (text_at (codes "name") metadata.0)) _ o metadata.2 in
    let namespace = bound (namespace_in wanted.namespace metadata.0) _ o name.2 in
    let revision = bound (version_in metadata.0) _ o namespace.2 in
    let labels = bound (labels_of (at (codes "labels") metadata.0)) _ o revision.2 in
    let text = bound (text_of d) _ o labels.2 in
    text.1 ∙ ap Ok (ap (or_text text.0) text.2)

abbrev text_unless : Bool → Data → Read (List ℕ)
text_unless b d = cond b (Err malformed.Number) (Ok (compact_text d))

compact : (d : Data) (text : List ℕ) → text_of d ≡ Ok text → (has_float d ≡ false) × (compact_text d ≡ text)
compact d text is = by_float (has_float d) refl is
  where
    by_float : (b : Bool) → has_float d ≡ b → text_unless b d ≡ Ok text → (has_float d ≡ false) × (compact_text d ≡ text)
    by_float true has here = absurd cc
    by_float false has here = (has, ap (or_else text) here)

its_text : (wanted : Wanted) (d : Data) (o : Stored) → Fits max_depth d → object_of wanted d ≡ Ok o → IsItsText wanted o
its_text wanted d o fits is =
    let clean = compact d o.text (text_kept wanted d o is) in
    let back : read o.text ≡ Some d = ap read (sym clean.1) ∙ compact-read d fits.0 clean.0 fits.1 in
    ap (λ (r : Option Data). or_malformed malformed.Json r >>= λ e. object_of wanted e) back ∙ is

pub same_text : (wanted : Wanted) (o p : Stored) → IsItsText wanted o → IsItsText wanted p → o.text ≡ p.text → o ≡ p
same_text wanted o p first second texts = ap (or_else o) (sym first ∙ ap (object_in wanted) texts ∙ second)

-- ---- a page

items_texts : (wanted : Wanted) (ds : Items) (os : List Stored) → ItemsFit max_depth ds → objects_of wanted ds ≡ Ok os → AreTheirTexts wanted os
items_texts wanted no_items os fits is = subst (AreTheirTexts wanted) (ap (or_else os) is) tt
items_texts wanted (item d ds) os fits is =
    let one = bound (object_of wanted d) _ os is in
    let more = bound (objects_of wanted ds) _ os one.2 in
    let first : depth d ≤ max_depth = omega (arith, fits.1) in
    let others : items_depth ds ≤ max_depth = omega (arith, fits.1) in
    subst (AreTheirTexts wanted) (ap (or_else os) more.2) (its_text wanted d one.0 (fits.0.0, first) one.1, items_texts wanted ds more.0 (fits.0.1, others) more.1)

abbrev or_objects : List Stored → Read Page → List Stored
or_objects others (Ok p) = p.objects
or_objects others (Err m) = others

pub page_texts : (wanted : Wanted) (bytes : List ℕ) (p : Page) → page_in wanted bytes ≡ Ok p → AreTheirTexts wanted p.objects
page_texts wanted bytes p is =
    let value = bound (value_in bytes) _ p is in
    let top = bound (members_of value.0) _ p value.2 in
    let wants = bound (is_of (api_version_of wanted) (wanted.kind ++ codes "List") top.0) _ p top.2 in
    let metadata = bound (metadata_in top.0) _ p wants.2 in
    let revision = bound (version_in metadata.0) _ p metadata.2 in
    let token = bound (token_of (at (codes "continue") metadata.0)) _ p revision.2 in
    let ds = bound (or_malformed malformed.Items (option_and_then as_array (at (codes "items") top.0))) _ p token.2 in
    let os = bound (objects_of wanted ds.0) _ p ds.2 in
    let fit = object_fits max_depth value.0 top.0 (value_fits bytes value.0 value.1) (found malformed.Object _ top.0 top.1) in
    let there = then_some as_array (at (codes "items") top.0) ds.0 (found malformed.Items _ ds.0 ds.1) in
    subst (AreTheirTexts wanted) (ap (or_objects os.0) os.2)
    (items_texts wanted ds.0 os.0 (array_fits max_depth there.0 ds.0 (at_fits max_depth (codes "items") top.0 there.0 fit there.1) there.2) os.1)

-- ---- a line

abbrev by_name : Wanted → Data → Bool → Bool → Bool → Bool → Read Line
by_name wanted d a b c e =
    cond a (object_of wanted d >>= λ o. Ok (put o)) (cond b (object_of wanted d >>= λ o. Ok (deleted o)) (cond c (bookmark_of wanted d >>= λ r. Ok (bookmark r)) (cond e (Ok error) (Err malformed.LineType))))

typed_texts : (wanted : Wanted) (d : Data) (l : Line) → Fits max_depth d → (a b c e : Bool) → by_name wanted d a b c e ≡ Ok l → ShowsItsText wanted l
typed_texts wanted d l fits true b c e here = let one = bound (object_of wanted d) _ l here in subst (ShowsItsText wanted) (ap (or_else l) one.2) (its_text wanted d one.0 fits one.1)
typed_texts wanted d l fits false true c e here = let one = bound (object_of wanted d) _ l here in subst (ShowsItsText wanted) (ap (or_else l) one.2) (its_text wanted d one.0 fits one.1)
typed_texts wanted d l fits false false true e here = let one = bound (bookmark_of wanted d) _ l here in subst (ShowsItsText wanted) (ap (or_else l) one.2) tt
typed_texts wanted d l fits false false false true here = subst (ShowsItsText wanted) (ap (or_else l) here) tt
typed_texts wanted d l fits false false false false here = absurd cc

pub line_texts : (wanted : Wanted) (bytes : List ℕ) (l : Line) → line_in wanted bytes ≡ Ok l → ShowsItsText wanted l
line_texts wanted bytes l is =
    let value = bound (value_in bytes) _ l is in
    let top = bound (members_of value.0) _ l value.2 in
    let name = bound (or_malformed malformed.LineType (text_at (codes "type") top.0)) _ l top.2 in
    let subject = bound (or_malformed malformed.Object (at (codes "object") top.0)) _ l name.2 in
    let fit = object_fits max_depth value.0 top.0 (value_fits bytes value.0 value.1) (found malformed.Object _ top.0 top.1) in
    typed_texts wanted subject.0 l (at_fits max_depth (codes "object") top.0 subject.0 fit (found malformed.Object _ subject.0 subject.1))
    (bytes_eq name.0 (codes "ADDED") || bytes_eq name.0 (codes "MODIFIED")) (bytes_eq name.0 (codes "DELETED")) (bytes_eq name.0 (codes "BOOKMARK")) (bytes_eq name.0 (codes "ERROR")) subject.2
