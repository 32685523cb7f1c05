-- What is printed reads back.
use Rattle.std.proofs.Common.{◌≡◌, ℕ, ℤ, suc, pos, negsuc, ◌^◌, ◌<◌, nat_lt, arith, Bool, true, false, cond, ◌&&◌, ◌||◌, is_eq, nat_cmp, List, [], ◌∷◌, ◌++◌, map, take, drop, take-append-drop, Option, Some, None, is_some, option_map, Ok, Err, is_ok, Result, inl, inr, ◌⊎◌, Less, refl, sym, ap, ap₂, ◌∙◌, true≢false, subst}
use Rattle.std.specs.Prelude.{option_and_then}
use Rattle.std.specs.Cmp.{first_so, second_so}
use Rattle.std.specs.Cmp.Lexicographic.{slice_cmp}
use Rattle.std.specs.FinMap as fin
use Rattle.std.specs.List.{AllByRecursion, list_any}
use Rattle.std.specs.List.Sorted.{IsStrictlySortedBy}
use Rattle.std.specs.Str.{bytes_eq}
use Rattle.std.proofs.lemmas.Bool.Decides.{nat_tests}
use Rattle.std.proofs.lemmas.Map.Text.{is_eq-slice_cmp}
use Rattle.std.proofs.lemmas.Slice.Eq.{bytes_eq-Decides}
use Rattle.serde_json.specs.Data.{Data, null, boolean, number, string, array, object, Items, no_items, item, Members, no_members, member}
use Rattle.serde_json.specs.Find.{of_integer, as_i64, get_member}
use Rattle.serde_json.specs.Written.{compact_text}
use Rattle.fieldpath.specs.Elements.{has_prefix, name_text, key_text, scalar_text, set_item_text, list_item_text, field_name}
use Rattle.pathmap.specs.Contents.{Content, nothing, here, under, over}
use Rattle.pathmap.specs.Contents as leaf_value
use Rattle.pathmap.specs.Insides.{inside, heads}
use Rattle.pathmap.proofs.Contents.{same, get-nothing, over-nothing}
use Rattle.pathmap.proofs.Levels.{get-here-top}
use Rattle.fieldpath.specs.Scalars.{ascend}
use Rattle.schema.specs.Lawful.{names_of, item_is_lawful, has_keys, is_some_name, is_well_formed, are_well_formed}
use Rattle.schema.specs.Shape.{atomic, set, keyed, Shape, text, whole, truth, struct_of, map_of, list_of, Fields, no_fields, field}
use Rattle.typed.specs.declared.fault.Cause.TheVariants.{WrongType, DuplicateItem, KeyFieldMissing}
use Rattle.typed.specs.Faults.{Read, below, and_then, some_or, shown_place}
use Rattle.typed.specs.WellTyped.{IsWithin, IsAtomic, IsBelow, is_field, IsSetItem, HasKeys, IsItem, AreWellTyped, ReadsBack, RoundTrip}
use Rattle.typed.specs.Printing.{value_at, value_of, object_or_none, array_or_none, with_member, with_named, with_item, each_member, each_item, scalar_in, print, print_item, print_fields}
use Rattle.typed.specs.Printing as printing
use Rattle.typed.specs.Reading.{is_null, plain_of, leaf, joined, members_at, marked, one_item, items_at, named_item, set_item, keyed_item, beside_keys, keys_in, content_of, content_of_item, content_of_field}
use Rattle.typed.proofs.ElementTexts.{value_element, key_element, scalar_same, scalar_reads}
use Rattle.pathmap.specs.Levels.{has_path}
use Rattle.pathmap.proofs.Levels.{nothing_path}
use Rattle.pathmap.proofs.Heads.{heads-inside, itself, rising}
use Rattle.pathmap.proofs.Insides.{get-inside}
use Rattle.typed.proofs.KeyFields.{AreRising, ascend_rising, AreKeys, keys_text, keys_fit, keys_there, keys_same, keys_found, keys_absent, keys_read, fields_keep}
use Rattle.typed.proofs.Parts.{with_parts, parts, IsAll, with_parts-all, parts-all, marked_parts-all, heads-all}
use Rattle.typed.proofs.Prints.{print-nothing}
use Rattle.typed.proofs.Putting.{Gave, same_ok, with_reads, with_other, below_differs}

-- ---- fields, one after another

abbrev elements : List (List ℕ) → List (List ℕ)
elements = map name_text

abbrev AllGave : (List ℕ → Data → Read Content) → Content → Fields → Type 0
AllGave inner c no_fields = Unit {0}
AllGave inner c (field f s more) = Gave (inner f) (print s (inside (name_text f) c)) (inside (name_text f) c) × AllGave inner c more

-- no field that is printed is there
abbrev AreNew : Fields → Content → Members → Type 0
AreNew no_fields c ms = Unit {0}
AreNew (field f s more) c ms = (is_some (print s (inside (name_text f) c)) ≡ true → get_member f ms ≡ None) × AreNew more c ms

still_new : (fs : Fields) (c : Content) (k : List ℕ) (o : Option Data) (ms : Members) → AllByRecursion (λ m. slice_cmp nat_cmp k m ≡ Less) (names_of fs) → AreNew fs c ms → AreNew fs c (with_member k o ms)
still_new no_fields c k o ms above new = tt
still_new (field f s more) c k o ms above new = ((λ t. with_other f k o ms (below_differs k f above.0) ∙ new.0 t), still_new more c k o ms above.1 new.1)

fields_read : (inner : List ℕ → Data → Read Content) (c : Content) (fs : Fields) (ms : Members) (d : Content) → AreRising (names_of fs) → AllGave inner c fs → AreNew fs c ms → members_at inner ms ≡ Ok d
    → members_at inner (print_fields fs c ms) ≡ Ok (with_parts (elements (names_of fs)) c d)
fields_read inner c no_fields ms d rise gave new h = h
fields_read inner c (field f s more) ms d rise gave new h =
    fields_read inner c more (with_member f (print s (inside (name_text f) c)) ms) (over (under (name_text f) (inside (name_text f) c)) d) rise.1 gave.1
    (still_new more c f (print s (inside (name_text f) c)) ms rise.0 new.1) (with_reads inner f (print s (inside (name_text f) c)) (inside (name_text f) c) ms d gave.0 new.0 h)

all_new : (fs : Fields) (c : Content) → AreNew fs c no_members
all_new no_fields c = tt
all_new (field f s more) c = ((λ t. refl), all_new more c)

is_field-any : (all : List (List ℕ)) (g : List ℕ) → list_any (bytes_eq g) (elements all) ≡ list_any (λ f. bytes_eq g (name_text f)) all
is_field-any [] g = refl
is_field-any (f ∷ all) g = ap (λ b. bytes_eq g (name_text f) || b) (is_field-any all g)

-- ---- the field that is found at a name

abbrev pub AllFound : Fields → Fields → Type 0
AllFound all no_fields = Unit {0}
AllFound all (field f s more) = ((d : Data) → content_of_field all f d ≡ content_of s d) × AllFound all more

pub one_so : (a b : Bool) → a ≡ true → (a || b) ≡ true
one_so true b h = refl
one_so false b h = absurd (true≢false (sym h))

pub other_so : (a b : Bool) → b ≡ true → (a || b) ≡ true
other_so true b h = refl
other_so false b h = h

pub all_found : (all fs : Fields) → AreRising (names_of fs) → ((k : List ℕ) (d : Data) → list_any (bytes_eq k) (names_of fs) ≡ true → content_of_field all k d ≡ content_of_field fs k d) → AllFound all fs
all_found all no_fields rise same = tt
all_found all (field f s more) rise same = (
  (λ d. same f d (one_so (bytes_eq f f) (list_any (bytes_eq f) (names_of more)) (itself f)) ∙ ap (λ b. cond b (content_of s d) (content_of_field more f d)) (itself f)),
  all_found all more rise.1 (λ k d t.
      same k d (other_so (bytes_eq k f) (list_any (bytes_eq k) (names_of more)) t) ∙ by_test k d (bytes_eq f k) refl t),
)
  where
    not_above : (k : List ℕ) (ns : List (List ℕ)) → f ≡ k → AllByRecursion (λ m. slice_cmp nat_cmp f m ≡ Less) ns → list_any (bytes_eq k) ns ≡ false
    not_above k [] is above = refl
    not_above k (n ∷ ns) is above = ap₂ (λ a b. a || b) (sym (is_eq-slice_cmp k n) ∙ ap (λ x. is_eq (slice_cmp nat_cmp x n)) (sym is) ∙ ap is_eq above.0) (not_above k ns is above.1)

    by_test : (k : List ℕ) (d : Data) (b : Bool) → bytes_eq f k ≡ b → list_any (bytes_eq k) (names_of more) ≡ true → cond b (content_of s d) (content_of_field more k d) ≡ content_of_field more k d
    by_test k d true t h = absurd (true≢false (sym h ∙ not_above k (names_of more) ((bytes_eq-Decides f k).0 t) rise.0))
    by_test k d false t h = refl

-- ---- elements, one after another

abbrev pub Every : (List ℕ → Type 0) → List (List ℕ) → Type 0
Every P es = AllByRecursion P es

pub every : (P : List ℕ → Type 0) (hs : List (List ℕ)) → ((e : List ℕ) → list_any (bytes_eq e) hs ≡ true → P e) → Every P hs
every P [] each = tt
every P (h ∷ hs) each = (each h (one_so (bytes_eq h h) (list_any (bytes_eq h) hs) (itself h)), every P hs (λ e t. each e (other_so (bytes_eq e h) (list_any (bytes_eq e) hs) t)))

pub are_rising : (hs : List (List ℕ)) → IsStrictlySortedBy (slice_cmp nat_cmp) hs → AreRising hs
unfolding IsStrictlySortedBy
are_rising [] h = tt
are_rising (e ∷ hs) h = (h.0, are_rising hs h.1)

pub heads_rise : (c : Content) → AreRising (heads c)
heads_rise c = are_rising (heads c) (rising c)

-- the element is that of a name
abbrev pub IsName : List ℕ → Type 0
IsName e = (k : List ℕ) × (field_name e ≡ Some k) × (e ≡ name_text k)

pub prefix_name : (e : List ℕ) → has_prefix 102 e ≡ true → IsName e
unfolding name_text
prefix_name e h = (drop 2 e, ap (λ b. cond b (Some (drop 2 e)) None) h, sym (take-append-drop 2 e) ∙ ap (λ t. t ++ drop 2 e) ((bytes_eq-Decides (take 2 e) (102 ∷ 58 ∷ [])).0 h))

-- no name of these is there
abbrev AreFree : List (List ℕ) → Members → Type 0
AreFree es ms = Every (λ e. (k : List ℕ) → e ≡ name_text k → get_member k ms ≡ None) es

still_free : (es : List (List ℕ)) (k : List ℕ) (o : Option Data) (ms : Members) → AllByRecursion (λ e. slice_cmp nat_cmp (name_text k) e ≡ Less) es → AreFree es ms → AreFree es (with_member k o ms)
still_free [] k o ms above free = tt
still_free (e ∷ es) k o ms above free = ((λ l is. with_other l k o ms (λ same. below_differs (name_text k) e above.0 (is ∙ ap name_text same)) ∙ free.0 l is), still_free es k o ms above.1 free.1)

all_free : (es : List (List ℕ)) → AreFree es no_members
all_free [] = tt
all_free (e ∷ es) = ((λ k is. refl), all_free es)

each_read : (inner : List ℕ → Data → Read Content) (pr : List ℕ → Option Data) (c : Content) → ((e : List ℕ) (k : List ℕ) → e ≡ name_text k → Gave (inner k) (pr e) (inside e c))
    → (es : List (List ℕ)) (ms : Members) (d : Content) → AreRising es → Every IsName es → AreFree es ms → members_at inner ms ≡ Ok d → members_at inner (each_member pr es ms) ≡ Ok (with_parts es c d)
each_read inner pr c gave [] ms d rise named free h = h
each_read inner pr c gave (e ∷ es) ms d rise named free h =
    let k = named.0.0 in
    let is = named.0.2 in
    ap (λ o. members_at inner (each_member pr es (with_named o (pr e) ms))) named.0.1
    ∙ each_read inner pr c gave es (with_member k (pr e) ms) (over (under e (inside e c)) d) rise.1 named.1
    (still_free es k (pr e) ms (subst (λ g. AllByRecursion (λ m. slice_cmp nat_cmp g m ≡ Less) es) is rise.0) free.1)
    (with_reads inner k (pr e) (inside e c) ms d (gave e k is) (λ t. free.0 k is) h ∙ ap (λ g. Ok (over (under g (inside e c)) d)) (sym is))

-- ---- items, one after another

-- the item that is printed for e reads as e, and as what stands there
abbrev Reads : (Data → Read (List ℕ × Content)) → (List ℕ → Option Data) → Content → List ℕ → Type 0
Reads inner pr c e = (d : Data) × (x : Content) × (pr e ≡ Some d) × (inner d ≡ Ok (e, x)) × (over (here leaf_value.mark) x ≡ inside e c)

abbrev AreFresh : List (List ℕ) → List (List ℕ) → Type 0
AreFresh seen es = Every (λ e. list_any (bytes_eq e) seen ≡ false) es

still_fresh : (seen es : List (List ℕ)) (e : List ℕ) → AllByRecursion (λ m. slice_cmp nat_cmp e m ≡ Less) es → AreFresh seen es → AreFresh (e ∷ seen) es
still_fresh seen [] e above fresh = tt
still_fresh seen (g ∷ es) e above fresh = (ap₂ (λ a b. a || b) (by_test (bytes_eq g e) refl) fresh.0, still_fresh seen es e above.1 fresh.1)
  where
    by_test : (b : Bool) → bytes_eq g e ≡ b → b ≡ false
    by_test true t = absurd (below_differs e g above.0 ((bytes_eq-Decides g e).0 t))
    by_test false t = refl

all_fresh : (es : List (List ℕ)) → AreFresh [] es
all_fresh [] = tt
all_fresh (e ∷ es) = (refl, all_fresh es)

items_read : (inner : Data → Read (List ℕ × Content)) (pr : List ℕ → Option Data) (c : Content) (es : List (List ℕ)) (i : ℕ) (seen : List (List ℕ)) → AreRising es → Every (Reads inner pr c) es → AreFresh seen es
    → items_at inner i seen (each_item pr es) ≡ Ok (parts es c)
items_read inner pr c [] i seen rise reads fresh = refl
items_read inner pr c (e ∷ es) i seen rise reads fresh =
    let d = reads.0.0 in
    let x = reads.0.1 in
    let rest = λ (more : List (List ℕ)). items_at inner (suc i) more (each_item pr es) in
    ap (λ o. items_at inner i seen (with_item o (each_item pr es))) reads.0.2
    ∙ ap (λ r. one_item seen (below (shown_place i) (λ e. e) r) rest) reads.0.3
    ∙ ap (λ b. cond b (Err (DuplicateItem, [])) (joined (Ok (marked e x)) (rest (e ∷ seen)))) fresh.0
    ∙ ap (joined (Ok (marked e x))) (items_read inner pr c es (suc i) (e ∷ seen) rise.1 reads.1 (still_fresh seen es e rise.0 fresh.1))
    ∙ ap (λ y. Ok (over (under e y) (parts es c))) reads.0.4

-- ---- a value at the top

at_nothing : (s : Shape) (c : Content) → c ≡ nothing → ReadsBack s (value_at c) c
at_nothing s c none = subst (λ o. ReadsBack s o c) (sym (ap value_at none ∙ ap (option_and_then value_of) (get-nothing []))) none

at_here : (s : Shape) (c : Content) (v : leaf_value.LeafValue) (d : Data) → c ≡ here v → value_of v ≡ Some d → is_null d ≡ false → content_of s d ≡ Ok (here v) → ReadsBack s (value_at c) c
at_here s c v d is value not_null reads =
    subst (λ o. ReadsBack s o c) (sym (ap value_at is ∙ ap (option_and_then value_of) (get-here-top v) ∙ value)) (not_null, reads ∙ ap Ok (sym is))

pub leaf_is : (d : Data) → (leaf d ≡ nothing) ⊎ (leaf d ≡ here (leaf_value.plain (compact_text d)))
leaf_is null = inr refl
leaf_is (boolean b) = inr refl
leaf_is (number n) = inr refl
leaf_is (string s) = inr refl
leaf_is (array no_items) = inl refl
leaf_is (array (item d ds)) = inr refl
leaf_is (object no_members) = inl refl
leaf_is (object (member k d ms)) = inr refl

atomic_back : (s : Shape) (c : Content) → (plain_of s null ≡ Ok null → ⊥) → ((d : Data) → content_of s d ≡ below [] leaf (plain_of s d)) → IsAtomic s c → ReadsBack s (value_at c) c
atomic_back s c not_null is_leaf (inl none) = at_nothing s c none
atomic_back s c not_null is_leaf (inr (d, plain, reads, is)) = by_leaf (leaf_is d)
  where
    some : (e : Data) → plain_of s e ≡ Ok e → is_null e ≡ false
    some null h = absurd (not_null h)
    some (boolean b) h = refl
    some (number n) h = refl
    some (string t) h = refl
    some (array ds) h = refl
    some (object ms) h = refl

    by_leaf : (leaf d ≡ nothing) ⊎ (leaf d ≡ here (leaf_value.plain (compact_text d))) → ReadsBack s (value_at c) c
    by_leaf (inl none) = at_nothing s c (is ∙ none)
    by_leaf (inr there) = at_here s c (leaf_value.plain (compact_text d)) d (is ∙ there) reads (some d plain) (is_leaf d ∙ ap (below [] leaf) plain ∙ ap Ok there)

-- ---- objects and arrays of what reads

object_back : (s : Shape) (inner : List ℕ → Data → Read Content) (ms : Members) (c : Content) → ((xs : Members) → content_of s (object xs) ≡ members_at inner xs) → members_at inner ms ≡ Ok c → ReadsBack s (object_or_none ms) c
object_back s inner no_members c at is = sym (same_ok nothing c is)
object_back s inner (member k d ms) c at is = (refl, at (member k d ms) ∙ is)

array_back : (s : Shape) (inner : Data → Read (List ℕ × Content)) (ds : Items) (c : Content) → ((xs : Items) → content_of s (array xs) ≡ items_at inner 0 [] xs) → items_at inner 0 [] ds ≡ Ok c → ReadsBack s (array_or_none ds) c
array_back s inner no_items c at is = sym (same_ok nothing c is)
array_back s inner (item d ds) c at is = (refl, at (item d ds) ∙ is)

-- ---- a set's items

pub lives : (c : Content) (e : List ℕ) → list_any (bytes_eq e) (heads c) ≡ true → inside e c ≡ nothing → ⊥
lives c e h bare = true≢false (sym h ∙ heads-inside c e ∙ ap has_path bare ∙ nothing_path)

set_reads : (s : Shape) (c : Content) (e : List ℕ) → IsSetItem s e (inside e c) → Reads (set_item (plain_of s)) scalar_in c e
unfolding scalar_text
set_reads s c e (v, is, fit, there) =
    let encodable = value_element e v is in
    let d = encodable.0 in (
      d,
      nothing,
      encodable.1,
      ap (λ r. and_then r (λ x. named_item (set_item_text x) nothing)) (scalar_reads s d v fit encodable.2).1
          ∙ ap (λ o. named_item (option_map (λ w. scalar_text d) o) nothing) encodable.2 ∙ ap (λ t. Ok (t, nothing)) (ap (λ t. 118 ∷ 58 ∷ t) (sym (scalar_same d v encodable.2)) ∙ encodable.3),
      over-nothing (here leaf_value.mark) ∙ sym there,
    )

set_each : (s : Shape) (c : Content) → ((e : List ℕ) → (inside e c ≡ nothing) ⊎ IsSetItem s e (inside e c)) → (e : List ℕ) → list_any (bytes_eq e) (heads c) ≡ true → Reads (set_item (plain_of s)) scalar_in c e
set_each s c well_typed e h = by_case (well_typed e)
  where
    by_case : (inside e c ≡ nothing) ⊎ IsSetItem s e (inside e c) → Reads (set_item (plain_of s)) scalar_in c e
    by_case (inl bare) = absurd (lives c e h bare)
    by_case (inr there) = set_reads s c e there

-- ---- a map list's items

-- what is printed of each field reads back
abbrev Back : Fields → Content → Type 0
Back no_fields c = Unit {0}
Back (field f s more) c = ReadsBack s (print s (inside (name_text f) c)) (inside (name_text f) c) × Back more c

gave_of : (s : Shape) (inner : Data → Read Content) (o : Option Data) (c : Content) → ((d : Data) → inner d ≡ content_of s d) → ReadsBack s o c → Gave inner o c
gave_of s inner None c same back = back
gave_of s inner (Some d) c same back = (back.0, same d ∙ back.1)

gave_all : (all fs : Fields) (c : Content) → AllFound all fs → Back fs c → AllGave (λ k e. content_of_field all k e) c fs
gave_all all no_fields c found back = tt
gave_all all (field f s more) c found back = (gave_of s (content_of_field all f) (print s (inside (name_text f) c)) (inside (name_text f) c) found.0 back.0, gave_all all more c found.1 back.1)

module _ (names : List (List ℕ)) (all : Fields) (c : Content) (bare : (f : List ℕ) → list_any (bytes_eq f) names ≡ true → inside (name_text f) c ≡ nothing) where
  gave_beside : (fs : Fields) → AllFound all fs → Back fs c → AllGave (beside_keys names (λ k e. content_of_field all k e)) c fs
  gave_beside no_fields found back = tt
  gave_beside (field f s more) found back = (by_key (list_any (bytes_eq f) names) refl, gave_beside more found.1 back.1)
    where
      by_key : (b : Bool) → list_any (bytes_eq f) names ≡ b → Gave (beside_keys names (λ k e. content_of_field all k e) f) (print s (inside (name_text f) c)) (inside (name_text f) c)
      by_key true t =
          subst (λ o. Gave (beside_keys names (λ k e. content_of_field all k e) f) o (inside (name_text f) c)) (sym (ap (print s) (bare f t) ∙ print-nothing s)) (bare f t)
      by_key false t = gave_of s (beside_keys names (λ k e. content_of_field all k e) f) (print s (inside (name_text f) c)) (inside (name_text f) c)
          (λ d. ap (λ b. cond b (below [] (λ c. nothing) (content_of_field all f d)) (content_of_field all f d)) t ∙ found.0 d) back.0

  new_beside : (fs : Fields) (ms : Members) → AreKeys names all ms → AreNew fs c ms
  new_beside no_fields ms keys = tt
  new_beside (field f s more) ms keys = (by_key (list_any (bytes_eq f) names) refl, new_beside more ms keys)
    where
      by_key : (b : Bool) → list_any (bytes_eq f) names ≡ b → is_some (print s (inside (name_text f) c)) ≡ true → get_member f ms ≡ None
      by_key true t some = absurd (true≢false (sym some ∙ ap is_some (ap (print s) (bare f t) ∙ print-nothing s)))
      by_key false t some = keys_absent names all ms f keys t

is_all : (all : Fields) (c : Content) → ((g : List ℕ) (q : List (List ℕ)) → is_field all g ≡ false → fin.get c (g ∷ q) ≡ None) → IsAll (elements (names_of all)) c
is_all all c none g rest h = none g rest (sym (is_field-any (names_of all) g) ∙ h)

item_reads : (names : List (List ℕ)) (all : Fields) (is_atomic : Bool) (c : Content) (e : List ℕ) → AreRising names → AreRising (names_of all) → HasKeys names all e (inside e c) → Back all (inside e c)
    → Reads (keyed_item names (λ ms. content_of_item (struct_of all is_atomic) names ms)) (λ g. option_map (λ ms. object (print_item (struct_of all is_atomic) (inside g c) ms)) (printing.keys_in g)) c e
unfolding key_text
item_reads names all is_atomic c e rise fields_rise (ks, is, fit, top, none, bare) back =
    let below_e = inside e c in
    let encodable = key_element e ks is in
    let ms = encodable.0 in
    let printed = print_fields all below_e ms in
    let keys = keys_fit names all ms ks encodable.2 fit in
    let found = keys_found names all ms printed rise keys (λ n t. fields_keep all below_e ms n (bare n t)) in
    let fields_found = all_found all all fields_rise (λ k d t. refl) in
    let read_back = with_parts (elements (names_of all)) below_e nothing in
    let reads = fields_read (beside_keys names (λ k e. content_of_field all k e)) below_e all ms nothing fields_rise (gave_beside names all below_e bare all fields_found back) (new_beside names all below_e bare all ms keys)
    (keys_read names all names ms (λ n t. t) keys) in (
      object printed,
      with_parts (elements (names_of all)) below_e nothing,
      ap (option_map (λ xs. object (print_item (struct_of all is_atomic) below_e xs))) encodable.1,
      ap (λ b. cond b (and_then (members_at (beside_keys names (λ k e. content_of_field all k e)) printed) (named_item (list_item_text (object (keys_in names printed))))) (Err (KeyFieldMissing, []))) (keys_there names all ms printed keys found)
          ∙ ap (λ r. and_then r (named_item (list_item_text (object (keys_in names printed))))) reads
          ∙ ap (λ m. named_item (list_item_text (object m)) read_back) (keys_same names all ms printed rise keys found)
          ∙ ap (λ o. named_item (option_map (λ x. 107 ∷ 58 ∷ compact_text (object ms)) o) read_back) encodable.4
          ∙ ap (λ t. Ok (t, read_back)) (sym (keys_text ms ks encodable.2) ∙ encodable.3),
      marked_parts-all (elements (names_of all)) below_e top (is_all all below_e none),
    )

-- ---- the law

-- an object of named elements, each of which reads back
map_back : (s : Shape) (c : Content) → IsBelow (has_prefix 102) c → ((e : List ℕ) → ReadsBack s (print s (inside e c)) (inside e c))
    → ReadsBack (map_of s false) (object_or_none (each_member (λ e. print s (inside e c)) (heads c) no_members)) c
map_back s c well_typed back =
    object_back (map_of s false) (λ k e. content_of s e) (each_member (λ e. print s (inside e c)) (heads c) no_members) c (λ xs. refl)
    (each_read (λ k e. content_of s e) (λ e. print s (inside e c)) c (λ e k is. gave_of s (content_of s) (print s (inside e c)) (inside e c) (λ d. refl) (back e)) (heads c) no_members nothing (heads_rise c)
    (every IsName (heads c) (λ e h. by_prefix e h (has_prefix 102 e) refl)) (all_free (heads c)) refl
    ∙ ap Ok (with_parts-all (heads c) c well_typed.0 (heads-all c)))
  where
    by_prefix : (e : List ℕ) → list_any (bytes_eq e) (heads c) ≡ true → (b : Bool) → has_prefix 102 e ≡ b → IsName e
    by_prefix e h true t = prefix_name e t
    by_prefix e h false t = absurd (lives c e h (same (inside e c) nothing (λ q. get-inside e c q ∙ well_typed.1 e q t ∙ sym (get-nothing q))))

struct_back : (all : Fields) (c : Content) → AreRising (names_of all) → IsBelow (is_field all) c → Back all c → ReadsBack (struct_of all false) (object_or_none (print_fields all c no_members)) c
struct_back all c rise well_typed back =
    object_back (struct_of all false) (λ k e. content_of_field all k e) (print_fields all c no_members) c (λ xs. refl)
    (fields_read (λ k e. content_of_field all k e) c all no_members nothing rise (gave_all all all c (all_found all all rise (λ k d t. refl)) back) (all_new all c) refl
    ∙ ap Ok (with_parts-all (elements (names_of all)) c well_typed.0 (is_all all c well_typed.1)))

set_back : (s : Shape) (c : Content) → (fin.get c [] ≡ None) → ((e : List ℕ) → (inside e c ≡ nothing) ⊎ IsSetItem s e (inside e c)) → ReadsBack (list_of s set) (array_or_none (each_item scalar_in (heads c))) c
set_back s c top well_typed =
    array_back (list_of s set) (set_item (plain_of s)) (each_item scalar_in (heads c)) c (λ xs. refl)
    (items_read (set_item (plain_of s)) scalar_in c (heads c) 0 [] (heads_rise c) (every (Reads (set_item (plain_of s)) scalar_in c) (heads c) (set_each s c well_typed)) (all_fresh (heads c))
    ∙ ap Ok (parts-all (heads c) c top (heads-all c)))

list_back : (names : List (List ℕ)) (s : Shape) (c : Content) → fin.get c [] ≡ None
    → ((e : List ℕ) → list_any (bytes_eq e) (heads c) ≡ true → Reads (keyed_item names (λ ms. content_of_item s names ms)) (λ g. option_map (λ ms. object (print_item s (inside g c) ms)) (printing.keys_in g)) c e)
    → ReadsBack (list_of s (keyed names)) (print (list_of s (keyed names)) c) c
list_back names s c top each =
    let inner = keyed_item names (λ ms. content_of_item s names ms) in
    let pr = λ (g : List ℕ). option_map (λ ms. object (print_item s (inside g c) ms)) (printing.keys_in g) in
    array_back (list_of s (keyed names)) inner (each_item pr (heads c)) c (λ xs. refl)
    (items_read inner pr c (heads c) 0 [] (heads_rise c) (every (Reads inner pr c) (heads c) each) (all_fresh (heads c)) ∙ ap Ok (parts-all (heads c) c top (heads-all c)))

not_read : {X Y : Type 0} {e : Y} {x : X} → ◌≡◌ {A = Result X Y} (Err e) (Ok x) → ⊥
not_read h = true≢false (sym (ap is_ok h))

below_is : (m n : ℕ) → m < n → nat_lt m n ≡ true
below_is m n h = grind (arith, nat_tests)

within_is : (n : ℤ) → IsWithin n → as_i64 (of_integer n) ≡ Some n
within_is (pos m) lt = ap (λ b. cond b (Some (pos m)) None) (below_is m (2 ^ 63) lt)
within_is (negsuc m) lt = refl

mutual
  pub round : RoundTrip
  round text c lawful (inl none) = at_nothing text c none
  round text c lawful (inr (s, is)) = at_here text c (leaf_value.text s) (string s) is refl refl refl
  round whole c lawful (inl none) = at_nothing whole c none
  round whole c lawful (inr (n, within, is)) = at_here whole c (leaf_value.whole n) (number (of_integer n)) is refl refl (ap (λ o. below [] (λ m. here (leaf_value.whole m)) (some_or WrongType o)) (within_is n within))
  round truth c lawful (inl none) = at_nothing truth c none
  round truth c lawful (inr (b, is)) = at_here truth c (leaf_value.truth b) (boolean b) is refl refl refl
  round (struct_of all true) c lawful well_typed = atomic_back (struct_of all true) c not_read (λ d. refl) well_typed
  round (struct_of all false) c lawful well_typed =
      struct_back all c (ascend_rising (names_of all) (first_so (ascend (names_of all)) (are_well_formed all) lawful)) well_typed.0 (round_fields all c (second_so (ascend (names_of all)) (are_well_formed all) lawful) well_typed.1)
  round (map_of s true) c lawful well_typed = atomic_back (map_of s true) c not_read (λ d. refl) well_typed
  round (map_of s false) c lawful well_typed = map_back s c well_typed.0 (λ e. round s (inside e c) lawful (well_typed.1 e))
  round (list_of s atomic) c lawful well_typed = atomic_back (list_of s atomic) c not_read (λ d. refl) well_typed
  round (list_of s set) c lawful well_typed = set_back s c well_typed.0 well_typed.1
  round (list_of s (keyed names)) c lawful well_typed = list_back names s c well_typed.0 (λ e h. round_item names s c lawful e h (well_typed.1 e))

  round_item : (names : List (List ℕ)) (s : Shape) (c : Content) → is_well_formed (list_of s (keyed names)) ≡ true → (e : List ℕ) → list_any (bytes_eq e) (heads c) ≡ true
      → (inside e c ≡ nothing) ⊎ IsItem names s e (inside e c) → Reads (keyed_item names (λ ms. content_of_item s names ms)) (λ g. option_map (λ ms. object (print_item s (inside g c) ms)) (printing.keys_in g)) c e
  round_item names s c lawful e h (inl bare) = absurd (lives c e h bare)
  round_item names text c lawful e h (inr well_typed) = absurd well_typed
  round_item names whole c lawful e h (inr well_typed) = absurd well_typed
  round_item names truth c lawful e h (inr well_typed) = absurd well_typed
  round_item names (map_of s b) c lawful e h (inr well_typed) = absurd well_typed
  round_item names (list_of s kind) c lawful e h (inr well_typed) = absurd well_typed
  round_item names (struct_of all b) c lawful e h (inr well_typed) =
      let of_list = first_so (item_is_lawful (keyed names) (struct_of all b)) (is_well_formed (struct_of all b)) lawful in
      let of_struct = second_so (item_is_lawful (keyed names) (struct_of all b)) (is_well_formed (struct_of all b)) lawful in
      let names_rise = second_so (is_some_name names) (ascend names) (first_so (is_some_name names && ascend names) (has_keys names (struct_of all b)) of_list) in
      item_reads names all b c e (ascend_rising names names_rise) (ascend_rising (names_of all) (first_so (ascend (names_of all)) (are_well_formed all) of_struct)) well_typed.0
      (round_fields all (inside e c) (second_so (ascend (names_of all)) (are_well_formed all) of_struct) well_typed.1)

  round_fields : (fs : Fields) (c : Content) → are_well_formed fs ≡ true → AreWellTyped fs c → Back fs c
  round_fields no_fields c lawful well_typed = tt
  round_fields (field f s more) c lawful well_typed =
      (round s (inside (name_text f) c) (first_so (is_well_formed s) (are_well_formed more) lawful) well_typed.0, round_fields more c (second_so (is_well_formed s) (are_well_formed more) lawful) well_typed.1)
