-- The key fields of an item, among its members.
use Rattle.std.proofs.Common.{◌≡◌, ℕ, Bool, true, false, cond, ◌&&◌, ◌||◌, not, is_eq, nat_cmp, List, [], ◌∷◌, ◌++◌, Option, Some, None, is_some, Ok, Err, Ordering, Less, Equal, Greater, refl, sym, ap, ap₂, ◌∙◌, true≢false, subst}
use Rattle.std.specs.Cmp.{tied_itself, first_so, second_so}
use Rattle.std.specs.Cmp.Lexicographic.{slice_cmp}
use Rattle.std.specs.List.{AllByRecursion, list_any}
use Rattle.std.specs.Ordering.{match_ordering, is_lt, ordering_reverse}
use Rattle.std.specs.Str.{bytes_eq}
use Rattle.std.proofs.lemmas.Cmp.{nat_list_cmp_total}
use Rattle.std.proofs.lemmas.Map.Text.{is_eq-slice_cmp}
use Rattle.std.proofs.lemmas.Slice.Eq.{bytes_eq-Decides}
use Rattle.serde_json.specs.Data.{Data, string, Members, no_members, member, put}
use Rattle.serde_json.specs.Find.{get_member}
use Rattle.serde_json.specs.Written.{compact_text, members_text, comma_if}
use Rattle.fieldpath.specs.Elements.{Scalar, KeyFields, scalar_data, scalar_of, key_members, key_text, name_text, one_more, keys_of_members}
use Rattle.pathmap.specs.Contents.{Content, nothing}
use Rattle.pathmap.specs.Insides.{inside}
use Rattle.pathmap.proofs.Contents.{nothing-over}
use Rattle.pathmap.proofs.Levels.{under-nothing}
use Rattle.fieldpath.specs.Scalars.{ascend, ascend_from}
use Rattle.schema.specs.Place.{fits_some, fit_keys}
use Rattle.schema.specs.Shape.{Shape, Fields, no_fields, field, shape_at}
use Rattle.typed.specs.declared.fault.Cause.TheVariants.{UnknownField}
use Rattle.typed.specs.Faults.{below}
use Rattle.typed.specs.Printing.{with_member, print, print_fields}
use Rattle.typed.specs.Reading.{is_null, is_there, have_keys, put_some, keys_in, at_field, joined, members_at, beside_keys, content_of, content_of_field}
use Rattle.typed.proofs.ElementTexts.{scalar_same, scalar_reads}
use Rattle.pathmap.proofs.Heads.{all_above, itself}
use Rattle.typed.proofs.Prints.{print-nothing}
use Rattle.typed.proofs.Putting.{with_other}

-- ---- rising names

or_true : (b : Bool) → (b || true) ≡ true
or_true true = refl
or_true false = refl

abbrev pub AreRising : List (List ℕ) → Type 0
AreRising [] = Unit {0}
AreRising (n ∷ ns) = AllByRecursion (λ m. slice_cmp nat_cmp n m ≡ Less) ns × AreRising ns

less : (o : Ordering) → is_lt o ≡ true → o ≡ Less
less Less h = refl
less Equal h = absurd (true≢false (sym h))
less Greater h = absurd (true≢false (sym h))

rising_from : (n : List ℕ) (ns : List (List ℕ)) → ascend_from n ns ≡ true → AllByRecursion (λ m. slice_cmp nat_cmp n m ≡ Less) ns × AreRising ns
rising_from n [] h = (tt, tt)
rising_from n (m ∷ ms) h =
    let first = less (slice_cmp nat_cmp n m) (first_so (is_lt (slice_cmp nat_cmp n m)) (ascend_from m ms) h) in
    let rest = rising_from m ms (second_so (is_lt (slice_cmp nat_cmp n m)) (ascend_from m ms) h) in ((first, all_above n m ms first rest.0), rest)

pub ascend_rising : (ns : List (List ℕ)) → ascend ns ≡ true → AreRising ns
ascend_rising [] h = tt
ascend_rising (n ∷ ns) h = rising_from n ns h

-- ---- members that are key fields

-- the members are just the names, in their order, each a scalar of its field's type
abbrev pub AreKeys : List (List ℕ) → Fields → Members → Type 0
AreKeys [] all no_members = Unit {0}
AreKeys [] all (member k d ms) = ⊥
AreKeys (n ∷ ns) all no_members = ⊥
AreKeys (n ∷ ns) all (member k d ms) = (n ≡ k) × (is_null d ≡ false) × ((s : Shape) × (x : Content) × (shape_at n all ≡ Some s) × (content_of s d ≡ Ok x)) × AreKeys ns all ms

-- the key fields and the members that they are read of
abbrev Spells : Members → KeyFields → Type 0
Spells no_members [] = Unit {0}
Spells no_members (k ∷ ks) = ⊥
Spells (member k d ms) [] = ⊥
Spells (member k d ms) (l ∷ ks) = (k ≡ l.0) × (scalar_of d ≡ Some l.1) × Spells ms ks

abbrev list_or : KeyFields → Option KeyFields → KeyFields
list_or ks None = ks
list_or ks (Some ls) = ls

spells : (ms : Members) (ks : KeyFields) → keys_of_members ms ≡ Some ks → Spells ms ks
spells no_members ks h = subst (Spells no_members) (ap (list_or ks) h) tt
spells (member k d ms) ks h = by_first (scalar_of d) refl (keys_of_members ms) (spells ms) h
  where
    by_first : (o : Option Scalar) → scalar_of d ≡ o → (r : Option KeyFields) → ((ls : KeyFields) → r ≡ Some ls → Spells ms ls) → one_more k o r ≡ Some ks → Spells (member k d ms) ks
    by_first None is r rest h = absurd (true≢false (sym (ap is_some h)))
    by_first (Some v) is None rest h = absurd (true≢false (sym (ap is_some h)))
    by_first (Some v) is (Some ls) rest h = subst (Spells (member k d ms)) (ap (list_or ks) h) (refl, is, rest ls refl)

-- their text is that of the members
same_text : (ms : Members) (ks : KeyFields) → Spells ms ks → (later : Bool) → members_text later (key_members ks) ≡ members_text later ms
same_text no_members [] h later = refl
same_text no_members (k ∷ ks) h later = absurd h
same_text (member k d ms) [] h later = absurd h
same_text (member k d ms) (l ∷ ks) h later =
    ap (λ n. comma_if later ++ (compact_text (string n) ++ 58 ∷ (compact_text (scalar_data l.1) ++ members_text true (key_members ks)))) (sym h.0)
    ∙ ap₂ (λ a b. comma_if later ++ (compact_text (string k) ++ 58 ∷ (a ++ b))) (scalar_same d l.1 h.1) (same_text ms ks h.2 true)

pub keys_text : (ms : Members) (ks : KeyFields) → keys_of_members ms ≡ Some ks → key_text (key_members ks) ≡ key_text ms
unfolding key_text
keys_text ms ks h = ap (λ s. 107 ∷ 58 ∷ 123 ∷ s) (same_text ms ks (spells ms ks h) false)

fit_one : (o : Option Shape) (d : Data) (v : Scalar) → fits_some o v ≡ true → scalar_of d ≡ Some v → (is_null d ≡ false) × ((s : Shape) × (x : Content) × (o ≡ Some s) × (content_of s d ≡ Ok x))
fit_one None d v fit is = absurd (true≢false (sym fit))
fit_one (Some s) d v fit is = let reads = scalar_reads s d v fit is in (reads.0, (s, reads.2.0, refl, reads.2.1))

are_keys : (names : List (List ℕ)) (all : Fields) (ms : Members) (ks : KeyFields) → Spells ms ks → fit_keys names all ks ≡ true → AreKeys names all ms
are_keys [] all no_members [] h fit = tt
are_keys [] all no_members (k ∷ ks) h fit = absurd h
are_keys [] all (member k d ms) [] h fit = absurd h
are_keys [] all (member k d ms) (l ∷ ks) h fit = absurd (true≢false (sym fit))
are_keys (n ∷ ns) all no_members [] h fit = absurd (true≢false (sym fit))
are_keys (n ∷ ns) all no_members (k ∷ ks) h fit = absurd h
are_keys (n ∷ ns) all (member k d ms) [] h fit = absurd h
are_keys (n ∷ ns) all (member k d ms) (l ∷ ks) h fit =
    let both = first_so (bytes_eq n l.0 && fits_some (shape_at n all) l.1) (fit_keys ns all ks) fit in
    let named = first_so (bytes_eq n l.0) (fits_some (shape_at n all) l.1) both in
    let one = fit_one (shape_at n all) d l.1 (second_so (bytes_eq n l.0) (fits_some (shape_at n all) l.1) both) h.1 in
    ((bytes_eq-Decides n l.0).0 named ∙ sym h.0, one.0, one.1, are_keys ns all ms ks h.2 (second_so (bytes_eq n l.0 && fits_some (shape_at n all) l.1) (fit_keys ns all ks) fit))

pub keys_fit : (names : List (List ℕ)) (all : Fields) (ms : Members) (ks : KeyFields) → keys_of_members ms ≡ Some ks → fit_keys names all ks ≡ true → AreKeys names all ms
keys_fit names all ms ks is fit = are_keys names all ms ks (spells ms ks is) fit

-- ---- what is found at their names

-- each of the members is what the others have at its name
abbrev AreFound : List (List ℕ) → Members → Members → Type 0
AreFound [] ms others = Unit {0}
AreFound (n ∷ ns) no_members others = ⊥
AreFound (n ∷ ns) (member k d ms) others = (get_member n others ≡ Some d) × AreFound ns ms others

skip : (n k : List ℕ) (d : Data) (ms : Members) → slice_cmp nat_cmp k n ≡ Less → get_member n (member k d ms) ≡ get_member n ms
skip n k d ms h = ap (λ o. match_ordering o (get_member n ms) (Some d) (get_member n ms)) (nat_list_cmp_total.antisymm n k ∙ ap ordering_reverse h)

found_later : (ns : List (List ℕ)) (ms others : Members) (k : List ℕ) (d : Data) → AllByRecursion (λ m. slice_cmp nat_cmp k m ≡ Less) ns → AreFound ns ms others → AreFound ns ms (member k d others)
found_later [] ms others k d above h = tt
found_later (n ∷ ns) no_members others k d above h = absurd h
found_later (n ∷ ns) (member l e ms) others k d above h = (skip n k d others above.0 ∙ h.0, found_later ns ms others k d above.1 h.1)

are_found : (ns : List (List ℕ)) (all : Fields) (ms : Members) → AreRising ns → AreKeys ns all ms → AreFound ns ms ms
are_found [] all ms rise keys = tt
are_found (n ∷ ns) all no_members rise keys = absurd keys
are_found (n ∷ ns) all (member k d ms) rise keys = (
  ap (λ o. match_ordering o (get_member n ms) (Some d) (get_member n ms)) (ap (slice_cmp nat_cmp n) (sym keys.0) ∙ tied_itself nat_list_cmp_total n),
  found_later ns ms ms k d (subst (λ l. AllByRecursion (λ m. slice_cmp nat_cmp l m ≡ Less) ns) keys.0 rise.0) (are_found ns all ms rise.1 keys.3),
)

found_in : (ns : List (List ℕ)) (ms others more : Members) → ((n : List ℕ) → list_any (bytes_eq n) ns ≡ true → get_member n more ≡ get_member n others) → AreFound ns ms others → AreFound ns ms more
found_in [] ms others more same h = tt
found_in (n ∷ ns) no_members others more same h = absurd h
found_in (n ∷ ns) (member k d ms) others more same h = (
  same n (ap (λ b. b || list_any (bytes_eq n) ns) (itself n)) ∙ h.0,
  found_in ns ms others more (λ m t. same m (ap (λ b. bytes_eq m n || b) t ∙ or_true (bytes_eq m n))) h.1,
)

there : (d : Data) (o : Option Data) → o ≡ Some d → is_null d ≡ false → is_there o ≡ true
there d o is h = ap is_there is ∙ ap not h

pub keys_there : (ns : List (List ℕ)) (all : Fields) (ms others : Members) → AreKeys ns all ms → AreFound ns ms others → have_keys ns others ≡ true
keys_there [] all ms others keys found = refl
keys_there (n ∷ ns) all no_members others keys found = absurd keys
keys_there (n ∷ ns) all (member k d ms) others keys found = ap₂ (λ a b. a && b) (there d (get_member n others) found.0 keys.1) (keys_there ns all ms others keys.3 found.1)

put_first : (n : List ℕ) (d : Data) (ns : List (List ℕ)) (all : Fields) (ms : Members) → AllByRecursion (λ m. slice_cmp nat_cmp n m ≡ Less) ns → AreKeys ns all ms → put n d ms ≡ member n d ms
put_first n d [] all no_members above keys = refl
put_first n d [] all (member k e ms) above keys = absurd keys
put_first n d (m ∷ ns) all no_members above keys = absurd keys
put_first n d (m ∷ ns) all (member k e ms) above keys =
    ap (λ o. match_ordering o (member n d (member k e ms)) (member k d ms) (member k e (put n d ms))) (ap (slice_cmp nat_cmp n) (sym keys.0) ∙ above.0)

pub keys_same : (ns : List (List ℕ)) (all : Fields) (ms others : Members) → AreRising ns → AreKeys ns all ms → AreFound ns ms others → keys_in ns others ≡ ms
keys_same [] all no_members others rise keys found = refl
keys_same [] all (member k d ms) others rise keys found = absurd keys
keys_same (n ∷ ns) all no_members others rise keys found = absurd keys
keys_same (n ∷ ns) all (member k d ms) others rise keys found =
    ap₂ (put_some n) found.0 (keys_same ns all ms others rise.1 keys.3 found.1) ∙ put_first n d ns all ms rise.0 keys.3 ∙ ap (λ l. member l d ms) keys.0

pub keys_found : (ns : List (List ℕ)) (all : Fields) (ms others : Members) → AreRising ns → AreKeys ns all ms → ((n : List ℕ) → list_any (bytes_eq n) ns ≡ true → get_member n others ≡ get_member n ms) → AreFound ns ms others
keys_found ns all ms others rise keys same = found_in ns ms ms others same (are_found ns all ms rise keys)

-- no other name is there
pub keys_absent : (ns : List (List ℕ)) (all : Fields) (ms : Members) (f : List ℕ) → AreKeys ns all ms → list_any (bytes_eq f) ns ≡ false → get_member f ms ≡ None
keys_absent [] all no_members f keys h = refl
keys_absent [] all (member k d ms) f keys h = absurd keys
keys_absent (n ∷ ns) all no_members f keys h = absurd keys
keys_absent (n ∷ ns) all (member k d ms) f keys h =
    let apart = neither (bytes_eq f n) (list_any (bytes_eq f) ns) h in
    miss (slice_cmp nat_cmp f k) (get_member f ms) d (is_eq-slice_cmp f k ∙ ap (bytes_eq f) (sym keys.0) ∙ apart.0) ∙ keys_absent ns all ms f keys.3 apart.1
  where
    neither : (a b : Bool) → (a || b) ≡ false → (a ≡ false) × (b ≡ false)
    neither true b h = absurd (true≢false h)
    neither false b h = (refl, h)

    miss : (o : Ordering) (r : Option Data) (e : Data) → is_eq o ≡ false → match_ordering o r (Some e) r ≡ r
    miss Less r e h = refl
    miss Equal r e h = absurd (true≢false h)
    miss Greater r e h = refl

-- ---- how they read

pub field-at : (all : Fields) (k : List ℕ) (d : Data) (s : Shape) → shape_at k all ≡ Some s → content_of_field all k d ≡ content_of s d
field-at no_fields k d s h = absurd (true≢false (sym (ap is_some h)))
field-at (field known t more) k d s h = by_test (bytes_eq known k) h (field-at more k d s)
  where
    shape_or : Option Shape → Shape
    shape_or None = t
    shape_or (Some u) = u

    by_test : (b : Bool) → cond b (Some t) (shape_at k more) ≡ Some s → (shape_at k more ≡ Some s → content_of_field more k d ≡ content_of s d) → cond b (content_of t d) (content_of_field more k d) ≡ content_of s d
    by_test true h later = ap (λ o. content_of (shape_or o) d) h
    by_test false h later = later h

pub no_field-at : (all : Fields) (k : List ℕ) (d : Data) → shape_at k all ≡ None → content_of_field all k d ≡ Err (UnknownField, [])
no_field-at no_fields k d h = refl
no_field-at (field known t more) k d h = by_test (bytes_eq known k) h (no_field-at more k d)
  where
    by_test : (b : Bool) → cond b (Some t) (shape_at k more) ≡ None → (shape_at k more ≡ None → content_of_field more k d ≡ Err (UnknownField, []))
        → cond b (content_of t d) (content_of_field more k d) ≡ Err (UnknownField, [])
    by_test true h later = absurd (true≢false (ap is_some h))
    by_test false h later = later h

pub keys_read : (names : List (List ℕ)) (all : Fields) (ns : List (List ℕ)) (ms : Members) → ((n : List ℕ) → list_any (bytes_eq n) ns ≡ true → list_any (bytes_eq n) names ≡ true) → AreKeys ns all ms
    → members_at (beside_keys names (λ k e. content_of_field all k e)) ms ≡ Ok nothing
keys_read names all [] no_members among keys = refl
keys_read names all [] (member k d ms) among keys = absurd keys
keys_read names all (n ∷ ns) no_members among keys = absurd keys
keys_read names all (n ∷ ns) (member k d ms) among keys =
    let found = keys.2 in
    let reads : content_of_field all k d ≡ Ok found.1 = field-at all k d found.0 (ap (λ l. shape_at l all) (sym keys.0) ∙ found.2) ∙ found.3 in
    let named : list_any (bytes_eq k) names ≡ true = ap (λ l. list_any (bytes_eq l) names) (sym keys.0) ∙ among n (ap (λ b. b || list_any (bytes_eq n) ns) (itself n)) in
    ap₂ joined (ap (λ b. cond b (Ok nothing) (at_field k (beside_keys names (λ k e. content_of_field all k e) k d))) keys.1
    ∙ ap (at_field k) (ap (λ b. cond b (below [] (λ c. nothing) (content_of_field all k d)) (content_of_field all k d)) named ∙ ap (below [] (λ c. nothing)) reads)
    ∙ ap Ok (under-nothing (name_text k)))
    (keys_read names all ns ms (λ m t. among m (ap (λ b. bytes_eq m n || b) t ∙ or_true (bytes_eq m n))) keys.3)
    ∙ ap Ok (nothing-over nothing)

-- fields below which nothing stands leave what is there
pub fields_keep : (fs : Fields) (c : Content) (ms : Members) (n : List ℕ) → inside (name_text n) c ≡ nothing → get_member n (print_fields fs c ms) ≡ get_member n ms
fields_keep no_fields c ms n bare = refl
fields_keep (field f s more) c ms n bare = fields_keep more c (with_member f (print s (inside (name_text f) c)) ms) n bare ∙ by_test (bytes_eq n f) refl
  where
    by_test : (b : Bool) → bytes_eq n f ≡ b → get_member n (with_member f (print s (inside (name_text f) c)) ms) ≡ get_member n ms
    by_test true t =
        ap (λ o. get_member n (with_member f o ms)) (ap (λ l. print s (inside (name_text l) c)) (sym ((bytes_eq-Decides n f).0 t)) ∙ ap (print s) bare ∙ print-nothing s)
    by_test false t = with_other n f (print s (inside (name_text f) c)) ms (λ same. true≢false (sym ((bytes_eq-Decides n f).1 same) ∙ t))
