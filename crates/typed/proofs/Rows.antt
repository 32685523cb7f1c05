-- Members that are put in the order of their names stand one after another.
use Rattle.std.proofs.Common.{◌≡◌, ℕ, Bool, true, false, cond, drop, ◌⊎◌, inl, inr, nat_cmp, List, [], ◌∷◌, Option, Some, None, Less, refl, sym, ap, ◌∙◌, subst, true≢false}
use Rattle.std.specs.Cmp.Lexicographic.{slice_cmp}
use Rattle.std.specs.FinMap as fin
use Rattle.std.specs.List.{AllByRecursion}
use Rattle.std.specs.Ordering.{match_ordering}
use Rattle.std.proofs.lemmas.Bool.{and_parts}
use Rattle.serde_json.specs.Data.{Data, Members, no_members, member, put}
use Rattle.serde_json.specs.Written.{compact_text}
use Rattle.fieldpath.specs.Elements.{field_name, has_prefix, name_text}
use Rattle.fieldpath.specs.Scalars.{ascend}
use Rattle.pathmap.specs.Contents.{LeafValue, Content, here, nothing}
use Rattle.pathmap.specs.Contents as leaf_value
use Rattle.pathmap.specs.Insides.{inside}
use Rattle.pathmap.proofs.Contents.{get-nothing}
use Rattle.pathmap.proofs.Levels.{get-here-top}
use Rattle.schema.proofs.Members.{put_turned}
use Rattle.schema.specs.Lawful.{names_of, is_well_formed, are_well_formed}
use Rattle.schema.specs.Shape.{atomic, set, keyed, Shape, text, whole, truth, Fields, no_fields, field, map_of, struct_of, list_of}
use Rattle.typed.specs.WellTyped.{IsAtomic, IsWellTyped, AreWellTyped, ReadsBack}
use Rattle.typed.specs.Printing.{each_member, print, print_fields, value_at, with_member, with_named}
use Rattle.typed.specs.Reading.{leaf}
use Rattle.typed.specs.Between.{then_fields, then_member}
use Rattle.typed.specs.Rows.{AllFit, EachFits, Fits, HasNoFloat, IsCompact, IsThere, IsWritable, row_of_fields, then_named}
use Rattle.typed.proofs.Floats.{content_clean}
use Rattle.typed.proofs.KeyFields.{AreRising, ascend_rising}
use Rattle.typed.proofs.Putting.{below_differs}
use Rattle.typed.proofs.RoundTrip.{leaf_is, prefix_name, round}

-- every name is above k
abbrev pub AllAbove : List ℕ → List (List ℕ) → Type 0
AllAbove k ns = AllByRecursion (λ n. slice_cmp nat_cmp k n ≡ Less) ns

abbrev pub IsPrefix : List ℕ → Members → Type 0
IsPrefix k no_members = Unit {0}
IsPrefix k (member l e ms) = slice_cmp nat_cmp k l ≡ Less

pub put_prefix : (k : List ℕ) (d : Data) (ms : Members) → IsPrefix k ms → put k d ms ≡ member k d ms
put_prefix k d no_members prefix = refl
put_prefix k d (member l e ms) prefix = ap (λ o. match_ordering o (member k d (member l e ms)) (member l d ms) (member l e (put k d ms))) prefix

pub then_prefix : (k l : List ℕ) (o : Option Data) (ms : Members) → slice_cmp nat_cmp k l ≡ Less → IsPrefix k ms → IsPrefix k (then_member l o ms)
then_prefix k l None ms less prefix = prefix
then_prefix k l (Some d) ms less prefix = less

put_with : (k l : List ℕ) (d : Data) (o : Option Data) (ms : Members) → slice_cmp nat_cmp k l ≡ Less → with_member l o (put k d ms) ≡ put k d (with_member l o ms)
put_with k l d None ms less = refl
put_with k l d (Some e) ms less = sym (put_turned k l d e ms (λ same. absurd (below_differs k l less (sym same))))

-- ---- fields

fields_put : (fs : Fields) (c : Content) (k : List ℕ) (d : Data) (ms : Members) → AllAbove k (names_of fs) → print_fields fs c (put k d ms) ≡ put k d (print_fields fs c ms)
fields_put no_fields c k d ms above = refl
fields_put (field f s more) c k d ms above =
    ap (print_fields more c) (put_with k f d (print s (inside (name_text f) c)) ms above.0) ∙ fields_put more c k d (with_member f (print s (inside (name_text f) c)) ms) above.1

pub fields_prefix : (fs : Fields) (c : Content) (k : List ℕ) (rest : Members) → AllAbove k (names_of fs) → IsPrefix k rest → IsPrefix k (then_fields fs c rest)
fields_prefix no_fields c k rest above prefix = prefix
fields_prefix (field f s more) c k rest above prefix = then_prefix k f (print s (inside (name_text f) c)) (then_fields more c rest) above.0 (fields_prefix more c k rest above.1 prefix)

pub fields_row : (fs : Fields) (c : Content) → AreRising (names_of fs) → print_fields fs c no_members ≡ row_of_fields fs c
fields_row no_fields c rise = refl
fields_row (field f s more) c rise = by_printed (print s (inside (name_text f) c)) (fields_row more c rise.1)
  where
    by_printed : (o : Option Data) → print_fields more c no_members ≡ row_of_fields more c → print_fields more c (with_member f o no_members) ≡ then_member f o (row_of_fields more c)
    by_printed None later = later
    by_printed (Some d) later = fields_put more c f d no_members rise.0 ∙ ap (put f d) later ∙ put_prefix f d (row_of_fields more c) (fields_prefix more c f no_members rise.0 tt)

-- ---- elements

some_name : (k l : List ℕ) → ◌≡◌ {A = Option (List ℕ)} (Some k) (Some l) → k ≡ l
some_name k l h = cc

none_some : (k : List ℕ) → ◌≡◌ {A = Option (List ℕ)} None (Some k) → ⊥
none_some k h = cc

name_of : (e k : List ℕ) → field_name e ≡ Some k → e ≡ name_text k
name_of e k is = by_test (has_prefix 102 e) refl
  where
    by_test : (b : Bool) → has_prefix 102 e ≡ b → e ≡ name_text k
    by_test true h = let n = prefix_name e h in n.2 ∙ ap name_text (some_name n.0 k (sym n.1 ∙ is))
    by_test false h = absurd (none_some k (sym (ap (λ b. cond b (Some (drop 2 e)) None) h) ∙ is))

names_less : (k l : List ℕ) → slice_cmp nat_cmp (name_text k) (name_text l) ≡ Less → slice_cmp nat_cmp k l ≡ Less
unfolding name_text
names_less k l less = less

abbrev pub row_each : (List ℕ → Option Data) → List (List ℕ) → Members
row_each inner [] = no_members
row_each inner (e ∷ es) = then_named (field_name e) (inner e) (row_each inner es)

module _ (inner : List ℕ → Option Data) where
  put_named : (k e : List ℕ) (d : Data) (o : Option Data) (ms : Members) → slice_cmp nat_cmp (name_text k) e ≡ Less → (n : Option (List ℕ)) → field_name e ≡ n → with_named n o (put k d ms) ≡ put k d (with_named n o ms)
  put_named k e d o ms less None is = refl
  put_named k e d o ms less (Some l) is = put_with k l d o ms (names_less k l (ap (slice_cmp nat_cmp (name_text k)) (sym (name_of e l is)) ∙ less))

  each_put : (es : List (List ℕ)) (k : List ℕ) (d : Data) (ms : Members) → AllAbove (name_text k) es → each_member inner es (put k d ms) ≡ put k d (each_member inner es ms)
  each_put [] k d ms above = refl
  each_put (e ∷ es) k d ms above = ap (each_member inner es) (put_named k e d (inner e) ms above.0 (field_name e) refl) ∙ each_put es k d (with_named (field_name e) (inner e) ms) above.1

  named_prefix : (k e : List ℕ) (o : Option Data) (ms : Members) → slice_cmp nat_cmp (name_text k) e ≡ Less → IsPrefix k ms → (n : Option (List ℕ)) → field_name e ≡ n → IsPrefix k (then_named n o ms)
  named_prefix k e o ms less prefix None is = prefix
  named_prefix k e o ms less prefix (Some l) is = then_prefix k l o ms (names_less k l (ap (slice_cmp nat_cmp (name_text k)) (sym (name_of e l is)) ∙ less)) prefix

  each_prefix : (es : List (List ℕ)) (k : List ℕ) → AllAbove (name_text k) es → IsPrefix k (row_each inner es)
  each_prefix [] k above = tt
  each_prefix (e ∷ es) k above = named_prefix k e (inner e) (row_each inner es) above.0 (each_prefix es k above.1) (field_name e) refl

  pub each_row : (es : List (List ℕ)) → AreRising es → each_member inner es no_members ≡ row_each inner es
  each_row [] rise = refl
  each_row (e ∷ es) rise = by_name (field_name e) refl (inner e) (each_row es rise.1)
    where
      by_name : (n : Option (List ℕ)) → field_name e ≡ n → (o : Option Data) → each_member inner es no_members ≡ row_each inner es → each_member inner es (with_named n o no_members) ≡ then_named n o (row_each inner es)
      by_name None is o later = later
      by_name (Some k) is None later = later
      by_name (Some k) is (Some d) later =
          let above = subst (λ g. AllAbove g es) (name_of e k is) rise.0 in
          each_put es k d no_members above ∙ ap (put k d) later ∙ put_prefix k d (row_each inner es) (each_prefix es k above)

-- ---- what fits

pub fits_clean : (s : Shape) (c : Content) → Fits s c → HasNoFloat (print s c)
fits_clean s c fits = by_printed (print s c) refl
  where
    by_printed : (o : Option Data) → print s c ≡ o → HasNoFloat o
    by_printed None is = tt
    by_printed (Some d) is = content_clean s d c (subst (λ o. ReadsBack s o c) is (round s c fits.0 fits.1)).1

-- an atomic value at the top is kept as compact text
none_compact : (c : Content) → fin.get c [] ≡ None → IsCompact (fin.get c [])
none_compact c top = subst IsCompact (sym top) tt

here_compact : (c : Content) (v : LeafValue) → c ≡ here v → IsCompact (Some v) → IsCompact (fin.get c [])
here_compact c v is compact = subst IsCompact (sym (ap (λ d. fin.get d []) is ∙ get-here-top v)) compact

empty_compact : (c : Content) → c ≡ nothing → IsCompact (fin.get c [])
empty_compact c none = none_compact c (ap (λ d. fin.get d []) none ∙ get-nothing [])

atomic_compact : (s : Shape) (c : Content) → IsAtomic s c → IsCompact (fin.get c [])
atomic_compact s c (inl none) = empty_compact c none
atomic_compact s c (inr (d, plain, reads, is)) = by_leaf (leaf_is d)
  where
    by_leaf : (leaf d ≡ nothing) ⊎ (leaf d ≡ here (leaf_value.plain (compact_text d))) → IsCompact (fin.get c [])
    by_leaf (inl none) = empty_compact c (is ∙ none)
    by_leaf (inr there) = here_compact c (leaf_value.plain (compact_text d)) (is ∙ there) (d, reads, refl)

top_compact : (s : Shape) (c : Content) → IsWellTyped s c → IsCompact (fin.get c [])
top_compact text c (inl none) = empty_compact c none
top_compact text c (inr (s, is)) = here_compact c (leaf_value.text s) is tt
top_compact whole c (inl none) = empty_compact c none
top_compact whole c (inr (n, within, is)) = here_compact c (leaf_value.whole n) is tt
top_compact truth c (inl none) = empty_compact c none
top_compact truth c (inr (b, is)) = here_compact c (leaf_value.truth b) is tt
top_compact (struct_of all true) c well_typed = atomic_compact (struct_of all true) c well_typed
top_compact (struct_of all false) c well_typed = none_compact c well_typed.0.0
top_compact (map_of s true) c well_typed = atomic_compact (map_of s true) c well_typed
top_compact (map_of s false) c well_typed = none_compact c well_typed.0.0
top_compact (list_of s atomic) c well_typed = atomic_compact (list_of s atomic) c well_typed
top_compact (list_of s set) c well_typed = none_compact c well_typed.0
top_compact (list_of s (keyed names)) c well_typed = none_compact c well_typed.0

pub fits_writable : (s : Shape) (c : Content) → value_at c ≡ print s c → Fits s c → IsWritable (fin.get c [])
fits_writable s c top fits = (subst HasNoFloat (sym top) (fits_clean s c fits), top_compact s c fits.1)

pub there : (s : Shape) (c : Content) → IsThere s c → (d : Data) × (print s c ≡ Some d)
there s c is_there = by_printed (print s c) refl
  where
    by_printed : (o : Option Data) → print s c ≡ o → (d : Data) × (print s c ≡ Some d)
    by_printed None is = absurd (is_there.1 (subst (λ o. ReadsBack s o c) is (round s c is_there.0.0 is_there.0.1)))
    by_printed (Some d) is = (d, is)

pub all_fit : (fs : Fields) (c : Content) → are_well_formed fs ≡ true → AreWellTyped fs c → AllFit fs c
all_fit no_fields c formed well_typed = tt
all_fit (field f s more) c formed well_typed = let parts = and_parts (is_well_formed s) (are_well_formed more) formed in ((parts.0, well_typed.0), all_fit more c parts.1 well_typed.1)

pub struct_fits : (all : Fields) (b : Bool) (c : Content) → b ≡ false → Fits (struct_of all b) c → AllFit all c
struct_fits all true c is fits = absurd (true≢false is)
struct_fits all false c is fits = all_fit all c (and_parts (ascend (names_of all)) (are_well_formed all) fits.0).1 fits.1.1

pub struct_row : (all : Fields) (c : Content) → is_well_formed (struct_of all false) ≡ true → print_fields all c no_members ≡ row_of_fields all c
struct_row all c formed = fields_row all c (ascend_rising (names_of all) (and_parts (ascend (names_of all)) (are_well_formed all) formed).0)

pub values_fit : (s : Shape) (b : Bool) (c : Content) → b ≡ false → Fits (map_of s b) c → EachFits s c
values_fit s true c is fits = absurd (true≢false is)
values_fit s false c is fits = λ e. (fits.0, fits.1.1 e)
