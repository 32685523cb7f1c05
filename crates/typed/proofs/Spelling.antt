-- What is printed of a content is a value that its compact text spells.
use Rattle.std.proofs.Common.{◌≡◌, ◌≤◌, ◌<◌, ◌^◌, ℕ, ℤ, pos, negsuc, Bool, true, false, cond, nat_le, ◌⊎◌, inl, inr, List, [], ◌∷◌, Option, Some, None, is_some, option_map, refl, sym, ap, ◌∙◌, true≢false, subst, arith}
use Rattle.std.specs.Prelude.{⊤, option_and_then}
use Rattle.std.proofs.lemmas.Bool.{and_parts}
use Rattle.std.proofs.lemmas.Bool.Decides.{nat_tests}
use Rattle.std.specs.FinMap as fin
use Rattle.std.specs.Str.{bytes_eq}
use Rattle.serde_json.specs.Data.{Data, null, boolean, number, string, array, object, Items, no_items, item, Members, no_members, member, depth}
use Rattle.serde_json.specs.Find.{as_object, of_integer}
use Rattle.serde_json.specs.Read.{read, max_depth}
use Rattle.serde_json.specs.Written.{compact_text, has_float}
use Rattle.fieldpath.specs.Elements.{name_text, field_name, scalar_json, keys_json}
use Rattle.fieldpath.specs.Scalars.{ascend}
use Rattle.fieldpath.specs.Encodable.{IsEncodableNumber, IsEncodable, AreEncodable, MembersAreEncodable, member_names}
use Rattle.fieldpath.proofs.Encodable.{put_ascend, put_encodable, encodable-read, compact-read}
use Rattle.fieldpath.specs.Paths.{PathTexts}
use Rattle.pathmap.specs.Contents.{LeafValue, Content, nothing, here}
use Rattle.pathmap.specs.Contents as leaf_value
use Rattle.pathmap.specs.Insides.{inside, heads}
use Rattle.schema.specs.Lawful.{depth_of, depth_limit, is_well_formed, is_lawful}
use Rattle.schema.specs.Shape.{atomic, set, keyed, Shape, text, whole, truth, struct_of, map_of, list_of, Fields, no_fields, field}
use Rattle.typed.specs.Fitting.{IsWholeValue, AtEnd, FitsAt, FitsItem, FitsField, FitsAll, IsTextual, PrintedIsTextual}
use Rattle.typed.specs.WellTyped.{When, IsWithin, ReadsBack}
use Rattle.typed.specs.Printing.{value_of, value_at, object_or_none, array_or_none, with_member, with_named, with_item, each_member, each_item, scalar_in, keys_in, print, print_item, print_fields}
use Rattle.typed.specs.Reading.{leaf}
use Rattle.typed.proofs.Depths.{content_deep}
use Rattle.typed.proofs.Fitting.{here_same, content_well_typed}
use Rattle.typed.proofs.Floats.{content_clean}
use Rattle.pathmap.proofs.Insides.{get-inside}
use Rattle.typed.proofs.Places.{none_there}
use Rattle.typed.proofs.RoundTrip.{leaf_is, round}
use Rattle.pathmap.proofs.Levels.{get-here-top}

-- ---- whole numbers within 64 bits

abbrev whole_or : ℤ → LeafValue → ℤ
whole_or n (leaf_value.whole m) = m
whole_or n _ = n

abbrev is_whole : LeafValue → Bool
is_whole (leaf_value.whole m) = true
is_whole _ = false

not_whole : {A : Type 0} (n : ℤ) (v : LeafValue) → is_whole v ≡ false → leaf_value.whole n ≡ v → A
not_whole n v none is = absurd (true≢false (ap is_whole is ∙ none))

within_whole : (s : Shape) (n : ℤ) → IsWholeValue s (leaf_value.whole n) → IsWithin n
within_whole s n (d, plain, reads, is) = by_leaf (leaf_is d)
  where
    by_leaf : (leaf d ≡ nothing) ⊎ (leaf d ≡ here (leaf_value.plain (compact_text d))) → IsWithin n
    by_leaf (inl none) = absurd (none_there (here (leaf_value.whole n)) [] (sym is ∙ none) (ap is_some (get-here-top (leaf_value.whole n))))
    by_leaf (inr there) = not_whole n (leaf_value.plain (compact_text d)) refl (here_same (leaf_value.whole n) (leaf_value.plain (compact_text d)) (sym is ∙ there))

at_end_within : (P : Type 0) (n : ℤ) (p : PathTexts) → (P → IsWithin n) → AtEnd p P → IsWithin n
at_end_within P n [] within fit = within fit
at_end_within P n (e ∷ p) within fit = absurd fit

mutual
  fits_within : (s : Shape) (p : PathTexts) (n : ℤ) → FitsAt s p (leaf_value.whole n) → IsWithin n
  fits_within text p n fit = at_end_within _ n p (λ k. not_whole n (leaf_value.text k.0) refl k.1) fit
  fits_within whole p n fit = at_end_within _ n p (λ k. subst IsWithin (sym (ap (whole_or n) k.2)) k.1) fit
  fits_within truth p n fit = at_end_within _ n p (λ k. not_whole n (leaf_value.truth k.0) refl k.1) fit
  fits_within (struct_of all true) p n fit = at_end_within _ n p (within_whole (struct_of all true) n) fit
  fits_within (struct_of all false) [] n fit = absurd fit
  fits_within (struct_of all false) (e ∷ p) n fit = field_within all fit.0 p n fit.2
  fits_within (map_of s true) p n fit = at_end_within _ n p (within_whole (map_of s true) n) fit
  fits_within (map_of s false) [] n fit = absurd fit
  fits_within (map_of s false) (e ∷ p) n fit = fits_within s p n fit.2
  fits_within (list_of s atomic) p n fit = at_end_within _ n p (within_whole (list_of s atomic) n) fit
  fits_within (list_of s set) [] n fit = absurd fit
  fits_within (list_of s set) (e ∷ p) n fit = at_end_within _ n p (λ k. not_whole n leaf_value.mark refl k) fit.3
  fits_within (list_of s (keyed names)) [] n fit = absurd fit
  fits_within (list_of s (keyed names)) (e ∷ p) n fit = item_within names s e p n fit

  item_within : (names : List (List ℕ)) (s : Shape) (e : List ℕ) (p : PathTexts) (n : ℤ) → FitsItem names s e p (leaf_value.whole n) → IsWithin n
  item_within names text e p n fit = absurd fit
  item_within names whole e p n fit = absurd fit
  item_within names truth e p n fit = absurd fit
  item_within names (map_of s b) e p n fit = absurd fit
  item_within names (list_of s kind) e p n fit = absurd fit
  item_within names (struct_of all b) e [] n fit = not_whole n leaf_value.mark refl fit.3
  item_within names (struct_of all b) e (g ∷ p) n fit = field_within all fit.3.0 p n fit.3.3

  field_within : (fs : Fields) (f : List ℕ) (p : PathTexts) (n : ℤ) → FitsField fs f p (leaf_value.whole n) → IsWithin n
  field_within no_fields f p n fit = absurd fit
  field_within (field known s more) f p n fit = by_test (bytes_eq known f) fit (fits_within s p n) (field_within more f p n)
    where
      by_test : (b : Bool) → When b (FitsAt s p (leaf_value.whole n)) (FitsField more f p (leaf_value.whole n)) → (FitsAt s p (leaf_value.whole n) → IsWithin n) → (FitsField more f p (leaf_value.whole n) → IsWithin n) → IsWithin n
      by_test true fit mine later = mine fit
      by_test false fit mine later = later fit

abbrev AllWithin : Content → Type 0
AllWithin c = (p : PathTexts) (n : ℤ) → fin.get c p ≡ Some (leaf_value.whole n) → IsWithin n

all_within : (s : Shape) (c : Content) → FitsAll s c → AllWithin c
all_within s c fit p n h = fits_within s p n (fit p (leaf_value.whole n) h)

within_inside : (e : List ℕ) (c : Content) → AllWithin c → AllWithin (inside e c)
within_inside e c within q n h = within (e ∷ q) n (sym (get-inside e c q) ∙ h)

shorter : (n : ℕ) → n < 2 ^ 63 → n < 2 ^ 64
shorter n h = omega (arith, h)

number_encodable : (n : ℤ) → IsWithin n → IsEncodableNumber (of_integer n)
number_encodable (pos n) h = shorter n h
number_encodable (negsuc n) h = h

-- ---- spelled, where there is something

abbrev Given : Option Data → Type 0
Given None = ⊤
Given (Some d) = IsEncodable d

abbrev InOrder : Members → Type 0
InOrder ms = (ascend (member_names ms) ≡ true) × MembersAreEncodable ms

read_encodable : (s : List ℕ) → Given (read s)
read_encodable s = by_read (read s) refl
  where
    by_read : (o : Option Data) → read s ≡ o → Given o
    by_read None is = tt
    by_read (Some d) is = (encodable-read s d is).0

value_encodable : (v : LeafValue) → ((n : ℤ) → v ≡ leaf_value.whole n → IsWithin n) → Given (value_of v)
value_encodable (leaf_value.text s) within = tt
value_encodable (leaf_value.whole n) within = number_encodable n (within n refl)
value_encodable (leaf_value.truth b) within = tt
value_encodable (leaf_value.plain s) within = read_encodable s
value_encodable leaf_value.mark within = tt

top_encodable : (c : Content) → AllWithin c → Given (value_at c)
top_encodable c within = by_top (fin.get c []) refl
  where
    by_top : (o : Option LeafValue) → fin.get c [] ≡ o → Given (option_and_then value_of o)
    by_top None top = tt
    by_top (Some v) top = value_encodable v (λ n is. within [] n (top ∙ ap Some is))

object_given : (ms : Members) → InOrder ms → Given (object_or_none ms)
object_given no_members h = tt
object_given (member k d ms) h = h

array_given : (ds : Items) → AreEncodable ds → Given (array_or_none ds)
array_given no_items h = tt
array_given (item d ds) h = h

pub put_in_order : (k : List ℕ) (d : Data) (ms : Members) → IsEncodable d → InOrder ms → InOrder (Rattle.serde_json.specs.Data.put k d ms)
put_in_order k d ms one all = (put_ascend k d ms all.0, put_encodable k d ms one all.1)

with_in_order : (k : List ℕ) (o : Option Data) (ms : Members) → Given o → InOrder ms → InOrder (with_member k o ms)
with_in_order k None ms one all = all
with_in_order k (Some d) ms one all = put_in_order k d ms one all

named_in_order : (k : Option (List ℕ)) (o : Option Data) (ms : Members) → Given o → InOrder ms → InOrder (with_named k o ms)
named_in_order None o ms one all = all
named_in_order (Some k) o ms one all = with_in_order k o ms one all

each_in_order : (inner : List ℕ → Option Data) → ((e : List ℕ) → Given (inner e)) → (es : List (List ℕ)) (ms : Members) → InOrder ms → InOrder (each_member inner es ms)
each_in_order inner one [] ms all = all
each_in_order inner one (e ∷ es) ms all = each_in_order inner one es (with_named (field_name e) (inner e) ms) (named_in_order (field_name e) (inner e) ms (one e) all)

item_given : (o : Option Data) (ds : Items) → Given o → AreEncodable ds → AreEncodable (with_item o ds)
item_given None ds one all = all
item_given (Some d) ds one all = (one, all)

each_encodable : (inner : List ℕ → Option Data) → ((e : List ℕ) → Given (inner e)) → (es : List (List ℕ)) → AreEncodable (each_item inner es)
each_encodable inner one [] = tt
each_encodable inner one (e ∷ es) = item_given (inner e) (each_item inner es) (one e) (each_encodable inner one es)

scalar_given : (e : List ℕ) → Given (scalar_in e)
scalar_given e = by_text (scalar_json e)
  where
    by_text : (o : Option (List ℕ)) → Given (option_and_then read o)
    by_text None = tt
    by_text (Some s) = read_encodable s

-- members with more put among them, where there are some
keyed_given : (f : Members → Members) → ((ms : Members) → InOrder ms → InOrder (f ms)) → (e : List ℕ) → Given (option_map (λ ms. object (f ms)) (keys_in e))
keyed_given f kept e = by_text (keys_json e)
  where
    by_data : (d : Data) → IsEncodable d → Given (option_map (λ ms. object (f ms)) (as_object d))
    by_data null h = tt
    by_data (boolean b) h = tt
    by_data (number n) h = tt
    by_data (string s) h = tt
    by_data (array ds) h = tt
    by_data (object ms) h = kept ms h

    by_value : (o : Option Data) → Given o → Given (option_map (λ ms. object (f ms)) (option_and_then as_object o))
    by_value None h = tt
    by_value (Some d) h = by_data d h

    by_text : (o : Option (List ℕ)) → Given (option_map (λ ms. object (f ms)) (option_and_then as_object (option_and_then read o)))
    by_text None = tt
    by_text (Some s) = by_value (read s) (read_encodable s)

given_if : (b : Bool) (o p : Option Data) → Given o → Given p → Given (cond b o p)
given_if true o p h k = h
given_if false o p h k = k

mutual
  print_given : (s : Shape) (c : Content) → AllWithin c → Given (print s c)
  print_given text c within = top_encodable c within
  print_given whole c within = top_encodable c within
  print_given truth c within = top_encodable c within
  print_given (struct_of all is_atomic) c within = given_if is_atomic _ _ (top_encodable c within) (object_given (print_fields all c no_members) (fields_in_order all c no_members within (refl, tt)))
  print_given (map_of s is_atomic) c within =
      given_if is_atomic _ _ (top_encodable c within)
      (object_given _ (each_in_order (λ e. print s (inside e c)) (λ e. print_given s (inside e c) (within_inside e c within)) (heads c) no_members (refl, tt)))
  print_given (list_of s atomic) c within = top_encodable c within
  print_given (list_of s set) c within = array_given (each_item scalar_in (heads c)) (each_encodable scalar_in scalar_given (heads c))
  print_given (list_of s (keyed names)) c within =
      array_given _ (each_encodable (λ e. option_map (λ ms. object (print_item s (inside e c) ms)) (keys_in e))
      (λ e. keyed_given (print_item s (inside e c)) (λ ms h. item_in_order s (inside e c) ms (within_inside e c within) h) e) (heads c))

  item_in_order : (s : Shape) (c : Content) (ms : Members) → AllWithin c → InOrder ms → InOrder (print_item s c ms)
  item_in_order text c ms within h = h
  item_in_order whole c ms within h = h
  item_in_order truth c ms within h = h
  item_in_order (struct_of all is_atomic) c ms within h = fields_in_order all c ms within h
  item_in_order (map_of s b) c ms within h = h
  item_in_order (list_of s kind) c ms within h = h

  fields_in_order : (fs : Fields) (c : Content) (ms : Members) → AllWithin c → InOrder ms → InOrder (print_fields fs c ms)
  fields_in_order no_fields c ms within h = h
  fields_in_order (field f s more) c ms within h =
      fields_in_order more c (with_member f (print s (inside (name_text f) c)) ms) within (with_in_order f (print s (inside (name_text f) c)) ms (print_given s (inside (name_text f) c) (within_inside (name_text f) c within)) h)

-- ---- the law

limit_most : (s : Shape) → depth_limit s ≤ 16
limit_most text = omega arith
limit_most whole = omega arith
limit_most truth = omega arith
limit_most (struct_of all true) = omega arith
limit_most (struct_of all false) = omega arith
limit_most (map_of s b) = omega arith
limit_most (list_of s kind) = omega arith

most_of : (m n : ℕ) → nat_le m n ≡ true → m ≤ n
most_of m n h = grind (arith, nat_tests)

pub lawful_depth : (s : Shape) → is_lawful s ≡ true → depth_of s ≤ 16
lawful_depth s lawful =
    let p = and_parts (is_well_formed s) (nat_le (depth_of s) (depth_limit s)) lawful in
    let within : depth_of s ≤ depth_limit s = most_of (depth_of s) (depth_limit s) p.1 in
    let limit = limit_most s in
    omega (arith, within, limit)

shallow : (n m : ℕ) → n ≤ m → m ≤ 16 → n ≤ 127
shallow n m h k = omega (arith, h, k)

pub textual : (d : Data) → IsEncodable d → has_float d ≡ false → depth d ≤ max_depth → IsTextual d
textual d encodable clean deep = (encodable, clean, deep, compact-read d encodable clean deep)

pub printed_textual : PrintedIsTextual
printed_textual s c d lawful content is =
    let formed = (and_parts (is_well_formed s) (nat_le (depth_of s) (depth_limit s)) lawful).0 in
    let reads = (subst (λ o. ReadsBack s o c) is (round s c formed (content_well_typed s formed c content))).1 in
    textual d (subst Given is (print_given s c (all_within s c content.0))) (content_clean s d c reads) (shallow (depth d) (depth_of s) (content_deep s d c reads) (lawful_depth s lawful))
