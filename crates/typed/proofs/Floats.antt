-- What is read has no float: a number is read where a whole one within 64 bits is due, and nowhere else.
use Rattle.std.proofs.Common.{◌≡◌, ℕ, suc, ℤ, Bool, true, false, ◌||◌, cond, true≢false, List, [], ◌∷◌, Option, Some, None, Ok, Err, refl, sym, ap, ◌∙◌, Ordering, Less, Equal, Greater, nat_cmp}
use Rattle.std.specs.Ordering.{match_ordering}
use Rattle.std.specs.Cmp.Lexicographic.{slice_cmp}
use Rattle.std.specs.List.{list_any}
use Rattle.std.specs.Str.{bytes_eq}
use Rattle.serde_json.specs.Data.{unsigned, negative, float, Data, null, boolean, number, string, array, object, Items, no_items, item, Members, no_members, member, put}
use Rattle.serde_json.specs.Find.{get_member, as_array, as_object}
use Rattle.serde_json.specs.Written.{has_float, items_have_float, members_have_float}
use Rattle.fieldpath.specs.Elements.{set_item_text, list_item_text}
use Rattle.pathmap.specs.Contents.{Content, nothing}
use Rattle.schema.specs.Shape.{Kind, atomic, set, keyed, Shape, text, whole, truth, struct_of, map_of, list_of, Fields, no_fields, field}
use Rattle.typed.specs.declared.fault.Cause.TheVariants.{NotAnObject, WrongType, DuplicateItem, KeyFieldMissing}
use Rattle.typed.specs.Faults.{Fault, Read, below, and_then, some_or, shown_name, shown_place}
use Rattle.typed.specs.Reading.{is_null, text_in, whole_in, truth_in, have_keys, put_some, keys_in, plain_members, plain_items, plain_item, plain_of, plain_of_field, leaf, joined, one_member, members_at, marked, one_item, items_at, named_item, set_item, keyed_item, beside_keys, content_of, content_of_item, content_of_field}

-- ---- what read well

abbrev ok_or : {X : Type 0} → X → Read X → X
ok_or x (Ok y) = y
ok_or x (Err e) = x

pub ok_is : {X : Type 0} (x y : X) → ◌≡◌ {A = Read X} (Ok x) (Ok y) → x ≡ y
ok_is x y h = ap (ok_or x) h

pub err_not_ok : {X : Type 0} (e : Fault) (y : X) → ◌≡◌ {A = Read X} (Err e) (Ok y) → ⊥
err_not_ok e y h = cc

pub below_ok : {X Y : Type 0} (s : List ℕ) (f : X → Y) (r : Read X) (y : Y) → below s f r ≡ Ok y → (x : X) × (r ≡ Ok x) × (y ≡ f x)
below_ok s f (Ok x) y h = (x, refl, sym (ok_is (f x) y h))
below_ok s f (Err e) y h = absurd (err_not_ok _ y h)

pub and_then_ok : {X Y : Type 0} (r : Read X) (g : X → Read Y) (y : Y) → and_then r g ≡ Ok y → (x : X) × (r ≡ Ok x) × (g x ≡ Ok y)
and_then_ok (Ok x) g y h = (x, refl, h)
and_then_ok (Err e) g y h = absurd (err_not_ok e y h)

-- an item that has an element
pub named_is : (o : Option (List ℕ)) (t : List ℕ) (c : Content) (p : List ℕ × Content) → o ≡ Some t → named_item o c ≡ Ok p → p ≡ (t, c)
named_is o t c p is h = ok_is p (t, c) (sym h ∙ ap (λ q. named_item q c) is)

pub joined_ok : (a b : Read Content) (c : Content) → joined a b ≡ Ok c → ((x : Content) × (a ≡ Ok x)) × ((y : Content) × (b ≡ Ok y))
joined_ok (Err e) b c h = absurd (err_not_ok e c h)
joined_ok (Ok x) (Err e) c h = absurd (err_not_ok e c h)
joined_ok (Ok x) (Ok y) c h = ((x, refl), (y, refl))

pub either_ok : {X : Type 0} (P : Type 0) (b : Bool) (r s : Read X) (x : X) → cond b r s ≡ Ok x → (r ≡ Ok x → P) → (s ≡ Ok x → P) → P
either_ok P true r s x h f g = f h
either_ok P false r s x h f g = g h

pub neither : (a b : Bool) → (a || b) ≡ false → (a ≡ false) × (b ≡ false)
neither true b h = absurd (true≢false h)
neither false b h = (refl, h)

pub both : (a b : Bool) → a ≡ false → b ≡ false → (a || b) ≡ false
both true b h i = absurd (true≢false h)
both false b h i = i

-- ---- scalars

text_clean : (d : Data) (s : List ℕ) → text_in d ≡ Ok s → has_float d ≡ false
text_clean null s h = refl
text_clean (boolean b) s h = refl
text_clean (number n) s h = absurd (err_not_ok _ s h)
text_clean (string t) s h = refl
text_clean (array ds) s h = absurd (err_not_ok _ s h)
text_clean (object ms) s h = absurd (err_not_ok _ s h)

whole_clean : (d : Data) (z : ℤ) → whole_in d ≡ Ok z → has_float d ≡ false
whole_clean null z h = refl
whole_clean (boolean b) z h = refl
whole_clean (number (unsigned n)) z h = refl
whole_clean (number (negative n)) z h = refl
whole_clean (number (float x)) z h = absurd (err_not_ok _ z h)
whole_clean (string s) z h = refl
whole_clean (array ds) z h = absurd (err_not_ok _ z h)
whole_clean (object ms) z h = absurd (err_not_ok _ z h)

truth_clean : (d : Data) (b : Bool) → truth_in d ≡ Ok b → has_float d ≡ false
truth_clean null b h = refl
truth_clean (boolean t) b h = refl
truth_clean (number n) b h = absurd (err_not_ok _ b h)
truth_clean (string s) b h = refl
truth_clean (array ds) b h = absurd (err_not_ok _ b h)
truth_clean (object ms) b h = absurd (err_not_ok _ b h)

pub null_clean : (d : Data) → is_null d ≡ true → has_float d ≡ false
null_clean null h = refl
null_clean (boolean b) h = refl
null_clean (number n) h = absurd (true≢false (sym h))
null_clean (string s) h = refl
null_clean (array ds) h = absurd (true≢false (sym h))
null_clean (object ms) h = absurd (true≢false (sym h))

-- ---- atomic values

abbrev Clean : Data → Data → Type 0
Clean d x = (has_float d ≡ false) × (has_float x ≡ false)

kept_clean : {X : Type 0} (d x : Data) (r : Read X) → ((s : X) → r ≡ Ok s → has_float d ≡ false) → below [] (λ s. d) r ≡ Ok x → Clean d x
kept_clean d x r clean h = let k = below_ok [] (λ s. d) r x h in (clean k.0 k.1, ap has_float k.2 ∙ clean k.0 k.1)

module _ (inner : List ℕ → Data → Read Data) (cleans : (k : List ℕ) (d x : Data) → inner k d ≡ Ok x → Clean d x) where
  members_clean : (ms ns : Members) → plain_members inner ms ≡ Ok ns → (members_have_float ms ≡ false) × (members_have_float ns ≡ false)
  members_clean no_members ns h = (refl, ap members_have_float (sym (ok_is no_members ns h)))
  members_clean (member k d ms) ns h = by_null (λ rest. members_clean ms rest) (is_null d) refl h
    where
      by_null : ((rest : Members) → plain_members inner ms ≡ Ok rest → (members_have_float ms ≡ false) × (members_have_float rest ≡ false)) → (b : Bool) → is_null d ≡ b → cond b (plain_members inner ms) (and_then (below (shown_name k) (λ x. x) (inner k d)) (λ x. below [] (member k x) (plain_members inner ms))) ≡ Ok ns
          → ((has_float d || members_have_float ms) ≡ false) × (members_have_float ns ≡ false)
      by_null later true is h = let rest = later ns h in (both _ _ (null_clean d is) rest.0, rest.1)
      by_null later false is h =
          let one = and_then_ok (below (shown_name k) (λ x. x) (inner k d)) (λ x. below [] (member k x) (plain_members inner ms)) ns h in
          let found = below_ok (shown_name k) (λ x. x) (inner k d) one.0 one.1 in
          let clean = cleans k d found.0 found.1 in
          let more = below_ok [] (member k one.0) (plain_members inner ms) ns one.2 in
          let rest = later more.0 more.1 in (
            both _ _ clean.0 rest.0,
            ap members_have_float more.2 ∙ both _ _ (ap has_float found.2 ∙ clean.1) rest.1,
          )

  object_clean : (d x : Data) → and_then (some_or NotAnObject (as_object d)) (λ ms. below [] object (plain_members inner ms)) ≡ Ok x → Clean d x
  object_clean d x h =
      let found = and_then_ok (some_or NotAnObject (as_object d)) (λ ms. below [] object (plain_members inner ms)) x h in
      by_kind d found.0 found.1 found.2
    where
      by_kind : (d : Data) (ms : Members) → some_or NotAnObject (as_object d) ≡ Ok ms → below [] object (plain_members inner ms) ≡ Ok x → Clean d x
      by_kind null ms is h = absurd (err_not_ok _ ms is)
      by_kind (boolean b) ms is h = absurd (err_not_ok _ ms is)
      by_kind (number n) ms is h = absurd (err_not_ok _ ms is)
      by_kind (string s) ms is h = absurd (err_not_ok _ ms is)
      by_kind (array ds) ms is h = absurd (err_not_ok _ ms is)
      by_kind (object ns) ms is h =
          let made = below_ok [] object (plain_members inner ms) x h in
          let clean = members_clean ms made.0 made.1 in
          (ap members_have_float (ok_is ns ms is) ∙ clean.0, ap has_float made.2 ∙ clean.1)

module _ (inner : Data → Read Data) (cleans : (d x : Data) → inner d ≡ Ok x → Clean d x) where
  items_clean : (i : ℕ) (ds es : Items) → plain_items inner i ds ≡ Ok es → (items_have_float ds ≡ false) × (items_have_float es ≡ false)
  items_clean i no_items es h = (refl, ap items_have_float (sym (ok_is no_items es h)))
  items_clean i (item d ds) es h =
      let one = and_then_ok (below (shown_place i) (λ x. x) (inner d)) (λ x. below [] (item x) (plain_items inner (suc i) ds)) es h in
      let found = below_ok (shown_place i) (λ x. x) (inner d) one.0 one.1 in
      let clean = cleans d found.0 found.1 in
      let more = below_ok [] (item one.0) (plain_items inner (suc i) ds) es one.2 in
      let rest = items_clean (suc i) ds more.0 more.1 in (
        both _ _ clean.0 rest.0,
        ap items_have_float more.2 ∙ both _ _ (ap has_float found.2 ∙ clean.1) rest.1,
      )

  array_clean : (d x : Data) → and_then (some_or WrongType (as_array d)) (λ ds. below [] array (plain_items inner 0 ds)) ≡ Ok x → Clean d x
  array_clean d x h =
      let found = and_then_ok (some_or WrongType (as_array d)) (λ ds. below [] array (plain_items inner 0 ds)) x h in
      by_kind d found.0 found.1 found.2
    where
      by_kind : (d : Data) (ds : Items) → some_or WrongType (as_array d) ≡ Ok ds → below [] array (plain_items inner 0 ds) ≡ Ok x → Clean d x
      by_kind null ds is h = absurd (err_not_ok _ ds is)
      by_kind (boolean b) ds is h = absurd (err_not_ok _ ds is)
      by_kind (number n) ds is h = absurd (err_not_ok _ ds is)
      by_kind (string s) ds is h = absurd (err_not_ok _ ds is)
      by_kind (object ms) ds is h = absurd (err_not_ok _ ds is)
      by_kind (array es) ds is h =
          let made = below_ok [] array (plain_items inner 0 ds) x h in
          let clean = items_clean 0 ds made.0 made.1 in
          (ap items_have_float (ok_is es ds is) ∙ clean.0, ap has_float made.2 ∙ clean.1)

  item_clean : (kind : Kind) (d x : Data) → plain_item kind inner (λ ms. inner (object ms)) d ≡ Ok x → Clean d x
  item_clean set d x h = cleans d x h
  item_clean atomic d x h = either_ok (Clean d x) (is_null d) (Err (WrongType, [])) (inner d) x h (λ wrong. absurd (err_not_ok _ x wrong)) (cleans d x)
  item_clean (keyed names) null x h = absurd (err_not_ok _ x h)
  item_clean (keyed names) (boolean b) x h = absurd (err_not_ok _ x h)
  item_clean (keyed names) (number n) x h = absurd (err_not_ok _ x h)
  item_clean (keyed names) (string s) x h = absurd (err_not_ok _ x h)
  item_clean (keyed names) (array ds) x h = absurd (err_not_ok _ x h)
  item_clean (keyed names) (object ms) x h = either_ok (Clean (object ms) x) (have_keys names ms) (inner (object ms)) (Err (KeyFieldMissing, [])) x h (cleans (object ms) x) (λ wrong. absurd (err_not_ok _ x wrong))

mutual
  pub plain_clean : (s : Shape) (d x : Data) → plain_of s d ≡ Ok x → Clean d x
  plain_clean text d x h = kept_clean d x (text_in d) (text_clean d) h
  plain_clean whole d x h = kept_clean d x (whole_in d) (whole_clean d) h
  plain_clean truth d x h = kept_clean d x (truth_in d) (truth_clean d) h
  plain_clean (struct_of all is_atomic) d x h = object_clean (λ k e. plain_of_field all k e) (λ k e y. field_clean all k e y) d x h
  plain_clean (map_of s is_atomic) d x h = object_clean (λ k e. plain_of s e) (λ k e y. plain_clean s e y) d x h
  plain_clean (list_of s kind) d x h = array_clean (plain_item kind (λ e. plain_of s e) (λ ms. plain_of s (object ms))) (item_clean (λ e. plain_of s e) (λ e y. plain_clean s e y) kind) d x h

  field_clean : (all : Fields) (k : List ℕ) (d x : Data) → plain_of_field all k d ≡ Ok x → Clean d x
  field_clean no_fields k d x h = absurd (err_not_ok _ x h)
  field_clean (field known s more) k d x h = either_ok (Clean d x) (bytes_eq known k) (plain_of s d) (plain_of_field more k d) x h (plain_clean s d x) (field_clean more k d x)

-- ---- contents

module _ (inner : List ℕ → Data → Read Content) (cleans : (k : List ℕ) (d : Data) (c : Content) → inner k d ≡ Ok c → has_float d ≡ false) where
  members_whole : (ms : Members) (c : Content) → members_at inner ms ≡ Ok c → members_have_float ms ≡ false
  members_whole no_members c h = refl
  members_whole (member k d ms) c h =
      let parts = joined_ok (one_member inner k d) (members_at inner ms) c h in
      both _ _ (by_null (is_null d) refl parts.0.0 parts.0.1) (members_whole ms parts.1.0 parts.1.1)
    where
      by_null : (b : Bool) → is_null d ≡ b → (x : Content) → cond b (Ok nothing) (below (shown_name k) (λ y. Rattle.pathmap.specs.Contents.under (Rattle.fieldpath.specs.Elements.name_text k) y) (inner k d)) ≡ Ok x → has_float d ≡ false
      by_null true is x h = null_clean d is
      by_null false is x h = let found = below_ok (shown_name k) _ (inner k d) x h in cleans k d found.0 found.1

  object_whole : (d : Data) (c : Content) → and_then (some_or NotAnObject (as_object d)) (members_at inner) ≡ Ok c → has_float d ≡ false
  object_whole null c h = refl
  object_whole (boolean b) c h = refl
  object_whole (number n) c h = absurd (err_not_ok _ c h)
  object_whole (string s) c h = refl
  object_whole (array ds) c h = absurd (err_not_ok _ c h)
  object_whole (object ms) c h = members_whole ms c h

module _ (inner : Data → Read (List ℕ × Content)) (cleans : (d : Data) (e : List ℕ × Content) → inner d ≡ Ok e → has_float d ≡ false) where
  items_whole : (i : ℕ) (seen : List (List ℕ)) (ds : Items) (c : Content) → items_at inner i seen ds ≡ Ok c → items_have_float ds ≡ false
  items_whole i seen no_items c h = refl
  items_whole i seen (item d ds) c h = by_item (λ more x. items_whole (suc i) more ds x) (inner d) refl h
    where
      by_item : ((more : List (List ℕ)) (x : Content) → items_at inner (suc i) more ds ≡ Ok x → items_have_float ds ≡ false) → (r : Read (List ℕ × Content)) → inner d ≡ r → one_item seen (below (shown_place i) (λ e. e) r) (λ more. items_at inner (suc i) more ds) ≡ Ok c → (has_float d || items_have_float ds) ≡ false
      by_item later (Err e) is h = absurd (err_not_ok _ c h)
      by_item later (Ok e) is h =
          either_ok ((has_float d || items_have_float ds) ≡ false) (list_any (bytes_eq e.0) seen) (Err (DuplicateItem, [])) (joined (Ok (marked e.0 e.1)) (items_at inner (suc i) (e.0 ∷ seen) ds)) c h (λ wrong. absurd (err_not_ok (DuplicateItem, []) c wrong))
          (λ both_read. let parts = joined_ok (Ok (marked e.0 e.1)) (items_at inner (suc i) (e.0 ∷ seen) ds) c both_read in both _ _ (cleans d e is) (later (e.0 ∷ seen) parts.1.0 parts.1.1))

  array_whole : (d : Data) (c : Content) → and_then (some_or WrongType (as_array d)) (items_at inner 0 []) ≡ Ok c → has_float d ≡ false
  array_whole null c h = refl
  array_whole (boolean b) c h = refl
  array_whole (number n) c h = absurd (err_not_ok _ c h)
  array_whole (string s) c h = refl
  array_whole (object ms) c h = absurd (err_not_ok _ c h)
  array_whole (array ds) c h = items_whole 0 [] ds c h

atomic_whole : (s : Shape) (d : Data) (c : Content) → below [] leaf (plain_of s d) ≡ Ok c → has_float d ≡ false
atomic_whole s d c h = let found = below_ok [] leaf (plain_of s d) c h in (plain_clean s d found.0 found.1).0

set_whole : (s : Shape) (d : Data) (e : List ℕ × Content) → set_item (plain_of s) d ≡ Ok e → has_float d ≡ false
set_whole s d e h = let found = and_then_ok (plain_of s d) (λ x. named_item (set_item_text x) nothing) e h in (plain_clean s d found.0 found.1).0

keyed_whole : (names : List (List ℕ)) (inner : Members → Read Content) → ((ms : Members) (c : Content) → inner ms ≡ Ok c → members_have_float ms ≡ false) → (d : Data) (e : List ℕ × Content) → keyed_item names inner d ≡ Ok e → has_float d ≡ false
keyed_whole names inner cleans null e h = refl
keyed_whole names inner cleans (boolean b) e h = refl
keyed_whole names inner cleans (number n) e h = absurd (err_not_ok _ e h)
keyed_whole names inner cleans (string s) e h = refl
keyed_whole names inner cleans (array ds) e h = absurd (err_not_ok _ e h)
keyed_whole names inner cleans (object ms) e h =
    either_ok (members_have_float ms ≡ false) (have_keys names ms) _ _ e h (λ read. let found = and_then_ok (inner ms) (named_item (list_item_text (object (keys_in names ms)))) e read in cleans ms found.0 found.1) (λ wrong. absurd (err_not_ok _ e wrong))

beside_whole : (names : List (List ℕ)) (inner : List ℕ → Data → Read Content) → ((k : List ℕ) (d : Data) (c : Content) → inner k d ≡ Ok c → has_float d ≡ false) → (k : List ℕ) (d : Data) (c : Content) → beside_keys names inner k d ≡ Ok c → has_float d ≡ false
beside_whole names inner cleans k d c h =
    either_ok (has_float d ≡ false) (list_any (bytes_eq k) names) _ (inner k d) c h (λ key. let found = below_ok [] _ (inner k d) c key in cleans k d found.0 found.1) (cleans k d c)

mutual
  pub content_clean : (s : Shape) (d : Data) (c : Content) → content_of s d ≡ Ok c → has_float d ≡ false
  content_clean text d c h = let found = below_ok [] _ (text_in d) c h in text_clean d found.0 found.1
  content_clean whole d c h = let found = below_ok [] _ (whole_in d) c h in whole_clean d found.0 found.1
  content_clean truth d c h = let found = below_ok [] _ (truth_in d) c h in truth_clean d found.0 found.1
  content_clean (struct_of all is_atomic) d c h =
      either_ok (has_float d ≡ false) is_atomic _ _ c h (atomic_whole (struct_of all is_atomic) d c) (object_whole (λ k e. content_of_field all k e) (λ k e x. content_field_clean all k e x) d c)
  content_clean (map_of s is_atomic) d c h =
      either_ok (has_float d ≡ false) is_atomic _ _ c h (atomic_whole (map_of s is_atomic) d c) (object_whole (λ k e. content_of s e) (λ k e x. content_clean s e x) d c)
  content_clean (list_of s atomic) d c h = atomic_whole (list_of s atomic) d c h
  content_clean (list_of s set) d c h = array_whole (set_item (plain_of s)) (set_whole s) d c h
  content_clean (list_of s (keyed names)) d c h = array_whole (keyed_item names (λ ms. content_of_item s names ms)) (keyed_whole names (λ ms. content_of_item s names ms) (λ ms x. content_item_clean s names ms x)) d c h

  pub content_item_clean : (s : Shape) (names : List (List ℕ)) (ms : Members) (c : Content) → content_of_item s names ms ≡ Ok c → members_have_float ms ≡ false
  content_item_clean text names ms c h = absurd (err_not_ok _ c h)
  content_item_clean whole names ms c h = absurd (err_not_ok _ c h)
  content_item_clean truth names ms c h = absurd (err_not_ok _ c h)
  content_item_clean (struct_of all is_atomic) names ms c h =
      members_whole (beside_keys names (λ k e. content_of_field all k e)) (beside_whole names (λ k e. content_of_field all k e) (λ k e x. content_field_clean all k e x)) ms c h
  content_item_clean (map_of s is_atomic) names ms c h = absurd (err_not_ok _ c h)
  content_item_clean (list_of s kind) names ms c h = absurd (err_not_ok _ c h)

  content_field_clean : (all : Fields) (k : List ℕ) (d : Data) (c : Content) → content_of_field all k d ≡ Ok c → has_float d ≡ false
  content_field_clean no_fields k d c h = absurd (err_not_ok _ c h)
  content_field_clean (field known s more) k d c h =
      either_ok (has_float d ≡ false) (bytes_eq known k) (content_of s d) (content_of_field more k d) c h (content_clean s d c) (content_field_clean more k d c)

-- ---- key fields

abbrev some_or_this : Data → Option Data → Data
some_or_this e None = e
some_or_this e (Some x) = x

get_clean_at : (o : Ordering) (e d : Data) (rest : Option Data) → match_ordering o rest (Some e) rest ≡ Some d → has_float e ≡ false → (rest ≡ Some d → has_float d ≡ false) → has_float d ≡ false
get_clean_at Less e d rest h clean later = later h
get_clean_at Equal e d rest h clean later = ap has_float (sym (some_is h)) ∙ clean
  where
    some_is : Some e ≡ Some d → e ≡ d
    some_is h = ap (some_or_this e) h
get_clean_at Greater e d rest h clean later = later h

get_clean : (k : List ℕ) (ms : Members) (d : Data) → get_member k ms ≡ Some d → members_have_float ms ≡ false → has_float d ≡ false
get_clean k no_members d h clean = absurd cc
get_clean k (member l e ms) d h clean =
    let parts = neither (has_float e) (members_have_float ms) clean in
    get_clean_at (slice_cmp nat_cmp k l) e d (get_member k ms) h parts.0 (λ rest. get_clean k ms d rest parts.1)

put_clean_at : (o : Ordering) (k l : List ℕ) (d e : Data) (ms rest : Members) → has_float d ≡ false → has_float e ≡ false → members_have_float ms ≡ false → members_have_float rest ≡ false
    → members_have_float (match_ordering o (member k d (member l e ms)) (member l d ms) (member l e rest)) ≡ false
put_clean_at Less k l d e ms rest one other old new = both _ _ one (both _ _ other old)
put_clean_at Equal k l d e ms rest one other old new = both _ _ one old
put_clean_at Greater k l d e ms rest one other old new = both _ _ other new

pub put_clean : (k : List ℕ) (d : Data) (ms : Members) → has_float d ≡ false → members_have_float ms ≡ false → members_have_float (put k d ms) ≡ false
put_clean k d no_members one old = both _ _ one refl
put_clean k d (member l e ms) one old =
    let parts = neither (has_float e) (members_have_float ms) old in
    put_clean_at (slice_cmp nat_cmp k l) k l d e ms (put k d ms) one parts.0 parts.1 (put_clean k d ms one parts.1)

put_some_clean : (k : List ℕ) (o : Option Data) (ms : Members) → ((d : Data) → o ≡ Some d → has_float d ≡ false) → members_have_float ms ≡ false → members_have_float (put_some k o ms) ≡ false
put_some_clean k None ms one old = old
put_some_clean k (Some d) ms one old = put_clean k d ms (one d refl) old

pub keys_clean : (names : List (List ℕ)) (ms : Members) → members_have_float ms ≡ false → members_have_float (keys_in names ms) ≡ false
keys_clean [] ms clean = refl
keys_clean (k ∷ ks) ms clean = put_some_clean k (get_member k ms) (keys_in ks ms) (λ d is. get_clean k ms d is clean) (keys_clean ks ms clean)
