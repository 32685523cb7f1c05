-- What reads at a leaf of a shape reads as the same at one of a shape that it may become.
use Rattle.std.proofs.Common.{◌≡◌, ℕ, suc, Bool, true, false, cond, ◌&&◌, List, [], Ok, Err, inl, inr, sym, ap, ◌∙◌, subst}
use Rattle.std.specs.Str.{bytes_eq}
use Rattle.std.proofs.lemmas.Bool.{and_parts}
use Rattle.std.proofs.lemmas.Slice.Eq.{bytes_eq-Decides}
use Rattle.serde_json.specs.Data.{Data, null, boolean, number, string, array, object, Items, no_items, item, Members, no_members, member}
use Rattle.serde_json.specs.Find.{as_array, as_object}
use Rattle.schema.specs.Lawful.{names_of, item_is_lawful, is_well_formed, are_well_formed}
use Rattle.fieldpath.specs.Scalars.{ascend}
use Rattle.schema.specs.Shape.{Kind, atomic, set, keyed, Shape, text, whole, truth, struct_of, map_of, list_of, Fields, no_fields, field}
use Rattle.schema.specs.Becoming.{becomes, fields_become}
use Rattle.typed.specs.declared.fault.Cause.TheVariants.{NotAnObject, WrongType, KeyFieldMissing}
use Rattle.typed.specs.Faults.{Read, below, and_then, some_or, shown_name, shown_place}
use Rattle.typed.specs.WellTyped.{IsAtomic}
use Rattle.typed.specs.Reading.{is_null, plain_members, plain_items, plain_item, plain_of, plain_of_field, have_keys}
use Rattle.typed.proofs.Floats.{err_not_ok, below_ok, and_then_ok, either_ok}
use Rattle.pathmap.specs.Contents.{Content}
use Rattle.typed.proofs.PlainPrinted.{null_read}
use Rattle.typed.proofs.SameShapes.{ListTo, MapTo, list_to, map_to, never, same_shape}

-- what the one reads, the other reads too
abbrev pub Follows : (Data → Read Data) → (Data → Read Data) → Type 0
Follows inner outer = (d x : Data) → inner d ≡ Ok x → outer d ≡ Ok x

-- ---- members

module _ (inner outer : List ℕ → Data → Read Data) (follows : (k : List ℕ) → Follows (inner k) (outer k)) where
  members_follow : (ms ns : Members) → plain_members inner ms ≡ Ok ns → plain_members outer ms ≡ Ok ns
  members_follow no_members ns h = h
  members_follow (member k d ms) ns h = by_null (is_null d) h (members_follow ms)
    where
      by_null : (b : Bool) → cond b (plain_members inner ms) (and_then (below (shown_name k) (λ x. x) (inner k d)) (λ x. below [] (member k x) (plain_members inner ms))) ≡ Ok ns
          → ((more : Members) → plain_members inner ms ≡ Ok more → plain_members outer ms ≡ Ok more)
          → cond b (plain_members outer ms) (and_then (below (shown_name k) (λ x. x) (outer k d)) (λ x. below [] (member k x) (plain_members outer ms))) ≡ Ok ns
      by_null true h later = later ns h
      by_null false h later =
          let one = and_then_ok (below (shown_name k) (λ x. x) (inner k d)) (λ x. below [] (member k x) (plain_members inner ms)) ns h in
          let found = below_ok (shown_name k) (λ x. x) (inner k d) one.0 one.1 in
          let more = below_ok [] (member k one.0) (plain_members inner ms) ns one.2 in
          ap (λ r. and_then (below (shown_name k) (λ x. x) r) (λ x. below [] (member k x) (plain_members outer ms))) (follows k d found.0 found.1)
          ∙ ap (below [] (member k found.0)) (later more.0 more.1) ∙ sym (ap Ok (more.2 ∙ ap (λ x. member k x more.0) found.2))

  object_follows : (d x : Data) → and_then (some_or NotAnObject (as_object d)) (λ ms. below [] object (plain_members inner ms)) ≡ Ok x → and_then (some_or NotAnObject (as_object d)) (λ ms. below [] object (plain_members outer ms)) ≡ Ok x
  object_follows null x h = absurd (err_not_ok _ x h)
  object_follows (boolean b) x h = absurd (err_not_ok _ x h)
  object_follows (number n) x h = absurd (err_not_ok _ x h)
  object_follows (string s) x h = absurd (err_not_ok _ x h)
  object_follows (array ds) x h = absurd (err_not_ok _ x h)
  object_follows (object ms) x h =
      let made = below_ok [] object (plain_members inner ms) x h in ap (below [] object) (members_follow ms made.0 made.1) ∙ sym (ap Ok made.2)

-- ---- items

module _ (inner outer : Data → Read Data) (follows : Follows inner outer) where
  items_follow : (i : ℕ) (ds es : Items) → plain_items inner i ds ≡ Ok es → plain_items outer i ds ≡ Ok es
  items_follow i no_items es h = h
  items_follow i (item d ds) es h =
      let one = and_then_ok (below (shown_place i) (λ x. x) (inner d)) (λ x. below [] (item x) (plain_items inner (suc i) ds)) es h in
      let found = below_ok (shown_place i) (λ x. x) (inner d) one.0 one.1 in
      let more = below_ok [] (item one.0) (plain_items inner (suc i) ds) es one.2 in
      ap (λ r. and_then (below (shown_place i) (λ x. x) r) (λ x. below [] (item x) (plain_items outer (suc i) ds))) (follows d found.0 found.1)
      ∙ ap (below [] (item found.0)) (items_follow (suc i) ds more.0 more.1) ∙ sym (ap Ok (more.2 ∙ ap (λ x. item x more.0) found.2))

  array_follows : (d x : Data) → and_then (some_or WrongType (as_array d)) (λ ds. below [] array (plain_items inner 0 ds)) ≡ Ok x → and_then (some_or WrongType (as_array d)) (λ ds. below [] array (plain_items outer 0 ds)) ≡ Ok x
  array_follows null x h = absurd (err_not_ok _ x h)
  array_follows (boolean b) x h = absurd (err_not_ok _ x h)
  array_follows (number n) x h = absurd (err_not_ok _ x h)
  array_follows (string s) x h = absurd (err_not_ok _ x h)
  array_follows (object ms) x h = absurd (err_not_ok _ x h)
  array_follows (array ds) x h =
      let made = below_ok [] array (plain_items inner 0 ds) x h in ap (below [] array) (items_follow 0 ds made.0 made.1) ∙ sym (ap Ok made.2)

-- an item of a list
abbrev of_kind : Kind → Shape → Data → Read Data
of_kind kind s = plain_item kind (λ e. plain_of s e) (λ ms. plain_of s (object ms))

-- what a list of any kind takes, an atomic one takes
any_kind : (kind : Kind) (s : Shape) → Follows (of_kind kind s) (of_kind atomic s)
any_kind atomic s d x h = h
any_kind set s null x h = absurd (null_read s x h)
any_kind set s (boolean b) x h = h
any_kind set s (number n) x h = h
any_kind set s (string t) x h = h
any_kind set s (array ds) x h = h
any_kind set s (object ms) x h = h
any_kind (keyed names) s null x h = absurd (err_not_ok _ x h)
any_kind (keyed names) s (boolean b) x h = absurd (err_not_ok _ x h)
any_kind (keyed names) s (number n) x h = absurd (err_not_ok _ x h)
any_kind (keyed names) s (string t) x h = absurd (err_not_ok _ x h)
any_kind (keyed names) s (array ds) x h = absurd (err_not_ok _ x h)
any_kind (keyed names) s (object ms) x h = either_ok (plain_of s (object ms) ≡ Ok x) (have_keys names ms) (plain_of s (object ms)) (Err (KeyFieldMissing, [])) x h (λ read. read) (λ wrong. absurd (err_not_ok _ x wrong))

kind_follows : (kind : Kind) (s t : Shape) → Follows (plain_of s) (plain_of t) → Follows (of_kind kind s) (of_kind kind t)
kind_follows set s t follows d x h = follows d x h
kind_follows atomic s t follows null x h = absurd (err_not_ok _ x h)
kind_follows atomic s t follows (boolean b) x h = follows (boolean b) x h
kind_follows atomic s t follows (number n) x h = follows (number n) x h
kind_follows atomic s t follows (string u) x h = follows (string u) x h
kind_follows atomic s t follows (array ds) x h = follows (array ds) x h
kind_follows atomic s t follows (object ms) x h = follows (object ms) x h
kind_follows (keyed names) s t follows null x h = absurd (err_not_ok _ x h)
kind_follows (keyed names) s t follows (boolean b) x h = absurd (err_not_ok _ x h)
kind_follows (keyed names) s t follows (number n) x h = absurd (err_not_ok _ x h)
kind_follows (keyed names) s t follows (string u) x h = absurd (err_not_ok _ x h)
kind_follows (keyed names) s t follows (array ds) x h = absurd (err_not_ok _ x h)
kind_follows (keyed names) s t follows (object ms) x h = by_keys (have_keys names ms) h
  where
    by_keys : (b : Bool) → cond b (plain_of s (object ms)) (Err (KeyFieldMissing, [])) ≡ Ok x → cond b (plain_of t (object ms)) (Err (KeyFieldMissing, [])) ≡ Ok x
    by_keys true h = follows (object ms) x h
    by_keys false h = absurd (err_not_ok _ x h)

-- ---- shapes

-- the same kind of list with other items, or an atomic one with the same items
list_follows : (r : Bool) (was is : Kind) (s t : Shape) → ListTo r was is s t → (becomes r s t ≡ true → Follows (plain_of s) (plain_of t)) → Follows (of_kind was s) (of_kind is t)
list_follows r was is s t (inl stays) inner = subst (λ k. Follows (of_kind was s) (of_kind k t)) stays.0 (kind_follows was s t (inner stays.1))
list_follows r was is s t (inr risen) inner = subst (λ k. Follows (of_kind was s) (of_kind k t)) (sym risen.0) (subst (λ u. Follows (of_kind was s) (of_kind atomic u)) risen.1 (any_kind was s))

map_follows : (r was is : Bool) (s t : Shape) → MapTo r was is s t → (becomes r s t ≡ true → Follows (plain_of s) (plain_of t)) → Follows (plain_of s) (plain_of t)
map_follows r was is s t (inl stays) inner = inner stays.1
map_follows r was is s t (inr risen) inner = subst (λ u. Follows (plain_of s) (plain_of u)) risen.2 (λ d x h. h)

same_follows : (s t : Shape) → s ≡ t → Follows (plain_of s) (plain_of t)
same_follows s t is = subst (λ u. Follows (plain_of s) (plain_of u)) is (λ d x h. h)

mutual
  pub shape_follows : (r : Bool) (s t : Shape) → is_well_formed s ≡ true → is_well_formed t ≡ true → becomes r s t ≡ true → Follows (plain_of s) (plain_of t)
  shape_follows r text t a b h = same_follows text t (same_shape text t a b h)
  shape_follows r whole t a b h = same_follows whole t (same_shape whole t a b h)
  shape_follows r truth t a b h = same_follows truth t (same_shape truth t a b h)
  shape_follows r (struct_of all was) text a b h = never h
  shape_follows r (struct_of all was) whole a b h = never h
  shape_follows r (struct_of all was) truth a b h = never h
  shape_follows r (struct_of all was) (struct_of others is) a b h =
      object_follows (λ k e. plain_of_field all k e) (λ k e. plain_of_field others k e)
      (λ k d x. fields_follow r all others (and_parts (ascend (names_of all)) (are_well_formed all) a).1 (and_parts (ascend (names_of others)) (are_well_formed others) b).1 (and_parts _ (fields_become r all others) h).1 k d x)
  shape_follows r (struct_of all was) (map_of t is) a b h = never h
  shape_follows r (struct_of all was) (list_of t is) a b h = never h
  shape_follows r (map_of s was) text a b h = never h
  shape_follows r (map_of s was) whole a b h = never h
  shape_follows r (map_of s was) truth a b h = never h
  shape_follows r (map_of s was) (struct_of others is) a b h = never h
  shape_follows r (map_of s was) (map_of t is) a b h =
      object_follows (λ k e. plain_of s e) (λ k e. plain_of t e) (λ k. map_follows r was is s t (map_to r was is s t a b h) (λ to d x. shape_follows r s t a b to d x))
  shape_follows r (map_of s was) (list_of t is) a b h = never h
  shape_follows r (list_of s was) text a b h = never h
  shape_follows r (list_of s was) whole a b h = never h
  shape_follows r (list_of s was) truth a b h = never h
  shape_follows r (list_of s was) (struct_of others is) a b h = never h
  shape_follows r (list_of s was) (map_of t is) a b h = never h
  shape_follows r (list_of s was) (list_of t is) a b h =
      array_follows (of_kind was s) (of_kind is t) (list_follows r was is s t (list_to r was is s t a b h)
      (λ to d x. shape_follows r s t (and_parts (item_is_lawful was s) (is_well_formed s) a).1 (and_parts (item_is_lawful is t) (is_well_formed t) b).1 to d x))

  fields_follow : (r : Bool) (fs gs : Fields) → are_well_formed fs ≡ true → are_well_formed gs ≡ true → fields_become r fs gs ≡ true → (k : List ℕ) → Follows (plain_of_field fs k) (plain_of_field gs k)
  fields_follow r no_fields gs a b h k d x read = absurd (err_not_ok _ x read)
  fields_follow r (field f s more) no_fields a b h k d x read = never h
  fields_follow r (field f s more) (field g t rest) a b h k d x read =
      let named = and_parts (bytes_eq f g) (becomes r s t && fields_become r more rest) h in
      let parts = and_parts (becomes r s t) (fields_become r more rest) named.1 in
      let old = and_parts (is_well_formed s) (are_well_formed more) a in
      let new = and_parts (is_well_formed t) (are_well_formed rest) b in
      subst (λ n. cond (bytes_eq n k) (plain_of t d) (plain_of_field rest k d) ≡ Ok x) ((bytes_eq-Decides f g).0 named.0)
      (by_test (bytes_eq f k) read (shape_follows r s t old.0 new.0 parts.0 d x) (fields_follow r more rest old.1 new.1 parts.1 k d x))
    where
      by_test : (b : Bool) → cond b (plain_of s d) (plain_of_field more k d) ≡ Ok x → (plain_of s d ≡ Ok x → plain_of t d ≡ Ok x) → (plain_of_field more k d ≡ Ok x → plain_of_field rest k d ≡ Ok x)
          → cond b (plain_of t d) (plain_of_field rest k d) ≡ Ok x
      by_test true h here later = here h
      by_test false h here later = later h

-- a value that stands at a leaf stands there still
pub atomic_stays : (s t : Shape) (c : Content) → Follows (plain_of s) (plain_of t) → IsAtomic s c → IsAtomic t c
atomic_stays s t c follows (inl none) = inl none
atomic_stays s t c follows (inr (d, plain, reads, is)) = inr (d, follows d d plain, reads, is)
