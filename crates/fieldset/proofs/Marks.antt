-- What the reader makes of members: of elements, and of those that mark an item of a map list.
use Rattle.std.proofs.Common.{◌≡◌, ℕ, Bool, true, false, cond, ◌&&◌, ◌||◌, is_eq, nat_cmp, List, [], ◌∷◌, Some, None, is_some, option_map, Ordering, Less, Equal, Greater, Result, Ok, Err, refl, sym, ap, ap₂, ◌∙◌, true≢false, subst}
use Rattle.std.specs.Cmp.Lexicographic.{slice_cmp}
use Rattle.std.specs.List.{AllByRecursion, list_any, list_all}
use Rattle.std.specs.Ordering.{match_ordering}
use Rattle.std.specs.Str.{bytes_eq}
use Rattle.std.proofs.lemmas.Slice.Eq.{bytes_eq-Decides}
use Rattle.serde_json.specs.Data.{Data, null, boolean, number, string, array, object, Members, no_members, member, put}
use Rattle.serde_json.specs.Find.{get_member}
use Rattle.serde_json.proofs.Views.{get_member-put, get_member-put_other}
use Rattle.fieldpath.specs.Elements.{Element, NoElement, name_text, no_prefix, read_element}
use Rattle.fieldpath.specs.Elements as element
use Rattle.pathmap.specs.Contents.{Content, nothing, over, gather}
use Rattle.pathmap.specs.Insides.{inside}
use Rattle.pathmap.proofs.Trees.{ties}
use Rattle.json_values.specs.Members.{has}
use Rattle.schema.specs.Shape.{Fields, shape_at}
use Rattle.schema.specs.Steps.{TypeRef, value_of, set_item, map_item, step}
use Rattle.fieldset.specs.FieldsV1.{each, leaf, put_names, Reading, Refusal, and_then, dot, element_in, has_keys, is_empty, is_key_field, joined, may_have_dot, not_canonical, off_schema, read_at, read_below, read_mark, read_member, read_members, some_or}
use Rattle.fieldset.proofs.Prefixes.{none_some}
use Rattle.schema.proofs.Places.{next, step_read}
use Rattle.fieldset.proofs.Splits.{each_inside}
use Rattle.fieldset.proofs.Taking.{joined-nothing}

abbrev pub content_or : Content → Reading → Content
content_or c (Ok d) = d
content_or c (Err e) = c

abbrev is_ok : Reading → Bool
is_ok (Ok d) = true
is_ok (Err e) = false

pub not_ok : (e : Refusal) (c : Content) → Err e ≡ Ok c → ⊥
not_ok e c h = true≢false (sym (ap is_ok h))

pub same_ok : (c d : Content) → (let r : Reading = Ok c in r) ≡ Ok d → c ≡ d
same_ok c d h = ap (content_or c) h

abbrev pub Parts : Reading → Reading → Content → Type 0
Parts a b x = (c : Content) × (d : Content) × (a ≡ Ok c) × (b ≡ Ok d) × (over c d ≡ x)

pub joined_parts : (a b : Reading) (x : Content) → joined a b ≡ Ok x → Parts a b x
joined_parts (Err e) b x h = absurd (not_ok e x h)
joined_parts (Ok c) (Err e) x h = absurd (not_ok e x h)
joined_parts (Ok c) (Ok d) x h = (c, d, refl, refl, same_ok (over c d) x h)

-- ---- members that are elements

dot_none : read_element dot ≡ Err no_prefix
unfolding read_element
dot_none = refl

pub dot_next : (type_ref : TypeRef) → next type_ref dot ≡ None
dot_next type_ref = ap (step_read type_ref) dot_none

no_key : (type_ref : TypeRef) (e : Element) (p : TypeRef) → step type_ref e ≡ Some p → is_key_field type_ref e ≡ false
no_key (value_of s) e p h = refl
no_key set_item e p h = refl
no_key (map_item names all) (element.key ks) p h = refl
no_key (map_item names all) (element.value v) p h = refl
no_key (map_item names all) (element.field f) p h = by_key (list_any (bytes_eq f) names) h
  where
    by_key : (b : Bool) → cond b None (option_map value_of (shape_at f all)) ≡ Some p → b ≡ false
    by_key true h = absurd (none_some p h)
    by_key false h = refl

pub not_dot : (type_ref : TypeRef) (k : List ℕ) (p : TypeRef) → next type_ref k ≡ Some p → bytes_eq k dot ≡ false
not_dot type_ref k p is = by_test (bytes_eq k dot) refl
  where
    by_test : (b : Bool) → bytes_eq k dot ≡ b → b ≡ false
    by_test true h = absurd (none_some p (sym (dot_next type_ref) ∙ ap (next type_ref) (sym ((bytes_eq-Decides k dot).0 h)) ∙ is))
    by_test false h = refl

pub mark_nothing : (b : Bool) (d : Data) (x : Content) → read_mark b d ≡ Ok x → nothing ≡ x
mark_nothing b null x h = absurd (not_ok _ x h)
mark_nothing b (boolean t) x h = absurd (not_ok _ x h)
mark_nothing b (number n) x h = absurd (not_ok _ x h)
mark_nothing b (string s) x h = absurd (not_ok _ x h)
mark_nothing b (array ds) x h = absurd (not_ok _ x h)
mark_nothing b (object ms) x h = by_test (b && is_empty ms) h
  where
    by_test : (t : Bool) → cond t (Ok nothing) (Err not_canonical) ≡ Ok x → nothing ≡ x
    by_test true h = same_ok nothing x h
    by_test false h = absurd (not_ok not_canonical x h)

-- what is written inside an element reads as what stands there
abbrev pub IsRead : TypeRef → (List ℕ → Members) → Content → List ℕ → Type 0
IsRead type_ref f c e = (p : TypeRef) × (next type_ref e ≡ Some p) × (read_at p (object (f e)) ≡ Ok (inside e c))

module _ (type_ref : TypeRef) (beside : Members) where
  pub element_read : (k : List ℕ) (d : Data) (inner : TypeRef → Reading) (p : TypeRef) → next type_ref k ≡ Some p → read_member type_ref beside k d inner ≡ read_below k (inner p)
  element_read k d inner p is =
      ap (λ b. cond b (read_mark (may_have_dot type_ref beside) d) (and_then (element_in (read_element k)) (λ e. cond (is_key_field type_ref e) (read_mark (has dot beside) d) (and_then (some_or off_schema (step type_ref e)) (λ n. read_below k (inner n))))))
      (not_dot type_ref k p is)
      ∙ by_read (read_element k) is
    where
      by_read : (r : Result Element NoElement) → step_read type_ref r ≡ Some p
          → and_then (element_in r) (λ e. cond (is_key_field type_ref e) (read_mark (has dot beside) d) (and_then (some_or off_schema (step type_ref e)) (λ n. read_below k (inner n)))) ≡ read_below k (inner p)
      by_read (Err n) h = absurd (none_some p h)
      by_read (Ok e) h =
          ap (λ b. cond b (read_mark (has dot beside) d) (and_then (some_or off_schema (step type_ref e)) (λ n. read_below k (inner n)))) (no_key type_ref e p h) ∙ ap (λ o. and_then (some_or off_schema o) (λ n. read_below k (inner n))) h

  module _ (f : List ℕ → Members) (c : Content) where
    pub each_read : (hs : List (List ℕ)) → AllByRecursion (IsRead type_ref f c) hs → read_members type_ref beside (each f hs) ≡ Ok (gather (each_inside c hs))
    each_read [] h = refl
    each_read (e ∷ hs) h =
        ap₂ joined (element_read e (object (f e)) (λ n. read_at n (object (f e))) h.0.0 h.0.1 ∙ ap (read_below e) h.0.2) (each_read hs h.1)

    pub no_dot : (hs : List (List ℕ)) → AllByRecursion (IsRead type_ref f c) hs → has dot (each f hs) ≡ false
    no_dot [] h = refl
    no_dot (e ∷ hs) h = later (slice_cmp nat_cmp dot e) (differ (not_dot type_ref e h.0.0 h.0.1)) (no_dot hs h.1)
      where
        differ : bytes_eq e dot ≡ false → is_eq (slice_cmp nat_cmp dot e) ≡ false
        differ h = by_test (is_eq (slice_cmp nat_cmp dot e)) refl
          where
            by_test : (b : Bool) → is_eq (slice_cmp nat_cmp dot e) ≡ b → b ≡ false
            by_test true is = absurd (true≢false (sym ((bytes_eq-Decides e dot).1 (sym (ties dot e is))) ∙ h))
            by_test false is = refl

        later : (o : Ordering) → is_eq o ≡ false → has dot (each f hs) ≡ false → is_some (match_ordering o (get_member dot (each f hs)) (Some (object (f e))) (get_member dot (each f hs))) ≡ false
        later Less apart rest = rest
        later Equal apart rest = absurd (true≢false apart)
        later Greater apart rest = rest

  -- ---- members that mark an item

  abbrev pub IsMarking : List ℕ → Type 0
  IsMarking k = (d : Data) (inner : TypeRef → Reading) → read_member type_ref beside k d inner ≡ read_mark true d

  put_read : (k : List ℕ) → IsMarking k → (ms : Members) (x : Content) → read_members type_ref beside ms ≡ Ok x → read_members type_ref beside (put k leaf ms) ≡ Ok x
  put_read k marks no_members x h = ap (λ r. joined r (Ok nothing)) (marks leaf (λ n. read_at n leaf)) ∙ joined-nothing (Ok nothing) ∙ h
  put_read k marks (member l e ms) x h = by_order (put_read k marks ms) (slice_cmp nat_cmp k l) refl
    where
      by_order : ((y : Content) → read_members type_ref beside ms ≡ Ok y → read_members type_ref beside (put k leaf ms) ≡ Ok y) → (o : Ordering) → slice_cmp nat_cmp k l ≡ o
          → read_members type_ref beside (match_ordering o (member k leaf (member l e ms)) (member l leaf ms) (member l e (put k leaf ms))) ≡ Ok x
      by_order later Less o = ap (λ r. joined r (read_members type_ref beside (member l e ms))) (marks leaf (λ n. read_at n leaf)) ∙ joined-nothing (read_members type_ref beside (member l e ms)) ∙ h
      by_order later Equal o =
          let same : k ≡ l = ties k l (ap is_eq o) in
          let here : IsMarking l = subst IsMarking same marks in
          let parts = joined_parts (read_member type_ref beside l e (λ n. read_at n e)) (read_members type_ref beside ms) x h in
          let none : nothing ≡ parts.0 = mark_nothing true e parts.0 (sym (here e (λ n. read_at n e)) ∙ parts.2) in
          ap₂ joined (here leaf (λ n. read_at n leaf)) parts.3 ∙ ap (λ y. Ok (over y parts.1)) none ∙ ap Ok parts.4
      by_order later Greater o =
          let parts = joined_parts (read_member type_ref beside l e (λ n. read_at n e)) (read_members type_ref beside ms) x h in
          ap₂ joined parts.2 (later parts.1 parts.3) ∙ ap Ok parts.4

  names_read : (names : List (List ℕ)) → AllByRecursion (λ n. IsMarking (name_text n)) names → (ms : Members) (x : Content) → read_members type_ref beside ms ≡ Ok x → read_members type_ref beside (put_names names ms) ≡ Ok x
  names_read [] marks ms x h = h
  names_read (n ∷ ns) marks ms x h = names_read ns marks.1 (put (name_text n) leaf ms) x (put_read (name_text n) marks.0 ms x h)

  pub marked_read : (names : List (List ℕ)) → IsMarking dot → AllByRecursion (λ n. IsMarking (name_text n)) names → (ms : Members) (x : Content) → read_members type_ref beside ms ≡ Ok x
      → read_members type_ref beside (put dot leaf (put_names names ms)) ≡ Ok x
  marked_read names dots marks ms x h = put_read dot dots (put_names names ms) x (names_read names marks ms x h)

-- ---- an item that is written with its marks has them

has_put : (k l : List ℕ) (d : Data) (ms : Members) → has k ms ≡ true → has k (put l d ms) ≡ true
has_put k l d ms h = by_test (bytes_eq k l) refl
  where
    by_test : (b : Bool) → bytes_eq k l ≡ b → has k (put l d ms) ≡ true
    by_test true is = let same = (bytes_eq-Decides k l).0 is in ap (λ x. is_some (get_member x (put l d ms))) same ∙ ap is_some (get_member-put l d ms)
    by_test false is = ap is_some (get_member-put_other k l d ms (λ same. true≢false (sym ((bytes_eq-Decides k l).1 same) ∙ is))) ∙ h

has_names : (k : List ℕ) (names : List (List ℕ)) (ms : Members) → has k ms ≡ true → has k (put_names names ms) ≡ true
has_names k [] ms h = h
has_names k (n ∷ ns) ms h = has_names k ns (put (name_text n) leaf ms) (has_put k (name_text n) leaf ms h)

all_names : (more : List (List ℕ)) (ms : Members) → AllByRecursion (λ n. has (name_text n) (put dot leaf (put_names more ms)) ≡ true) more
all_names [] ms = tt
all_names (n ∷ ns) ms = (
  has_put (name_text n) dot leaf (put_names ns (put (name_text n) leaf ms)) (has_names (name_text n) ns (put (name_text n) leaf ms) (ap is_some (get_member-put (name_text n) leaf ms))),
  all_names ns (put (name_text n) leaf ms),
)

all_of : (p : List ℕ → Bool) (ns : List (List ℕ)) → AllByRecursion (λ n. p n ≡ true) ns → list_all p ns ≡ true
all_of p [] h = refl
all_of p (n ∷ ns) h = ap₂ (λ a b. a && b) h.0 (all_of p ns h.1)

pub has_all : (names : List (List ℕ)) (ms : Members) → has_keys names (put dot leaf (put_names names ms)) ≡ true
has_all names ms = all_of (λ n. has (name_text n) (put dot leaf (put_names names ms))) names (all_names names ms)

among : (ns : List (List ℕ)) → AllByRecursion (λ n. list_any (bytes_eq n) ns ≡ true) ns
among ns = wider ns ns (λ g h. h)
  where
    or_true : (b : Bool) → (b || true) ≡ true
    or_true true = refl
    or_true false = refl

    wider : (xs ys : List (List ℕ)) → ((g : List ℕ) → list_any (bytes_eq g) xs ≡ true → list_any (bytes_eq g) ys ≡ true) → AllByRecursion (λ n. list_any (bytes_eq n) ys ≡ true) xs
    wider [] ys h = tt
    wider (x ∷ xs) ys h = (
      h x (ap (λ b. b || list_any (bytes_eq x) xs) ((bytes_eq-Decides x x).1 refl)),
      wider xs ys (λ g is. h g (ap (λ b. bytes_eq g x || b) is ∙ or_true (bytes_eq g x))),
    )

module _ (names : List (List ℕ)) (all : Fields) (beside : Members) where
  pub dot_marks : has_keys names beside ≡ true → IsMarking (map_item names all) beside dot
  dot_marks has_all d inner = ap (λ b. read_mark b d) has_all

  key_marks : has dot beside ≡ true → (n : List ℕ) → list_any (bytes_eq n) names ≡ true → IsMarking (map_item names all) beside (name_text n)
  unfolding name_text read_element
  key_marks has_dot n is d inner =
      ap (λ b. cond b (read_mark (has dot beside) d) (and_then (some_or off_schema (cond b None (option_map value_of (shape_at n all)))) (λ next. read_below (name_text n) (inner next)))) is ∙ ap (λ b. read_mark b d) has_dot

  pub keys_mark : has dot beside ≡ true → AllByRecursion (λ n. IsMarking (map_item names all) beside (name_text n)) names
  keys_mark has_dot = each_of names (among names)
    where
      each_of : (ns : List (List ℕ)) → AllByRecursion (λ n. list_any (bytes_eq n) names ≡ true) ns → AllByRecursion (λ n. IsMarking (map_item names all) beside (name_text n)) ns
      each_of [] h = tt
      each_of (n ∷ ns) h = (key_marks has_dot n h.0, each_of ns h.1)
