-- What is written of a set of well-typed paths reads as this set.
use Rattle.std.proofs.Common.{◌≡◌, ℕ, zero, suc, ◌<◌, Bool, true, false, cond, not, ◌&&◌, List, [], ◌∷◌, length, None, is_some, Ordering, Less, Equal, Greater, Ok, Err, refl, sym, ap, ap₂, ◌∙◌, true≢false, arith, nat_cmp}
use Rattle.std.specs.Prelude.{nat_le}
use Rattle.std.specs.Cmp.Lexicographic.{slice_cmp}
use Rattle.std.specs.FinMap as fin
use Rattle.std.specs.List.{AllByRecursion, list_any}
use Rattle.std.specs.Ordering.{match_ordering}
use Rattle.std.specs.Str.{bytes_eq}
use Rattle.serde_json.specs.Data.{Data, object, Members, no_members, member, put}
use Rattle.serde_json.proofs.Views.{get_member-put}
use Rattle.fieldpath.specs.Paths.{PathTexts}
use Rattle.pathmap.specs.Contents.{Content, PathSet, dom, gather, marked, over}
use Rattle.pathmap.specs.Insides.{heads, inside}
use Rattle.pathmap.proofs.Contents.{nothing-over}
use Rattle.pathmap.specs.Levels.{has_path}
use Rattle.pathmap.proofs.Heads.{some_path}
use Rattle.pathmap.proofs.Insides.{get-inside}
use Rattle.pathmap.proofs.Order.{dom-marked, get-marked, is_marked}
use Rattle.json_values.specs.Members.{has}
use Rattle.schema.specs.Lawful.{depth_limit, depth_of, is_granular_struct, is_lawful, is_type_shape, is_well_formed}
use Rattle.schema.specs.Shape.{Shape, text, whole, truth, struct_of, map_of, list_of}
use Rattle.schema.specs.Steps.{TypeRef, value_of, set_item, map_item, is_leaf}
use Rattle.fieldset.specs.FieldsV1Laws.{WrittenIsRead}
use Rattle.fieldset.specs.FieldsV1.{each, leaf, members_of, put_names, with_item, Reading, and_then, dot, is_empty, joined, not_canonical, read_at, read_members, top}
use Rattle.fieldset.proofs.Prefixes.{IsGood, IsWellTypedAt, Reaches, all_lead, base-each, base_at, first_of, good_next, inner_at, inner_of, members_at, none_some, second_of}
use Rattle.fieldset.proofs.Marks.{IsRead, dot_marks, each_read, has_all, keys_mark, marked_read, no_dot}
use Rattle.schema.proofs.Places.{item_next_none, leaf_next, next, place-here}
use Rattle.fieldset.proofs.Splits.{IsBounded, IsMarks, absent, bounded, each_inside, mark_when, marks_inside, split, total}

-- ---- where something stands

heads_or_top : (c : Content) → has_path c ≡ true → heads c ≡ [] → is_some (fin.get c []) ≡ true
heads_or_top c has none = let q = some_path c has in by_path q.0 q.1
  where
    by_path : (q : PathTexts) → is_some (fin.get c q) ≡ true → is_some (fin.get c []) ≡ true
    by_path [] is = is
    by_path (g ∷ t) is = absurd (true≢false (sym is ∙ ap is_some (absent c g t (ap (list_any (bytes_eq g)) none))))

none_lead : (type_ref : TypeRef) (c : Content) → ((e : List ℕ) → next type_ref e ≡ None) → (hs : List (List ℕ)) → AllByRecursion (Reaches type_ref c) hs → hs ≡ []
none_lead type_ref c none [] h = refl
none_lead type_ref c none (e ∷ hs) h = absurd (none_some h.0.0 (sym (none e) ∙ h.0.1))

not_empty : (f : List ℕ → Members) (hs : List (List ℕ)) → (hs ≡ [] → ⊥) → is_empty (each f hs) ≡ false
not_empty f [] some = absurd (some refl)
not_empty f (e ∷ hs) some = refl

put_not_empty : (k : List ℕ) (d : Data) (ms : Members) → is_empty (put k d ms) ≡ false
put_not_empty k d no_members = refl
put_not_empty k d (member l e ms) = by_order (slice_cmp nat_cmp k l)
  where
    by_order : (o : Ordering) → is_empty (match_ordering o (member k d (member l e ms)) (member l d ms) (member l e (put k d ms))) ≡ false
    by_order Less = refl
    by_order Equal = refl
    by_order Greater = refl

-- ---- one level

module _ (c : Content) (marks : IsMarks c) (has_one : has_path c ≡ true) where
  closes : (b lacks : Bool) (read : Reading) → lacks ≡ false → b ≡ is_some (fin.get c []) → read ≡ Ok (gather (each_inside c (heads c))) → cond lacks (Err not_canonical) (joined (Ok (top b)) read) ≡ Ok c
  closes b lacks read none is reads = ap (λ x. cond x (Err not_canonical) (joined (Ok (top b)) read)) none ∙ ap₂ (λ t r. joined (Ok (top t)) r) is reads ∙ ap Ok (split c marks)

  no_top : is_some (fin.get c []) ≡ false → heads c ≡ [] → ⊥
  no_top none no_heads = true≢false (sym (heads_or_top c has_one no_heads) ∙ none)

  module _ (type_ref : TypeRef) (lead : AllByRecursion (Reaches type_ref c) (heads c)) (facts : AllByRecursion (IsRead type_ref (inner_of type_ref c) c) (heads c)) (base : base_at type_ref c ≡ each (inner_of type_ref c) (heads c)) where
    base_read : (beside : Members) → read_members type_ref beside (base_at type_ref c) ≡ Ok (gather (each_inside c (heads c)))
    base_read beside = ap (read_members type_ref beside) base ∙ each_read type_ref beside (inner_of type_ref c) c (heads c) facts

    base_some : is_some (fin.get c []) ≡ false → is_empty (base_at type_ref c) ≡ false
    base_some none = ap is_empty base ∙ not_empty (inner_of type_ref c) (heads c) (no_top none)

    base_no_dot : has dot (base_at type_ref c) ≡ false
    base_no_dot = ap (has dot) base ∙ no_dot type_ref (base_at type_ref c) (inner_of type_ref c) c (heads c) facts

  prefix : (type_ref : TypeRef) → IsWellTypedAt type_ref c → AllByRecursion (Reaches type_ref c) (heads c) → AllByRecursion (IsRead type_ref (inner_of type_ref c) c) (heads c) → base_at type_ref c ≡ each (inner_of type_ref c) (heads c)
      → read_at type_ref (object (members_at type_ref c)) ≡ Ok c
  prefix (value_of s) well_typed lead facts base = by_leaf (is_leaf s) refl
    where
      reads : read_members (value_of s) (members_of s c) (members_of s c) ≡ Ok (gather (each_inside c (heads c)))
      reads = base_read (value_of s) lead facts base (members_of s c)

      by_top : (b : Bool) → is_some (fin.get c []) ≡ b → is_leaf s ≡ false → b ≡ false
      by_top true is h = absurd (true≢false (sym (well_typed [] is) ∙ place-here s ∙ h))
      by_top false is h = refl

      by_leaf : (b : Bool) → is_leaf s ≡ b → cond (not b && is_empty (members_of s c)) (Err not_canonical) (joined (Ok (top b)) (read_members (value_of s) (members_of s c) (members_of s c))) ≡ Ok c
      by_leaf true h = closes true false (read_members (value_of s) (members_of s c) (members_of s c)) refl (sym (heads_or_top c has_one (none_lead (value_of s) c (leaf_next s h) (heads c) lead))) reads
      by_leaf false h =
          let none = by_top (is_some (fin.get c [])) refl h in
          closes false (is_empty (members_of s c)) (read_members (value_of s) (members_of s c) (members_of s c)) (base_some (value_of s) lead facts base none) (sym none) reads
  prefix set_item well_typed lead facts base =
      closes true false (read_members set_item no_members no_members) refl (sym (heads_or_top c has_one (none_lead set_item c item_next_none (heads c) lead))) (base_read set_item lead facts base no_members)
  prefix (map_item names all) well_typed lead facts base = by_mark (is_some (fin.get c [])) refl
    where
      by_mark : (b : Bool) → is_some (fin.get c []) ≡ b → read_at (map_item names all) (object (with_item b names (members_of (struct_of all false) c))) ≡ Ok c
      by_mark true h =
          let below = members_of (struct_of all false) c in
          let written = put dot leaf (put_names names below) in
          let dotted : has dot written ≡ true = ap is_some (get_member-put dot leaf (put_names names below)) in
          closes (has dot written) (is_empty written) (read_members (map_item names all) written written) (put_not_empty dot leaf (put_names names below)) (dotted ∙ sym h)
          (marked_read (map_item names all) written names (dot_marks names all written (has_all names below)) (keys_mark names all written dotted) below (gather (each_inside c (heads c))) (base_read (map_item names all) lead facts base written))
      by_mark false h =
          let below = members_of (struct_of all false) c in
          closes (has dot below) (is_empty below) (read_members (map_item names all) below below) (base_some (map_item names all) lead facts base h) (base_no_dot (map_item names all) lead facts base ∙ sym h) (base_read (map_item names all) lead facts base below)

-- ---- all levels, by how long the paths are

abbrev Reads : ℕ → Type 0
Reads n = (type_ref : TypeRef) → IsGood type_ref → (c : Content) → IsBounded n c → IsWellTypedAt type_ref c → IsMarks c → has_path c ≡ true → read_at type_ref (object (members_at type_ref c)) ≡ Ok c

reads_all : (n : ℕ) → Reads n → (type_ref : TypeRef) → IsGood type_ref → (c : Content) → IsBounded (suc n) c → IsMarks c → (hs : List (List ℕ)) → AllByRecursion (Reaches type_ref c) hs → AllByRecursion (IsRead type_ref (inner_of type_ref c) c) hs
reads_all n reads type_ref good c bounds marks [] h = tt
reads_all n reads type_ref good c bounds marks (e ∷ hs) h = (
  (h.0.0, h.0.1, ap (λ o. read_at h.0.0 (object (inner_at o (inside e c)))) h.0.1 ∙ reads h.0.0 (good_next type_ref good e h.0.0 h.0.1) (inside e c) shorter h.0.3 (marks_inside c e marks) h.0.2),
  reads_all n reads type_ref good c bounds marks hs h.1,
)
  where
    shorter : IsBounded n (inside e c)
    shorter q is =
        let short : length (e ∷ q) < suc n = bounds (e ∷ q) (ap is_some (sym (get-inside e c q)) ∙ is) in
        omega (arith, short)

reads : (n : ℕ) → Reads n
reads zero type_ref good c bounds well_typed marks has_one =
    let q = some_path c has_one in
    let short : length q.0 < 0 = bounds q.0 q.1 in
    absurd (omega (arith, short))
reads (suc n) type_ref good c bounds well_typed marks has_one =
    let lead = all_lead type_ref c well_typed in
    prefix c marks has_one type_ref well_typed lead (reads_all n (reads n) type_ref good c bounds marks (heads c) lead) (base-each type_ref good c lead)

-- ---- at the root

not_leaf : (s : Shape) → is_granular_struct s ≡ true → is_leaf s ≡ false
not_leaf (struct_of all true) h = absurd (true≢false (sym h))
not_leaf (struct_of all false) h = refl
not_leaf text h = absurd (true≢false (sym h))
not_leaf whole h = absurd (true≢false (sym h))
not_leaf truth h = absurd (true≢false (sym h))
not_leaf (map_of s a) h = absurd (true≢false (sym h))
not_leaf (list_of s kind) h = absurd (true≢false (sym h))

pub type_not_leaf : (s : Shape) → is_type_shape s ≡ true → is_leaf s ≡ false
type_not_leaf s h = not_leaf s (first_of (is_granular_struct s) (is_lawful s) h)

pub type_good : (s : Shape) → is_type_shape s ≡ true → is_well_formed s ≡ true
type_good s h = first_of (is_well_formed s) (nat_le (depth_of s) (depth_limit s)) (second_of (is_granular_struct s) (is_lawful s) h)

pub marked_marks : (paths : PathSet) → IsMarks (marked paths)
marked_marks paths p = get-marked paths p ∙ ap mark_when (sym (is_marked paths p))

pub written : WrittenIsRead
written s paths type_shape well_typed =
    let c = marked paths in
    let well_typed_c : IsWellTypedAt (value_of s) c = λ p is. well_typed p (sym (is_marked paths p) ∙ is) in
    let good = type_good s type_shape in
    let lead = all_lead (value_of s) c well_typed_c in
    let n = total (fin.keys c) in
    let facts = reads_all n (reads n) (value_of s) good c (bounded c) (marked_marks paths) (heads c) lead in
    let read : read_members (value_of s) (members_of s c) (members_of s c) ≡ Ok (gather (each_inside c (heads c))) =
    ap (read_members (value_of s) (members_of s c)) (base-each (value_of s) good c lead) ∙ each_read (value_of s) (members_of s c) (inner_of (value_of s) c) c (heads c) facts in
    let whole_is : gather (each_inside c (heads c)) ≡ c =
    sym (nothing-over (gather (each_inside c (heads c)))) ∙ ap (λ b. over (top b) (gather (each_inside c (heads c)))) (sym (no_top_here c well_typed_c)) ∙ split c (marked_marks paths) in
    ap (λ r. and_then r (λ d. Ok (dom d))) read ∙ ap (λ d. Ok (dom d)) whole_is ∙ ap Ok (dom-marked paths)
  where
    no_top_here : (c : Content) → IsWellTypedAt (value_of s) c → is_some (fin.get c []) ≡ false
    no_top_here c well_typed_c = by_top (is_some (fin.get c [])) refl
      where
        by_top : (b : Bool) → is_some (fin.get c []) ≡ b → b ≡ false
        by_top true is = absurd (true≢false (sym (well_typed_c [] is) ∙ place-here s ∙ type_not_leaf s type_shape))
        by_top false is = refl
