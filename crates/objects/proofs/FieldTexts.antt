-- The FieldsV1 value of a set of paths is one that its compact text spells.
use Rattle.std.proofs.Common.{◌≡◌, ◌≤◌, ℕ, suc, max, Bool, true, false, cond, nat_cmp, List, [], ◌∷◌, Option, Ordering, Less, Equal, Greater, is_some, refl, ap, ◌∙◌, arith}
use Rattle.std.specs.Prelude.{codes}
use Rattle.std.specs.Cmp.Derive.{both_true}
use Rattle.std.specs.Cmp.Lexicographic.{slice_cmp}
use Rattle.std.specs.FinMap as fin
use Rattle.std.specs.List.{AllByRecursion}
use Rattle.std.specs.Ordering.{is_lt, match_ordering}
use Rattle.serde_json.specs.Data.{Data, Members, no_members, member, put, depth, members_depth}
use Rattle.serde_json.specs.Written.{members_have_float}
use Rattle.fieldpath.specs.Elements.{name_text, field_name}
use Rattle.fieldpath.specs.Scalars.{ascend, ascend_from}
use Rattle.fieldpath.specs.Encodable.{MembersAreEncodable, member_names}
use Rattle.fieldpath.proofs.Encodable.{put_ascend, put_encodable}
use Rattle.fieldset.specs.FieldsV1 as v1
use Rattle.pathmap.specs.Contents.{Content, marked}
use Rattle.pathmap.specs.Insides.{inside, heads}
use Rattle.schema.specs.Lawful.{depth_of, fields_depth}
use Rattle.schema.specs.Shape.{atomic, set, keyed, Shape, text, whole, truth, struct_of, map_of, list_of, Fields, no_fields, field}
use Rattle.objects.specs.FieldTextLaws.{FieldsV1IsTextual}
use Rattle.typed.proofs.Floats.{both, put_clean}
use Rattle.typed.proofs.KeyFields.{AreRising}
use Rattle.typed.proofs.RoundTrip.{heads_rise}
use Rattle.typed.proofs.Spelling.{lawful_depth, textual}

-- members in order, spelled, without floats, and no deeper than n
abbrev pub Fine : ℕ → Members → Type 0
Fine n ms = (ascend (member_names ms) ≡ true) × MembersAreEncodable ms × (members_have_float ms ≡ false) × (members_depth ms ≤ n)

no_deeper : (a b n : ℕ) → a ≤ n → b ≤ n → max a b ≤ n
no_deeper a b n h k = omega (arith, h, k)

one_deeper : (a n : ℕ) → a ≤ n → suc a ≤ suc n
one_deeper a n h = omega (arith, h)

none_deep : (n : ℕ) → 0 ≤ n
none_deep n = omega arith

pub fine_none : (n : ℕ) → Fine n no_members
fine_none n = (refl, tt, refl, none_deep n)

more_deep : (a m n : ℕ) → a ≤ m → m ≤ n → a ≤ n
more_deep a m n h k = omega (arith, h, k)

pub fine_more : (m n : ℕ) (ms : Members) → m ≤ n → Fine m ms → Fine n ms
fine_more m n ms h fine = (fine.0, fine.1, fine.2, more_deep (members_depth ms) m n fine.3 h)

fine_if : (n : ℕ) (b : Bool) (ms ns : Members) → Fine n ms → Fine n ns → Fine n (cond b ms ns)
fine_if n true ms ns h k = h
fine_if n false ms ns h k = k

-- ---- one more

put_depth_at : (n : ℕ) (o : Ordering) (k l : List ℕ) (d e : Data) (ms rest : Members) → depth d ≤ n → depth e ≤ n → members_depth ms ≤ n → members_depth rest ≤ n
    → members_depth (match_ordering o (member k d (member l e ms)) (member l d ms) (member l e rest)) ≤ n
put_depth_at n Less k l d e ms rest one other old new = no_deeper (depth d) _ n one (no_deeper (depth e) (members_depth ms) n other old)
put_depth_at n Equal k l d e ms rest one other old new = no_deeper (depth d) (members_depth ms) n one old
put_depth_at n Greater k l d e ms rest one other old new = no_deeper (depth e) (members_depth rest) n other new

left_deep : (a b n : ℕ) → max a b ≤ n → a ≤ n
left_deep a b n h = omega (arith, h)

right_deep : (a b n : ℕ) → max a b ≤ n → b ≤ n
right_deep a b n h = omega (arith, h)

pub put_depth : (n : ℕ) (k : List ℕ) (d : Data) (ms : Members) → depth d ≤ n → members_depth ms ≤ n → members_depth (put k d ms) ≤ n
put_depth n k d no_members one old = no_deeper (depth d) 0 n one (none_deep n)
put_depth n k d (member l e ms) one old =
    let rest = right_deep (depth e) (members_depth ms) n old in
    put_depth_at n (slice_cmp nat_cmp k l) k l d e ms (put k d ms) one (left_deep (depth e) (members_depth ms) n old) rest (put_depth n k d ms one rest)

fine_leaf : (n : ℕ) (k : List ℕ) (ms : Members) → 1 ≤ n → Fine n ms → Fine n (put k v1.leaf ms)
fine_leaf n k ms some fine = (put_ascend k v1.leaf ms fine.0, put_encodable k v1.leaf ms (refl, tt) fine.1, put_clean k v1.leaf ms refl fine.2, put_depth n k v1.leaf ms some fine.3)

fine_names : (n : ℕ) (names : List (List ℕ)) (ms : Members) → 1 ≤ n → Fine n ms → Fine n (v1.put_names names ms)
fine_names n [] ms some fine = fine
fine_names n (f ∷ names) ms some fine = fine_names n names (put (name_text f) v1.leaf ms) some (fine_leaf n (name_text f) ms some fine)

fine_item : (n : ℕ) (is_there : Bool) (names : List (List ℕ)) (ms : Members) → 1 ≤ n → Fine n ms → Fine n (v1.with_item is_there names ms)
fine_item n true names ms some fine = fine_leaf n (codes ".") (v1.put_names names ms) some (fine_names n names ms some fine)
fine_item n false names ms some fine = fine

-- ---- a member for each element

rise_from : (e : List ℕ) (es : List (List ℕ)) → AllByRecursion (λ m. slice_cmp nat_cmp e m ≡ Less) es → AreRising es → ascend_from e es ≡ true
rise_from e [] above rise = refl
rise_from e (m ∷ es) above rise = both_true (ap is_lt above.0) (rise_from m es rise.0 rise.1)

rise_all : (es : List (List ℕ)) → AreRising es → ascend es ≡ true
rise_all [] rise = refl
rise_all (e ∷ es) rise = rise_from e es rise.0 rise.1

names_each : (inner : List ℕ → Members) (es : List (List ℕ)) → member_names (v1.each inner es) ≡ es
names_each inner [] = refl
names_each inner (e ∷ es) = ap (λ l. e ∷ l) (names_each inner es)

abbrev FineBelow : ℕ → Members → Type 0
FineBelow n ms = MembersAreEncodable ms × (members_have_float ms ≡ false) × (members_depth ms ≤ suc n)

each_below : (n : ℕ) (inner : List ℕ → Members) → ((e : List ℕ) → Fine n (inner e)) → (es : List (List ℕ)) → FineBelow n (v1.each inner es)
each_below n inner one [] = (tt, refl, none_deep (suc n))
each_below n inner one (e ∷ es) =
    let rest = each_below n inner one es in
    let mine = one e in (
      ((mine.0, mine.1), rest.0),
      both (members_have_float (inner e)) (members_have_float (v1.each inner es)) mine.2 rest.1,
      no_deeper (suc (members_depth (inner e))) (members_depth (v1.each inner es)) (suc n) (one_deeper (members_depth (inner e)) n mine.3) rest.2,
    )

fine_each : (n : ℕ) (inner : List ℕ → Members) (c : Content) → ((e : List ℕ) → Fine n (inner e)) → Fine (suc n) (v1.each inner (heads c))
fine_each n inner c one =
    let below = each_below n inner one (heads c) in (ap ascend (names_each inner (heads c)) ∙ rise_all (heads c) (heads_rise c), below.0, below.1, below.2)

-- ---- by the shape

some_depth : (s : Shape) → 1 ≤ depth_of s
some_depth text = omega arith
some_depth whole = omega arith
some_depth truth = omega arith
some_depth (struct_of all b) = one_deeper 0 (fields_depth all) (none_deep (fields_depth all))
some_depth (map_of s b) = one_deeper 0 (depth_of s) (none_deep (depth_of s))
some_depth (list_of s kind) = one_deeper 0 (depth_of s) (none_deep (depth_of s))

mutual
  pub members_fine : (s : Shape) (c : Content) → Fine (depth_of s) (v1.members_of s c)
  members_fine text c = fine_none 1
  members_fine whole c = fine_none 1
  members_fine truth c = fine_none 1
  members_fine (struct_of all is_atomic) c =
      fine_if (suc (fields_depth all)) is_atomic no_members _ (fine_none (suc (fields_depth all)))
      (fine_each (fields_depth all) (λ e. v1.members_of_field all (field_name e) (inside e c)) c (λ e. field_fine all (field_name e) (inside e c)))
  members_fine (map_of s is_atomic) c =
      fine_if (suc (depth_of s)) is_atomic no_members _ (fine_none (suc (depth_of s))) (fine_each (depth_of s) (λ e. v1.members_of s (inside e c)) c (λ e. members_fine s (inside e c)))
  members_fine (list_of s atomic) c = fine_none (suc (depth_of s))
  members_fine (list_of s set) c = fine_each (depth_of s) (λ e. no_members) c (λ e. fine_none (depth_of s))
  members_fine (list_of s (keyed names)) c =
      fine_each (depth_of s) (λ e. v1.with_item (is_some (fin.get (inside e c) [])) names (v1.members_of s (inside e c))) c
      (λ e. fine_item (depth_of s) (is_some (fin.get (inside e c) [])) names (v1.members_of s (inside e c)) (some_depth s) (members_fine s (inside e c)))

  field_fine : (fs : Fields) (f : Option (List ℕ)) (c : Content) → Fine (fields_depth fs) (v1.members_of_field fs f c)
  field_fine no_fields f c = fine_none 0
  field_fine (field known s more) f c =
      fine_if (max (depth_of s) (fields_depth more)) (v1.is_name known f) (v1.members_of s c) (v1.members_of_field more f c)
      (fine_more (depth_of s) (max (depth_of s) (fields_depth more)) (v1.members_of s c) (first_of (depth_of s) (fields_depth more)) (members_fine s c))
      (fine_more (fields_depth more) (max (depth_of s) (fields_depth more)) (v1.members_of_field more f c) (second_of (depth_of s) (fields_depth more)) (field_fine more f c))
    where
      first_of : (a b : ℕ) → a ≤ max a b
      first_of a b = omega arith

      second_of : (a b : ℕ) → b ≤ max a b
      second_of a b = omega arith

shallow : (n m : ℕ) → n ≤ m → m ≤ 16 → suc n ≤ 127
shallow n m h k = omega (arith, h, k)

pub fields_v1_textual : FieldsV1IsTextual
fields_v1_textual s paths lawful =
    let fine = members_fine s (marked paths) in
    textual (v1.fields_v1_of s paths) (fine.0, fine.1) fine.2 (shallow (members_depth (v1.members_of s (marked paths))) (depth_of s) fine.3 (lawful_depth s lawful))
