-- What a value whose members ascend reads as is written as this value.
use Rattle.std.proofs.Common.{◌≡◌, ℕ, Bool, true, false, cond, not, ◌&&◌, ◌||◌, is_eq, nat_cmp, List, [], ◌∷◌, Option, Some, None, is_some, option_map, Ordering, Less, Equal, Greater, Ok, Err, inl, inr, refl, sym, subst, ap, ap₂, ◌∙◌, true≢false}
use Rattle.std.specs.Cmp.{tied_itself}
use Rattle.std.specs.Cmp.Lexicographic.{slice_cmp}
use Rattle.std.specs.FinMap as fin
use Rattle.std.specs.List.{list_any}
use Rattle.std.specs.Ordering.{match_ordering}
use Rattle.std.specs.Str.{bytes_eq}
use Rattle.std.proofs.lemmas.Cmp.{nat_list_cmp_total}
use Rattle.std.proofs.lemmas.Slice.Eq.{bytes_eq-Decides}
use Rattle.serde_json.specs.Data.{Data, null, boolean, number, string, array, object, Members, no_members, member, put}
use Rattle.serde_json.specs.Find.{get_member}
use Rattle.serde_json.proofs.Views.{get_member-put, get_member-put_other}
use Rattle.fieldpath.specs.Paths.{PathTexts}
use Rattle.fieldpath.specs.Elements.{name_text, read_element}
use Rattle.pathmap.specs.Contents.{LeafValue, Content, dom, marked, nothing, over, under}
use Rattle.pathmap.specs.Insides.{heads, inside}
use Rattle.pathmap.proofs.Contents.{either, either-None, get-nothing, get-over, get-under, get-under-top, nothing-over, same}
use Rattle.pathmap.specs.Levels.{has_path}
use Rattle.pathmap.proofs.Heads.{heads-inside, one_path, rising, some_path}
use Rattle.pathmap.proofs.Levels.{nothing_path}
use Rattle.pathmap.proofs.Insides.{get-inside}
use Rattle.pathmap.proofs.Order.{get-marked}
use Rattle.pathmap.proofs.Sets.{contains-dom}
use Rattle.pathmap.proofs.Trees.{ties}
use Rattle.json_values.specs.Members.{has}
use Rattle.schema.specs.Shape.{Shape, Fields, shape_at}
use Rattle.schema.specs.Steps.{TypeRef, value_of, set_item, map_item, is_leaf}
use Rattle.fieldset.specs.FieldsV1Laws.{AreInOrder, IsInOrder, ReadIsWritten}
use Rattle.fieldset.specs.FieldsV1.{each, fields_v1_of, leaf, members_of, put_names, Reading, and_then, needs_members, dot, has_keys, is_empty, is_marked, joined, not_an_object, not_canonical, read_at, read_member, read_members, top}
use Rattle.fieldset.proofs.Prefixes.{IsGood, IsWellTypedAt, all_lead, base-each, base_at, dressed, first_of, good_next, inner_at, inner_of, members_at, none_some, second_of}
use Rattle.fieldset.proofs.Saying.{IsDue, Said, said}
use Rattle.fieldset.proofs.Marks.{content_or, dot_next, joined_parts, not_ok, same_ok}
use Rattle.fieldset.proofs.Ordered.{Each, Rising, each_rising, found, get_each_member, get_first, none_above, put_rising, rising_members, same_members}
use Rattle.fieldset.proofs.WellTyped.{IsWellTypedBelow, at_well_typed, is_set, members_well_typed, set_or, when_some}
use Rattle.schema.proofs.Places.{next}
use Rattle.fieldset.proofs.Splits.{IsMarks, get_top, get_top_below, mark_when}
use Rattle.fieldset.proofs.Written.{type_good, type_not_leaf}

-- ---- what the members at an object say, name by name

abbrev said_by : Option TypeRef → Data → Content
said_by None d = nothing
said_by (Some p) d = content_or nothing (read_at p d)

abbrev said_at : TypeRef → List ℕ → Option Data → Content
said_at type_ref k None = nothing
said_at type_ref k (Some d) = said_by (next type_ref k) d

abbrev IsSaid : TypeRef → Members → List ℕ → Data → Type 0
IsSaid type_ref beside k d = (x : Content) × Said type_ref beside k d (λ n. read_at n d) x

module _ (type_ref : TypeRef) (beside : Members) where
  all_said : (ms : Members) (y : Content) → read_members type_ref beside ms ≡ Ok y → Each (IsSaid type_ref beside) ms
  all_said no_members y h = tt
  all_said (member k d ms) y h =
      let parts = joined_parts (read_member type_ref beside k d (λ n. read_at n d)) (read_members type_ref beside ms) y h in
      ((parts.0, said type_ref beside k d (λ n. read_at n d) parts.0 parts.2), all_said ms parts.1 parts.3)

  -- what one member says stands under its name
  one_here : (k : List ℕ) (d : Data) (x : Content) → Said type_ref beside k d (λ n. read_at n d) x → (t : PathTexts) → fin.get x (k ∷ t) ≡ fin.get (said_by (next type_ref k) d) t
  one_here k d x (inl s) t =
      ap (λ c. fin.get c (k ∷ t)) (sym s.4) ∙ get-under k s.1 k t ∙ ap (λ o. cond (is_eq o) (fin.get s.1 t) None) (tied_itself nat_list_cmp_total k)
      ∙ ap (λ c. fin.get c t) (sym (ap (λ o. said_by o d) s.2 ∙ ap (content_or nothing) s.3))
  one_here k d x (inr s) t = ap (λ c. fin.get c (k ∷ t)) (sym s.2) ∙ get-nothing (k ∷ t) ∙ sym (ap (λ o. fin.get (said_by o d) t) s.0 ∙ get-nothing t)

  one_elsewhere : (k : List ℕ) (d : Data) (x : Content) → Said type_ref beside k d (λ n. read_at n d) x → (g : List ℕ) (t : PathTexts) → is_eq (slice_cmp nat_cmp g k) ≡ false → fin.get x (g ∷ t) ≡ None
  one_elsewhere k d x (inl s) g t apart = ap (λ c. fin.get c (g ∷ t)) (sym s.4) ∙ get-under k s.1 g t ∙ ap (λ b. cond b (fin.get s.1 t) None) apart
  one_elsewhere k d x (inr s) g t apart = ap (λ c. fin.get c (g ∷ t)) (sym s.2) ∙ get-nothing (g ∷ t)

  inside_said : (ms : Members) (y : Content) → Rising ms → read_members type_ref beside ms ≡ Ok y → (g : List ℕ) (t : PathTexts) → fin.get y (g ∷ t) ≡ fin.get (said_at type_ref g (get_member g ms)) t
  inside_said no_members y rise h g t = ap (λ c. fin.get c (g ∷ t)) (sym (same_ok nothing y h)) ∙ get-nothing (g ∷ t) ∙ sym (get-nothing t)
  inside_said (member k d ms) y rise h g t = by_order (inside_said ms parts.1 rise.1 parts.3 g t) (slice_cmp nat_cmp g k) refl
    where
      parts : (c : Content) × (r : Content) × (read_member type_ref beside k d (λ n. read_at n d) ≡ Ok c) × (read_members type_ref beside ms ≡ Ok r) × (over c r ≡ y)
      parts = joined_parts (read_member type_ref beside k d (λ n. read_at n d)) (read_members type_ref beside ms) y h

      one : Said type_ref beside k d (λ n. read_at n d) parts.0
      one = said type_ref beside k d (λ n. read_at n d) parts.0 parts.2

      both : fin.get y (g ∷ t) ≡ either (fin.get parts.0 (g ∷ t)) (fin.get parts.1 (g ∷ t))
      both = ap (λ c. fin.get c (g ∷ t)) (sym parts.4) ∙ get-over parts.0 parts.1 (g ∷ t)

      by_order : fin.get parts.1 (g ∷ t) ≡ fin.get (said_at type_ref g (get_member g ms)) t → (o : Ordering) → slice_cmp nat_cmp g k ≡ o
          → fin.get y (g ∷ t) ≡ fin.get (said_at type_ref g (match_ordering o (get_member g ms) (Some d) (get_member g ms))) t
      by_order later Less o = both ∙ ap₂ either (one_elsewhere k d parts.0 one g t (ap is_eq o)) later
      by_order later Greater o = both ∙ ap₂ either (one_elsewhere k d parts.0 one g t (ap is_eq o)) later
      by_order later Equal o =
          let here : g ≡ k = ties g k (ap is_eq o) in
          let none : fin.get parts.1 (g ∷ t) ≡ None = later ∙ ap (λ m. fin.get (said_at type_ref g m) t) (ap (λ q. get_member q ms) here ∙ none_above k ms rise.0) ∙ get-nothing t in
          both ∙ ap (either (fin.get parts.0 (g ∷ t))) none ∙ either-None (fin.get parts.0 (g ∷ t)) ∙ ap (λ q. fin.get parts.0 (q ∷ t)) here ∙ one_here k d parts.0 one t
          ∙ ap (λ q. fin.get (said_by (next type_ref q) d) t) (sym here)

-- ---- marks

no_dot_name : (f : List ℕ) → dot ≡ name_text f → ⊥
unfolding name_text
no_dot_name f same = true≢false (sym ((bytes_eq-Decides dot (102 ∷ 58 ∷ f)).1 same))

due_marked : (type_ref : TypeRef) (ms : Members) (k : List ℕ) (d : Data) → get_member k ms ≡ Some d → IsDue type_ref ms k → is_marked type_ref ms ≡ true
due_marked (value_of s) ms k d is (inl h) = absurd (true≢false (sym h.1))
due_marked set_item ms k d is h = refl
due_marked (map_item names all) ms k d is (inl h) = ap (λ q. is_some (get_member q ms)) (sym h.0) ∙ ap is_some is
due_marked (value_of s) ms k d is (inr h) = absurd (true≢false (sym h.2))
due_marked (map_item names all) ms k d is (inr h) = h.3

no_due : (s : Shape) (ms : Members) (k : List ℕ) → IsDue (value_of s) ms k → ⊥
no_due s ms k (inl h) = true≢false (sym h.1)
no_due s ms k (inr h) = true≢false (sym h.2)

no_due_item : (ms : Members) (k : List ℕ) → IsDue set_item ms k → ⊥
no_due_item ms k (inl h) = true≢false (sym h.1)
no_due_item ms k (inr h) = true≢false (sym h.2)

get_names : (k : List ℕ) (ns : List (List ℕ)) (ms : Members) → get_member k (put_names ns ms) ≡ cond (list_any (λ n. bytes_eq k (name_text n)) ns) (Some leaf) (get_member k ms)
get_names k [] ms = refl
get_names k (n ∷ ns) ms = get_names k ns (put (name_text n) leaf ms) ∙ by_name (bytes_eq k (name_text n)) refl (list_any (λ n. bytes_eq k (name_text n)) ns)
  where
    by_name : (b : Bool) → bytes_eq k (name_text n) ≡ b → (l : Bool) → cond l (Some leaf) (get_member k (put (name_text n) leaf ms)) ≡ cond (b || l) (Some leaf) (get_member k ms)
    by_name true is true = refl
    by_name true is false = ap (λ q. get_member q (put (name_text n) leaf ms)) ((bytes_eq-Decides k (name_text n)).0 is) ∙ get_member-put (name_text n) leaf ms
    by_name false is l = ap (cond l (Some leaf)) (get_member-put_other k (name_text n) leaf ms (λ alike. true≢false (sym ((bytes_eq-Decides k (name_text n)).1 alike) ∙ is)))

names_rising : (ns : List (List ℕ)) (ms : Members) → Rising ms → Rising (put_names ns ms)
names_rising [] ms h = h
names_rising (n ∷ ns) ms h = names_rising ns (put (name_text n) leaf ms) (put_rising (name_text n) leaf ms h)

or_true : (b : Bool) → (b || true) ≡ true
or_true true = refl
or_true false = refl

-- a name among these whose text this is
some_name : (k : List ℕ) (ns : List (List ℕ)) → list_any (λ n. bytes_eq k (name_text n)) ns ≡ true → (f : List ℕ) × (k ≡ name_text f) × (list_any (bytes_eq f) ns ≡ true)
some_name k [] h = absurd (true≢false (sym h))
some_name k (n ∷ ns) h = by_name (some_name k ns) (bytes_eq k (name_text n)) refl h
  where
    by_name : (list_any (λ n. bytes_eq k (name_text n)) ns ≡ true → (f : List ℕ) × (k ≡ name_text f) × (list_any (bytes_eq f) ns ≡ true)) → (b : Bool) → bytes_eq k (name_text n) ≡ b
        → (b || list_any (λ n. bytes_eq k (name_text n)) ns) ≡ true → (f : List ℕ) × (k ≡ name_text f) × ((bytes_eq f n || list_any (bytes_eq f) ns) ≡ true)
    by_name later true is h = (n, (bytes_eq-Decides k (name_text n)).0 is, ap (λ b. b || list_any (bytes_eq n) ns) ((bytes_eq-Decides n n).1 refl))
    by_name later false is h = let l = later h in (l.0, l.1, ap (λ b. bytes_eq l.0 n || b) l.2 ∙ or_true (bytes_eq l.0 n))

name_among : (f : List ℕ) (ns : List (List ℕ)) → list_any (bytes_eq f) ns ≡ true → list_any (λ n. bytes_eq (name_text f) (name_text n)) ns ≡ true
name_among f [] h = h
name_among f (n ∷ ns) h = by_name (name_among f ns) (bytes_eq f n) refl h
  where
    by_name : (list_any (bytes_eq f) ns ≡ true → list_any (λ n. bytes_eq (name_text f) (name_text n)) ns ≡ true) → (b : Bool) → bytes_eq f n ≡ b → (b || list_any (bytes_eq f) ns) ≡ true
        → (bytes_eq (name_text f) (name_text n) || list_any (λ n. bytes_eq (name_text f) (name_text n)) ns) ≡ true
    by_name later true is h = ap (λ b. b || list_any (λ n. bytes_eq (name_text f) (name_text n)) ns) ((bytes_eq-Decides (name_text f) (name_text n)).1 (ap name_text ((bytes_eq-Decides f n).0 is)))
    by_name later false is h = ap (λ b. bytes_eq (name_text f) (name_text n) || b) (later h) ∙ or_true (bytes_eq (name_text f) (name_text n))

has_one : (k : List ℕ) (ms : Members) (ns : List (List ℕ)) → has_keys ns ms ≡ true → list_any (λ n. bytes_eq k (name_text n)) ns ≡ true → has k ms ≡ true
has_one k ms [] h is = absurd (true≢false (sym is))
has_one k ms (n ∷ ns) h is = by_name (has_one k ms ns (second_of (has (name_text n) ms) (has_keys ns ms) h)) (bytes_eq k (name_text n)) refl is
  where
    by_name : (list_any (λ n. bytes_eq k (name_text n)) ns ≡ true → has k ms ≡ true) → (b : Bool) → bytes_eq k (name_text n) ≡ b → (b || list_any (λ n. bytes_eq k (name_text n)) ns) ≡ true → has k ms ≡ true
    by_name later true is h2 = ap (λ q. has q ms) ((bytes_eq-Decides k (name_text n)).0 is) ∙ first_of (has (name_text n) ms) (has_keys ns ms) h
    by_name later false is h2 = later h2

key_none : (names : List (List ℕ)) (all : Fields) (f : List ℕ) → list_any (bytes_eq f) names ≡ true → next (map_item names all) (name_text f) ≡ None
unfolding name_text read_element
key_none names all f is = ap (λ b. cond b None (option_map value_of (shape_at f all))) is

-- ---- one object

abbrev Facts : TypeRef → Members → Type 0
Facts type_ref ms = (k : List ℕ) (d : Data) → get_member k ms ≡ Some d → IsSaid type_ref ms k d

cond_none : (b : Bool) → cond b None (let o : Option Data = None in o) ≡ None
cond_none true = refl
cond_none false = refl

-- where no member is a mark, all are elements
whole_get : (type_ref : TypeRef) (ms : Members) → Facts type_ref ms → (k : List ℕ) → (IsDue type_ref ms k → (d : Data) → get_member k ms ≡ Some d → ⊥) → cond (is_some (next type_ref k)) (get_member k ms) None ≡ get_member k ms
whole_get type_ref ms facts k no_mark = by_data (get_member k ms) refl
  where
    by_said : (d : Data) → get_member k ms ≡ Some d → (x : Content) → Said type_ref ms k d (λ n. read_at n d) x → cond (is_some (next type_ref k)) (Some d) None ≡ Some d
    by_said d is x (inl s) = ap (λ o. cond (is_some o) (Some d) None) s.2
    by_said d is x (inr s) = absurd (no_mark s.3 d is)

    by_data : (o : Option Data) → get_member k ms ≡ o → cond (is_some (next type_ref k)) o None ≡ o
    by_data None is = cond_none (is_some (next type_ref k))
    by_data (Some d) is = let f = facts k d is in by_said d is f.0 f.1

abbrev Gets : TypeRef → Members → Members → Type 0
Gets type_ref ms base = (k : List ℕ) → get_member k base ≡ cond (is_some (next type_ref k)) (get_member k ms) None

module _ (names : List (List ℕ)) (all : Fields) (ms base : Members) (m : has dot ms ≡ true) (gets : Gets (map_item names all) ms base) (facts : Facts (map_item names all) ms) where
  dotted : (get_member dot ms ≡ Some leaf) × (has_keys names ms ≡ true)
  dotted = by_data (get_member dot ms) refl m
    where
      keys : IsDue (map_item names all) ms dot → has_keys names ms ≡ true
      keys (inl h) = h.1
      keys (inr h) = absurd (no_dot_name h.0 h.1)

      by_said : (d : Data) → get_member dot ms ≡ Some d → (x : Content) → Said (map_item names all) ms dot d (λ n. read_at n d) x → (get_member dot ms ≡ Some leaf) × (has_keys names ms ≡ true)
      by_said d is x (inl s) = absurd (none_some s.0 (sym (dot_next (map_item names all)) ∙ s.2))
      by_said d is x (inr s) = (is ∙ ap Some s.1, keys s.3)

      by_data : (o : Option Data) → get_member dot ms ≡ o → is_some o ≡ true → (get_member dot ms ≡ Some leaf) × (has_keys names ms ≡ true)
      by_data None is h = absurd (true≢false (sym h))
      by_data (Some d) is h = let f = facts dot d is in by_said d is f.0 f.1

  key_get : (k : List ℕ) → list_any (λ n. bytes_eq k (name_text n)) names ≡ true → Some leaf ≡ get_member k ms
  key_get k is = by_data (get_member k ms) refl (has_one k ms names dotted.1 is)
    where
      by_said : (d : Data) (x : Content) → Said (map_item names all) ms k d (λ n. read_at n d) x → Some leaf ≡ Some d
      by_said d x (inl s) = let n = some_name k names is in absurd (none_some s.0 (sym (ap (next (map_item names all)) n.1 ∙ key_none names all n.0 n.2) ∙ s.2))
      by_said d x (inr s) = sym (ap Some s.1)

      by_data : (o : Option Data) → get_member k ms ≡ o → is_some o ≡ true → Some leaf ≡ o
      by_data None there h = absurd (true≢false (sym h))
      by_data (Some d) there h = let f = facts k d there in by_said d f.0 f.1

  marked_get : (k : List ℕ) → get_member k (put dot leaf (put_names names base)) ≡ get_member k ms
  marked_get k = by_dot (bytes_eq k dot) refl
    where
      no_mark : bytes_eq k dot ≡ false → list_any (λ n. bytes_eq k (name_text n)) names ≡ false → IsDue (map_item names all) ms k → ⊥
      no_mark apart other (inl h) = true≢false (sym ((bytes_eq-Decides k dot).1 h.0) ∙ apart)
      no_mark apart other (inr h) = true≢false (sym (ap (λ q. list_any (λ n. bytes_eq q (name_text n)) names) h.1 ∙ name_among h.0 names h.2) ∙ other)

      by_name : bytes_eq k dot ≡ false → (b : Bool) → list_any (λ n. bytes_eq k (name_text n)) names ≡ b → cond b (Some leaf) (get_member k base) ≡ get_member k ms
      by_name apart true is = key_get k is
      by_name apart false is = gets k ∙ whole_get (map_item names all) ms facts k (λ due d there. no_mark apart is due)

      by_dot : (b : Bool) → bytes_eq k dot ≡ b → get_member k (put dot leaf (put_names names base)) ≡ get_member k ms
      by_dot true is =
          let here = (bytes_eq-Decides k dot).0 is in
          ap (λ q. get_member q (put dot leaf (put_names names base))) here ∙ get_member-put dot leaf (put_names names base) ∙ sym (ap (λ q. get_member q ms) here ∙ dotted.0)
      by_dot false is =
          get_member-put_other k dot leaf (put_names names base) (λ alike. true≢false (sym ((bytes_eq-Decides k dot).1 alike) ∙ is)) ∙ get_names k names base
          ∙ by_name is (list_any (λ n. bytes_eq k (name_text n)) names) refl

dressed_same : (type_ref : TypeRef) (ms base : Members) (b : Bool) → b ≡ is_marked type_ref ms → Rising ms → Rising base → Gets type_ref ms base → Facts type_ref ms → dressed type_ref b base ≡ ms
dressed_same (value_of s) ms base b m rise base_rise gets facts = same_members base ms base_rise rise (λ k. gets k ∙ whole_get (value_of s) ms facts k (λ due d is. no_due s ms k due))
dressed_same set_item ms base b m rise base_rise gets facts = same_members base ms base_rise rise (λ k. gets k ∙ whole_get set_item ms facts k (λ due d is. no_due_item ms k due))
dressed_same (map_item names all) ms base true m rise base_rise gets facts =
    same_members (put dot leaf (put_names names base)) ms (put_rising dot leaf (put_names names base) (names_rising names base base_rise)) rise (marked_get names all ms base (sym m) gets facts)
dressed_same (map_item names all) ms base false m rise base_rise gets facts =
    same_members base ms base_rise rise (λ k. gets k ∙ whole_get (map_item names all) ms facts k (λ due d is. true≢false (sym (due_marked (map_item names all) ms k d is due) ∙ sym m)))

abbrev Backs : Data → Type 0
Backs d = (type_ref : TypeRef) → IsGood type_ref → (x : Content) → read_at type_ref d ≡ Ok x → (has_path x ≡ true) × (object (members_at type_ref x) ≡ d)

abbrev AllBack : Members → Type 0
AllBack ms = Each (λ k d. Backs d) ms

first_member : (ms : Members) → is_empty ms ≡ false → (k : List ℕ) × (d : Data) × (get_member k ms ≡ Some d)
first_member no_members h = absurd (true≢false h)
first_member (member k d ms) h = (k, d, get_first k d ms)

unmarked_needs : (type_ref : TypeRef) (ms : Members) → is_marked type_ref ms ≡ false → needs_members type_ref ≡ true
unmarked_needs (value_of s) ms h = ap not h
unmarked_needs set_item ms h = absurd (true≢false h)
unmarked_needs (map_item names all) ms h = refl

module _ (ms : Members) (backs : AllBack ms) (rise : Rising ms) (type_ref : TypeRef) (good : IsGood type_ref) (x : Content) (well_typed : IsWellTypedAt type_ref x) (y : Content) (reads : read_members type_ref ms ms ≡ Ok y)
    (whole : over (top (is_marked type_ref ms)) y ≡ x) where
  top_is : is_some (fin.get x []) ≡ is_marked type_ref ms
  top_is =
      let below = members_well_typed type_ref ms ms y reads in
      ap (λ c. is_some (fin.get c [])) (sym whole) ∙ ap is_some (get-over (top (is_marked type_ref ms)) y [] ∙ ap₂ either (get_top (is_marked type_ref ms)) below.0 ∙ either-None (mark_when (is_marked type_ref ms)))
      ∙ when_some (is_marked type_ref ms)

  inside_is : (g : List ℕ) → inside g x ≡ said_at type_ref g (get_member g ms)
  inside_is g = same (inside g x) (said_at type_ref g (get_member g ms)) (λ t.
      get-inside g x t ∙ ap (λ c. fin.get c (g ∷ t)) (sym whole) ∙ get-over (top (is_marked type_ref ms)) y (g ∷ t) ∙ ap (λ o. either o (fin.get y (g ∷ t))) (get_top_below (is_marked type_ref ms) g t)
      ∙ inside_said type_ref ms ms y rise reads g t)

  facts_of : Facts type_ref ms
  facts_of k d is = found (IsSaid type_ref ms) ms (all_said type_ref ms ms y reads) k d is

  back : (k : List ℕ) (d : Data) → get_member k ms ≡ Some d → Backs d
  back k d is = found (λ k d. Backs d) ms backs k d is

  inside_at : (k : List ℕ) (d : Data) → get_member k ms ≡ Some d → (p : TypeRef) (c : Content) → next type_ref k ≡ Some p → read_at p d ≡ Ok c → inside k x ≡ c
  inside_at k d is p c reaches gave = inside_is k ∙ ap (said_at type_ref k) is ∙ ap (λ o. said_by o d) reaches ∙ ap (content_or nothing) gave

  base_is : base_at type_ref x ≡ each (inner_of type_ref x) (heads x)
  base_is = base-each type_ref good x (all_lead type_ref x well_typed)

  base_get : Gets type_ref ms (base_at type_ref x)
  base_get k =
      ap (get_member k) base_is ∙ get_each_member (inner_of type_ref x) k (heads x) ∙ ap (λ b. cond b (Some (object (inner_of type_ref x k))) None) (heads-inside x k)
      ∙ by_data (get_member k ms) refl
    where
      none_of : inside k x ≡ nothing → cond (has_path (inside k x)) (Some (object (inner_of type_ref x k))) None ≡ None
      none_of is = ap (λ b. cond b (Some (object (inner_of type_ref x k))) None) (ap has_path is ∙ nothing_path)

      by_said : (d : Data) → get_member k ms ≡ Some d → (c : Content) → Said type_ref ms k d (λ n. read_at n d) c → cond (has_path (inside k x)) (Some (object (inner_of type_ref x k))) None ≡ cond (is_some (next type_ref k)) (Some d) None
      by_said d is c (inl s) =
          let there = inside_at k d is s.0 s.1 s.2 s.3 in
          let b = back k d is s.0 (good_next type_ref good k s.0 s.2) s.1 s.3 in
          ap (λ t. cond t (Some (object (inner_of type_ref x k))) None) (ap has_path there ∙ b.0) ∙ ap (λ n. Some (object n)) (ap₂ inner_at s.2 there) ∙ ap Some b.1 ∙ sym (ap (λ o. cond (is_some o) (Some d) None) s.2)
      by_said d is c (inr s) = none_of (inside_is k ∙ ap (said_at type_ref k) is ∙ ap (λ o. said_by o d) s.0) ∙ sym (ap (λ o. cond (is_some o) (Some d) None) s.0)

      by_data : (o : Option Data) → get_member k ms ≡ o → cond (has_path (inside k x)) (Some (object (inner_of type_ref x k))) None ≡ cond (is_some (next type_ref k)) o None
      by_data None is = none_of (inside_is k ∙ ap (said_at type_ref k) is) ∙ sym (cond_none (is_some (next type_ref k)))
      by_data (Some d) is = let f = facts_of k d is in by_said d is f.0 f.1

  base_rise : Rising (base_at type_ref x)
  base_rise = subst Rising (sym base_is) (each_rising (inner_of type_ref x) (heads x) (rising x))

  members_same : members_at type_ref x ≡ ms
  members_same = dressed_same type_ref ms (base_at type_ref x) (is_some (fin.get x [])) top_is rise base_rise base_get facts_of

  has_some : (needs_members type_ref && is_empty ms) ≡ false → has_path x ≡ true
  has_some filled = by_mark (is_marked type_ref ms) refl
    where
      by_said : (k : List ℕ) (d : Data) → get_member k ms ≡ Some d → is_marked type_ref ms ≡ false → (c : Content) → Said type_ref ms k d (λ n. read_at n d) c → has_path x ≡ true
      by_said k d is unmarked c (inl s) =
          let b = back k d is s.0 (good_next type_ref good k s.0 s.2) s.1 s.3 in
          let q = some_path s.1 b.0 in
          one_path x (k ∷ q.0) (ap is_some (sym (get-inside k x q.0) ∙ ap (λ e. fin.get e q.0) (inside_at k d is s.0 s.1 s.2 s.3)) ∙ q.1)
      by_said k d is unmarked c (inr s) = absurd (true≢false (sym (due_marked type_ref ms k d is s.3) ∙ unmarked))

      by_mark : (b : Bool) → is_marked type_ref ms ≡ b → has_path x ≡ true
      by_mark true is = one_path x [] (top_is ∙ is)
      by_mark false is =
          let first = first_member ms (sym (ap (λ b. b && is_empty ms) (unmarked_needs type_ref ms is)) ∙ filled) in
          let f = facts_of first.0 first.1 first.2 in
          by_said first.0 first.1 first.2 is f.0 f.1

object_back : (ms : Members) → AllBack ms → Rising ms → Backs (object ms)
object_back ms backs rise type_ref good x h = by_need (needs_members type_ref && is_empty ms) refl h
  where
    by_need : (b : Bool) → (needs_members type_ref && is_empty ms) ≡ b → cond b (Err not_canonical) (joined (Ok (top (is_marked type_ref ms))) (read_members type_ref ms ms)) ≡ Ok x → (has_path x ≡ true) × (object (members_at type_ref x) ≡ object ms)
    by_need true is gave = absurd (not_ok not_canonical x gave)
    by_need false is gave =
        let parts = joined_parts (Ok (top (is_marked type_ref ms))) (read_members type_ref ms ms) x gave in
        let whole : over (top (is_marked type_ref ms)) parts.1 ≡ x = ap (λ c. over c parts.1) (same_ok (top (is_marked type_ref ms)) parts.0 parts.2) ∙ parts.4 in
        let well_typed = at_well_typed type_ref (object ms) x h in
        (has_some ms backs rise type_ref good x well_typed parts.1 parts.3 whole is, ap object (members_same ms backs rise type_ref good x well_typed parts.1 parts.3 whole))

mutual
  at_back : (d : Data) → IsInOrder d → Backs d
  at_back null ordered type_ref good x h = absurd (not_ok not_an_object x h)
  at_back (boolean b) ordered type_ref good x h = absurd (not_ok not_an_object x h)
  at_back (number n) ordered type_ref good x h = absurd (not_ok not_an_object x h)
  at_back (string s) ordered type_ref good x h = absurd (not_ok not_an_object x h)
  at_back (array ds) ordered type_ref good x h = absurd (not_ok not_an_object x h)
  at_back (object ms) ordered type_ref good x h = object_back ms (members_back ms ordered.1) (rising_members ms ordered.0) type_ref good x h

  members_back : (ms : Members) → AreInOrder ms → AllBack ms
  members_back no_members ordered = tt
  members_back (member k d ms) ordered = ((λ type_ref good x h. at_back d ordered.0 type_ref good x h), members_back ms ordered.1)

-- ---- all that is read are marks

top_marks : (b : Bool) → IsMarks (top b)
top_marks b [] = get_top b ∙ sym (ap (λ o. mark_when (is_some o)) (get_top b) ∙ ap mark_when (when_some b))
top_marks b (g ∷ t) = get_top_below b g t ∙ sym (ap (λ o. mark_when (is_some o)) (get_top_below b g t))

nothing_marks : IsMarks nothing
nothing_marks p = get-nothing p ∙ sym (ap (λ o. mark_when (is_some o)) (get-nothing p))

over_marks : (c d : Content) → IsMarks c → IsMarks d → IsMarks (over c d)
over_marks c d left right p = get-over c d p ∙ by_first (fin.get c p) (left p) ∙ sym (ap (λ o. mark_when (is_some o)) (get-over c d p))
  where
    by_first : (o : Option LeafValue) → o ≡ mark_when (is_some o) → either o (fin.get d p) ≡ mark_when (is_some (either o (fin.get d p)))
    by_first None is = right p
    by_first (Some v) is = is

under_marks : (k : List ℕ) (c : Content) → IsMarks c → IsMarks (under k c)
under_marks k c marks [] = get-under-top k c ∙ sym (ap (λ o. mark_when (is_some o)) (get-under-top k c))
under_marks k c marks (g ∷ t) = get-under k c g t ∙ by_name (is_eq (slice_cmp nat_cmp g k)) ∙ sym (ap (λ o. mark_when (is_some o)) (get-under k c g t))
  where
    by_name : (b : Bool) → cond b (fin.get c t) None ≡ mark_when (is_some (cond b (fin.get c t) None))
    by_name true = marks t
    by_name false = refl

said_marks : (type_ref : TypeRef) (beside : Members) (k : List ℕ) (d : Data) (inner : TypeRef → Reading) (x : Content) → ((p : TypeRef) (y : Content) → inner p ≡ Ok y → IsMarks y) → Said type_ref beside k d inner x → IsMarks x
said_marks type_ref beside k d inner x marks (inl s) = subst IsMarks s.4 (under_marks k s.1 (marks s.0 s.1 s.3))
said_marks type_ref beside k d inner x marks (inr s) = subst IsMarks s.2 nothing_marks

object_marks : (type_ref : TypeRef) (ms : Members) (x : Content) → ((y : Content) → read_members type_ref ms ms ≡ Ok y → IsMarks y) → (b : Bool)
    → cond b (Err not_canonical) (joined (Ok (top (is_marked type_ref ms))) (read_members type_ref ms ms)) ≡ Ok x → IsMarks x
object_marks type_ref ms x below true h = absurd (not_ok not_canonical x h)
object_marks type_ref ms x below false h =
    let parts = joined_parts (Ok (top (is_marked type_ref ms))) (read_members type_ref ms ms) x h in
    subst IsMarks parts.4 (over_marks parts.0 parts.1 (subst IsMarks (same_ok (top (is_marked type_ref ms)) parts.0 parts.2) (top_marks (is_marked type_ref ms))) (below parts.1 parts.3))

mutual
  at_marks : (d : Data) (type_ref : TypeRef) (x : Content) → read_at type_ref d ≡ Ok x → IsMarks x
  at_marks null type_ref x h = absurd (not_ok not_an_object x h)
  at_marks (boolean b) type_ref x h = absurd (not_ok not_an_object x h)
  at_marks (number n) type_ref x h = absurd (not_ok not_an_object x h)
  at_marks (string s) type_ref x h = absurd (not_ok not_an_object x h)
  at_marks (array ds) type_ref x h = absurd (not_ok not_an_object x h)
  at_marks (object ms) type_ref x h = object_marks type_ref ms x (λ y is. members_marks ms type_ref ms y is) (needs_members type_ref && is_empty ms) h

  members_marks : (ms : Members) (type_ref : TypeRef) (beside : Members) (x : Content) → read_members type_ref beside ms ≡ Ok x → IsMarks x
  members_marks no_members type_ref beside x h = subst IsMarks (same_ok nothing x h) nothing_marks
  members_marks (member k d ms) type_ref beside x h =
      let parts = joined_parts (read_member type_ref beside k d (λ n. read_at n d)) (read_members type_ref beside ms) x h in
      subst IsMarks parts.4 (over_marks parts.0 parts.1 (said_marks type_ref beside k d (λ n. read_at n d) parts.0 (λ p y is. at_marks d p y is) (said type_ref beside k d (λ n. read_at n d) parts.0 parts.2)) (members_marks ms type_ref beside parts.1 parts.3))

-- ---- at the root

marks_again : (c : Content) → IsMarks c → marked (dom c) ≡ c
marks_again c marks = same (marked (dom c)) c (λ p. get-marked (dom c) p ∙ ap mark_when (contains-dom c p) ∙ sym (marks p))

well_typed_root : (s : Shape) (c : Content) → IsWellTypedBelow (value_of s) c → IsWellTypedAt (value_of s) c
well_typed_root s c below [] is = absurd (true≢false (sym is ∙ ap is_some below.0))
well_typed_root s c below (g ∷ t) is = below.1 g t is

pub back_again : ReadIsWritten
back_again s null paths shape ordered h = absurd (true≢false (sym (ap is_set h)))
back_again s (boolean b) paths shape ordered h = absurd (true≢false (sym (ap is_set h)))
back_again s (number n) paths shape ordered h = absurd (true≢false (sym (ap is_set h)))
back_again s (string t) paths shape ordered h = absurd (true≢false (sym (ap is_set h)))
back_again s (array ds) paths shape ordered h = absurd (true≢false (sym (ap is_set h)))
back_again s (object ms) paths shape ordered h = by_read (read_members (value_of s) ms ms) refl h
  where
    root : (c : Content) → read_members (value_of s) ms ms ≡ Ok c → members_of s c ≡ ms
    root c is =
        let below = members_well_typed (value_of s) ms ms c is in
        let whole : over (top (is_leaf s)) c ≡ c = ap (λ b. over (top b) c) (type_not_leaf s shape) ∙ nothing-over c in
        members_same ms (members_back ms ordered.1) (rising_members ms ordered.0) (value_of s) (type_good s shape) c (well_typed_root s c below) c is whole

    by_read : (r : Reading) → read_members (value_of s) ms ms ≡ r → and_then r (λ c. Ok (dom c)) ≡ Ok paths → fields_v1_of s paths ≡ object ms
    by_read (Err e) is h = absurd (true≢false (sym (ap is_set h)))
    by_read (Ok c) is h =
        ap (fields_v1_of s) (sym (ap (set_or paths) h)) ∙ ap (λ x. object (members_of s x)) (marks_again c (members_marks ms (value_of s) ms c is)) ∙ ap object (root c is)
