-- The members of a map's paths, put one after another.
use Rattle.std.proofs.Common.{◌≡◌, Bor, ℕ, Bool, true, false, cond, nat_cmp, List, [], ◌∷◌, Some, is_some, refl, sym, ap, ap₂, ◌∙◌, true≢false, Less, Greater}
use Rattle.std.specs.Prelude.{Option, None, option_and_then}
use Rattle.std.specs.Option.{option_map}
use Rattle.std.specs.Cmp.Lexicographic.{slice_cmp}
use Rattle.std.specs.FinMap as fin
use Rattle.std.specs.List.{AllByRecursion}
use Rattle.std.specs.Ordering.{match_ordering, ordering_reverse}
use Rattle.std.specs.Str.{bytes_eq}
use Rattle.std.proofs.lemmas.Cmp.{nat_list_cmp_total}
use Rattle.std.proofs.lemmas.Map.Keys.{sorted_head, sorted_tail}
use Rattle.serde_json.specs.Data.{Data, object, Members, no_members, member, put}
use Rattle.fieldpath.specs.Elements.{field_name}
use Rattle.fieldpath.specs.Paths.{PathTexts}
use Rattle.pathmap.specs.Contents.{Content, dom, mark, marked}
use Rattle.pathmap.specs.Insides.{heads, inside}
use Rattle.pathmap.specs.Levels.{has_path, leaf_value}
use Rattle.pathmap.specs.declared.held.PathValue.{PathValue}
use Rattle.pathmap.proofs.Children.{insides}
use Rattle.pathmap.proofs.Contents.{same}
use Rattle.pathmap.proofs.Heads.{heads-inside, one_path, one_rising, rising, some_path, Rises}
use Rattle.pathmap.proofs.Insides.{get-inside}
use Rattle.pathmap.proofs.Order.{get-marked, is_marked}
use Rattle.pathmap.proofs.Sets.{contains-dom}
use Rattle.schema.specs.Shape.{atomic, set, keyed, Shape, text, whole, truth, struct_of, map_of, list_of, Fields, no_fields, field, shape_at}
use Rattle.fieldset.specs.FieldsV1.{each, members_of, members_of_field}
use Rattle.schema.specs.Steps.{is_leaf}
use Rattle.fieldset.specs.Below.{members_some, members_under}

abbrev pub Named : Type 0
Named = List (List ℕ × Content)

-- a mark at each path of a map
abbrev pub marks_in : Content → Content
marks_in c = marked (dom c)

get-marks : (c : Content) (q : PathTexts) → fin.get (marks_in c) q ≡ cond (is_some (fin.get c q)) (Some mark) None
get-marks c q = get-marked (dom c) q ∙ ap (λ b. cond b (Some mark) None) (contains-dom c q)

some_marks : (c : Content) (q : PathTexts) → is_some (fin.get (marks_in c) q) ≡ is_some (fin.get c q)
some_marks c q = is_marked (dom c) q ∙ contains-dom c q

pub inside-marks : (c : Content) (g : List ℕ) → inside g (marks_in c) ≡ marks_in (inside g c)
inside-marks c g = same (inside g (marks_in c)) (marks_in (inside g c)) (λ q.
    get-inside g (marks_in c) q ∙ get-marks c (g ∷ q) ∙ ap (λ o. cond (is_some o) (Some mark) None) (sym (get-inside g c q)) ∙ sym (get-marks (inside g c) q))

path-marks : (c : Content) → has_path (marks_in c) ≡ has_path c
path-marks c = by_test (has_path c) refl
  where
    by_marks : has_path c ≡ false → (b : Bool) → has_path (marks_in c) ≡ b → b ≡ false
    by_marks none false is = refl
    by_marks none true is = let found = some_path (marks_in c) is in absurd (true≢false (sym (one_path c found.0 (sym (some_marks c found.0) ∙ found.1)) ∙ none))

    by_test : (b : Bool) → has_path c ≡ b → has_path (marks_in c) ≡ b
    by_test true is = let found = some_path c is in one_path (marks_in c) found.0 (some_marks c found.0 ∙ found.1)
    by_test false is = by_marks is (has_path (marks_in c)) refl

pub heads-marks : (c : Content) → heads (marks_in c) ≡ heads c
heads-marks c = one_rising (heads (marks_in c)) (heads c) (rising (marks_in c)) (rising c) (λ g.
    heads-inside (marks_in c) g ∙ ap has_path (inside-marks c g) ∙ path-marks (inside g c) ∙ sym (heads-inside c g))

-- whether something stands at the top
pub held_marks : (c : Content) (o : Option (Bor PathValue)) → option_map (λ h. leaf_value h.now) o ≡ fin.get c [] → is_some (fin.get (marks_in c) []) ≡ is_some o
held_marks c o is = some_marks c [] ∙ ap is_some (sym is) ∙ by_held o
  where
    by_held : (o : Option (Bor PathValue)) → is_some (option_map (λ h. leaf_value h.now) o) ≡ is_some o
    by_held None = refl
    by_held (Some h) = refl

-- ---- members in order

abbrev join : Members → Members → Members
join no_members ns = ns
join (member k d ms) ns = member k d (join ms ns)

join-none : (ms : Members) → join ms no_members ≡ ms
join-none no_members = refl
join-none (member k d ms) = ap (member k d) (join-none ms)

join-join : (ms ns ls : Members) → join (join ms ns) ls ≡ join ms (join ns ls)
join-join no_members ns ls = refl
join-join (member k d ms) ns ls = ap (member k d) (join-join ms ns ls)

-- every name of the members is below f
abbrev AllBelow : List ℕ → Members → Type 0
AllBelow f no_members = Unit {0}
AllBelow f (member k d ms) = (slice_cmp nat_cmp f k ≡ Greater) × AllBelow f ms

put_end : (f : List ℕ) (d : Data) (ms : Members) → AllBelow f ms → put f d ms ≡ join ms (member f d no_members)
put_end f d no_members h = refl
put_end f d (member k e ms) h = ap (λ o. match_ordering o (member f d (member k e ms)) (member k d ms) (member k e (put f d ms))) h.0 ∙ ap (member k e) (put_end f d ms h.1)

below_join : (f : List ℕ) (ms ns : Members) → AllBelow f ms → AllBelow f ns → AllBelow f (join ms ns)
below_join f no_members ns h k = k
below_join f (member l d ms) ns h k = (h.0, below_join f ms ns h.1 k)

module _ (inner : List ℕ → Content → Members) where
  -- the children put in turn
  abbrev pub puts : Named → Members → Members
  puts [] ms = ms
  puts (e ∷ es) ms = puts es (put e.0 (object (inner e.0 (marks_in e.1))) ms)

  -- a member for each child
  abbrev pub each_child : Named → Members
  each_child [] = no_members
  each_child (e ∷ es) = member e.0 (object (inner e.0 (marks_in e.1))) (each_child es)

  pub puts_next : (it left : Named) (e : List ℕ × Content) → it ≡ e ∷ left → (ms ns : Members) → ns ≡ put e.0 (object (inner e.0 (marks_in e.1))) ms → puts left ns ≡ puts it ms
  puts_next it left e steps ms ns is = ap (puts left) is ∙ sym (ap (λ es. puts es ms) steps)

  -- each child comes after what is there
  abbrev AllAfter : List (List ℕ) → Members → Type 0
  AllAfter ks ms = AllByRecursion (λ k. AllBelow k ms) ks

  after_more : (k : List ℕ) (d : Data) (ms : Members) (ks : List (List ℕ)) → AllByRecursion (λ y. slice_cmp nat_cmp k y ≡ Less) ks → AllAfter ks ms → AllAfter ks (join ms (member k d no_members))
  after_more k d ms [] h a = tt
  after_more k d ms (l ∷ ks) h a = (below_join l ms (member k d no_members) a.0 (nat_list_cmp_total.antisymm l k ∙ ap ordering_reverse h.0, tt), after_more k d ms ks h.1 a.1)

  after_none : (ks : List (List ℕ)) → AllAfter ks no_members
  after_none [] = tt
  after_none (k ∷ ks) = (tt, after_none ks)

  puts_join : (c : Content) (hs : List (List ℕ)) (ms : Members) → Rises hs → AllAfter hs ms → puts (insides c hs) ms ≡ join ms (each_child (insides c hs))
  puts_join c [] ms sorted a = sym (join-none ms)
  puts_join c (e ∷ hs) ms sorted a =
      let d = object (inner e (marks_in (inside e c))) in
      ap (puts (insides c hs)) (put_end e d ms a.0)
      ∙ puts_join c hs (join ms (member e d no_members)) (sorted_tail (slice_cmp nat_cmp) e hs sorted) (after_more e d ms hs (sorted_head (slice_cmp nat_cmp) e hs sorted) a.1)
      ∙ join-join ms (member e d no_members) (each_child (insides c hs))

  each_inside : (c : Content) (hs : List (List ℕ)) → each_child (insides c hs) ≡ each (λ e. inner e (inside e (marks_in c))) hs
  each_inside c [] = refl
  each_inside c (e ∷ hs) = ap₂ (λ d ms. member e (object (inner e d)) ms) (sym (inside-marks c e)) (each_inside c hs)

  -- these are the members at the first elements
  pub children_all : (c : Content) (es : Named) → es ≡ insides c (heads c) → each_child es ≡ each (λ e. inner e (inside e (marks_in c))) (heads (marks_in c))
  children_all c es is = ap each_child is ∙ each_inside c (heads c) ∙ ap (each (λ e. inner e (inside e (marks_in c)))) (sym (heads-marks c))

  -- and so are all put in turn
  pub puts_all : (c : Content) (es : Named) → es ≡ insides c (heads c) → puts es no_members ≡ each (λ e. inner e (inside e (marks_in c))) (heads (marks_in c))
  puts_all c es is = ap (λ l. puts l no_members) is ∙ puts_join c (heads c) no_members (rising c) (after_none (heads c)) ∙ ap each_child (sym is) ∙ children_all c es is

-- ---- by shape

each-alike : (f g : List ℕ → Members) → ((e : List ℕ) → f e ≡ g e) → (hs : List (List ℕ)) → each f hs ≡ each g hs
each-alike f g h [] = refl
each-alike f g h (e ∷ hs) = ap₂ (λ m ms. member e (object m) ms) (h e) (each-alike f g h hs)

pub field-some : (all : Fields) (o : Option (List ℕ)) (c : Content) → members_of_field all o c ≡ members_some (option_and_then (λ f. shape_at f all) o) c
field-some no_fields None c = refl
field-some no_fields (Some f) c = refl
field-some (field known s more) None c = field-some more None c
field-some (field known s more) (Some f) c = ap (λ ms. cond (bytes_eq known f) (members_of s c) ms) (field-some more (Some f) c) ∙ by_name (bytes_eq known f)
  where
    by_name : (b : Bool) → cond b (members_of s c) (members_some (shape_at f more) c) ≡ members_some (cond b (Some s) (shape_at f more)) c
    by_name true = refl
    by_name false = refl

pub members-each : (s : Shape) (c : Content) → is_leaf s ≡ false → members_of s c ≡ each (λ e. members_under s e (inside e c)) (heads c)
members-each text c h = absurd (true≢false h)
members-each whole c h = absurd (true≢false h)
members-each truth c h = absurd (true≢false h)
members-each (struct_of all is_atomic) c h =
    ap (λ b. cond b no_members (each (λ e. members_of_field all (field_name e) (inside e c)) (heads c))) h
    ∙ each-alike (λ e. members_of_field all (field_name e) (inside e c)) (λ e. members_under (struct_of all is_atomic) e (inside e c)) (λ e. field-some all (field_name e) (inside e c)) (heads c)
members-each (map_of inner is_atomic) c h = ap (λ b. cond b no_members (each (λ e. members_of inner (inside e c)) (heads c))) h
members-each (list_of inner atomic) c h = absurd (true≢false h)
members-each (list_of inner set) c h = refl
members-each (list_of inner (keyed names)) c h = refl

pub members-leaf : (s : Shape) (c : Content) → is_leaf s ≡ true → members_of s c ≡ no_members
members-leaf text c h = refl
members-leaf whole c h = refl
members-leaf truth c h = refl
members-leaf (struct_of all is_atomic) c h = ap (λ b. cond b no_members (each (λ e. members_of_field all (field_name e) (inside e c)) (heads c))) h
members-leaf (map_of inner is_atomic) c h = ap (λ b. cond b no_members (each (λ e. members_of inner (inside e c)) (heads c))) h
members-leaf (list_of inner atomic) c h = refl
members-leaf (list_of inner set) c h = absurd (true≢false (sym h))
members-leaf (list_of inner (keyed names)) c h = absurd (true≢false (sym h))
