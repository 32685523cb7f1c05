-- Members in byte order of their names, and what they have at a name.
use Rattle.std.proofs.Common.{◌≡◌, ℕ, true, cond, ◌||◌, is_eq, nat_cmp, List, [], ◌∷◌, Option, Some, None, Ordering, Less, Equal, Greater, refl, sym, subst, ap, ap₂, ◌∙◌, true≢false}
use Rattle.std.specs.Cmp.{tied_itself}
use Rattle.std.specs.Cmp.Lexicographic.{slice_cmp}
use Rattle.std.specs.List.{AllByRecursion, list_any}
use Rattle.std.specs.List.Sorted.{IsStrictlySortedBy}
use Rattle.std.specs.Ordering.{is_lt, match_ordering, ordering_reverse}
use Rattle.std.specs.Str.{bytes_eq}
use Rattle.std.proofs.lemmas.Cmp.{nat_list_cmp_total}
use Rattle.std.proofs.lemmas.Map.Text.{is_eq-slice_cmp}
use Rattle.serde_json.specs.Data.{Data, object, Members, no_members, member, put}
use Rattle.serde_json.specs.Find.{get_member}
use Rattle.fieldpath.specs.Scalars.{ascend, ascend_from}
use Rattle.fieldpath.specs.Encodable.{member_names}
use Rattle.pathmap.proofs.Heads.{Rises}
use Rattle.pathmap.proofs.Trees.{ties}
use Rattle.fieldset.specs.FieldsV1.{each}
use Rattle.fieldset.proofs.Prefixes.{first_of, none_some, second_of}

-- every name is above k
abbrev pub AllAbove : List ℕ → Members → Type 0
AllAbove k no_members = Unit {0}
AllAbove k (member l d ms) = (slice_cmp nat_cmp k l ≡ Less) × AllAbove k ms

abbrev pub Rising : Members → Type 0
Rising no_members = Unit {0}
Rising (member k d ms) = AllAbove k ms × Rising ms

higher : (k l : List ℕ) (ms : Members) → slice_cmp nat_cmp k l ≡ Less → AllAbove l ms → AllAbove k ms
higher k l no_members less h = tt
higher k l (member m d ms) less h = (nat_list_cmp_total.trans k l m less h.0, higher k l ms less h.1)

less_of : (o : Ordering) → is_lt o ≡ true → o ≡ Less
less_of Less h = refl
less_of Equal h = absurd (true≢false (sym h))
less_of Greater h = absurd (true≢false (sym h))

rising_from : (k : List ℕ) (ms : Members) → ascend_from k (member_names ms) ≡ true → AllAbove k ms × Rising ms
rising_from k no_members h = (tt, tt)
rising_from k (member l d ms) h =
    let less = less_of (slice_cmp nat_cmp k l) (first_of (is_lt (slice_cmp nat_cmp k l)) (ascend_from l (member_names ms)) h) in
    let later = rising_from l ms (second_of (is_lt (slice_cmp nat_cmp k l)) (ascend_from l (member_names ms)) h) in
    ((less, higher k l ms less later.0), later)

pub rising_members : (ms : Members) → ascend (member_names ms) ≡ true → Rising ms
rising_members no_members h = tt
rising_members (member k d ms) h = rising_from k ms h

turned : (k l : List ℕ) (o : Ordering) → slice_cmp nat_cmp k l ≡ o → slice_cmp nat_cmp l k ≡ ordering_reverse o
turned k l o is = nat_list_cmp_total.antisymm l k ∙ ap ordering_reverse is

pub none_above : (k : List ℕ) (ms : Members) → AllAbove k ms → get_member k ms ≡ None
none_above k no_members h = refl
none_above k (member l d ms) h = ap (λ o. match_ordering o (get_member k ms) (Some d) (get_member k ms)) h.0 ∙ none_above k ms h.1

pub get_first : (k : List ℕ) (d : Data) (ms : Members) → get_member k (member k d ms) ≡ Some d
get_first k d ms = ap (λ o. match_ordering o (get_member k ms) (Some d) (get_member k ms)) (tied_itself nat_list_cmp_total k)

abbrev pub some_data : (d : Data) → Option Data → Data
some_data d None = d
some_data d (Some e) = e

-- members in order with the same values at all names are the same
pub same_members : (ms ns : Members) → Rising ms → Rising ns → ((k : List ℕ) → get_member k ms ≡ get_member k ns) → ms ≡ ns
same_members no_members no_members h k is = refl
same_members no_members (member l e ns) h k is = absurd (none_some e (is l ∙ get_first l e ns))
same_members (member k d ms) no_members h r is = absurd (none_some d (sym (is k) ∙ get_first k d ms))
same_members (member k d ms) (member l e ns) h r is = by_order (slice_cmp nat_cmp k l) refl (same_members ms ns h.1 r.1)
  where
    later : k ≡ l → (q : List ℕ) → get_member q ms ≡ get_member q ns
    later same q = by_name (slice_cmp nat_cmp q k) refl
      where
        there : get_member q (member k d ms) ≡ match_ordering (slice_cmp nat_cmp q k) (get_member q ns) (Some e) (get_member q ns)
        there = is q ∙ ap (λ x. match_ordering (slice_cmp nat_cmp q x) (get_member q ns) (Some e) (get_member q ns)) (sym same)

        by_name : (o : Ordering) → slice_cmp nat_cmp q k ≡ o → get_member q ms ≡ get_member q ns
        by_name Less o = sym (ap (λ x. match_ordering x (get_member q ms) (Some d) (get_member q ms)) o) ∙ there ∙ ap (λ x. match_ordering x (get_member q ns) (Some e) (get_member q ns)) o
        by_name Greater o = sym (ap (λ x. match_ordering x (get_member q ms) (Some d) (get_member q ms)) o) ∙ there ∙ ap (λ x. match_ordering x (get_member q ns) (Some e) (get_member q ns)) o
        by_name Equal o =
            let here : q ≡ k = ties q k (ap is_eq o) in
            ap (λ x. get_member x ms) here ∙ none_above k ms h.0 ∙ sym (ap (λ x. get_member x ns) (here ∙ same) ∙ none_above l ns r.0)

    by_order : (o : Ordering) → slice_cmp nat_cmp k l ≡ o → (((q : List ℕ) → get_member q ms ≡ get_member q ns) → ms ≡ ns) → member k d ms ≡ member l e ns
    by_order Less o rest = absurd (none_some d (sym (sym (get_first k d ms) ∙ is k ∙ none_above k (member l e ns) (o, higher k l ns o r.0))))
    by_order Greater o rest = absurd (none_some e (sym (sym (get_first l e ns) ∙ sym (is l) ∙ none_above l (member k d ms) (turned k l Greater o, higher l k ms (turned k l Greater o) h.0))))
    by_order Equal o rest =
        let same : k ≡ l = ties k l (ap is_eq o) in
        let data_same : d ≡ e = ap (some_data d) (sym (get_first k d ms) ∙ is k ∙ ap (λ x. get_member x (member l e ns)) same ∙ get_first l e ns) in
        ap (λ x. member x d ms) same ∙ ap₂ (λ x y. member l x y) data_same (rest (later same))

-- ---- what keeps the order

put_above : (j k : List ℕ) (d : Data) (ms : Members) → slice_cmp nat_cmp j k ≡ Less → AllAbove j ms → AllAbove j (put k d ms)
put_above j k d no_members less h = (less, tt)
put_above j k d (member l e ms) less h = by_order (put_above j k d ms less h.1) (slice_cmp nat_cmp k l)
  where
    by_order : AllAbove j (put k d ms) → (o : Ordering) → AllAbove j (match_ordering o (member k d (member l e ms)) (member l d ms) (member l e (put k d ms)))
    by_order later Less = (less, h)
    by_order later Equal = h
    by_order later Greater = (h.0, later)

pub put_rising : (k : List ℕ) (d : Data) (ms : Members) → Rising ms → Rising (put k d ms)
put_rising k d no_members h = (tt, tt)
put_rising k d (member l e ms) h = by_order (put_rising k d ms h.1) (slice_cmp nat_cmp k l) refl
  where
    by_order : Rising (put k d ms) → (o : Ordering) → slice_cmp nat_cmp k l ≡ o → Rising (match_ordering o (member k d (member l e ms)) (member l d ms) (member l e (put k d ms)))
    by_order later Less o = ((o, higher k l ms o h.0), h)
    by_order later Equal o = h
    by_order later Greater o = (put_above l k d ms (turned k l Greater o) h.0, later)

module _ (f : List ℕ → Members) where
  each_above : (k : List ℕ) (hs : List (List ℕ)) → AllByRecursion (λ g. slice_cmp nat_cmp k g ≡ Less) hs → AllAbove k (each f hs)
  each_above k [] h = tt
  each_above k (g ∷ hs) h = (h.0, each_above k hs h.1)

  pub each_rising : (hs : List (List ℕ)) → Rises hs → Rising (each f hs)
  unfolding IsStrictlySortedBy
  each_rising [] h = tt
  each_rising (g ∷ hs) h = (each_above g hs h.0, each_rising hs h.1)

  pub get_each_member : (k : List ℕ) (hs : List (List ℕ)) → get_member k (each f hs) ≡ cond (list_any (bytes_eq k) hs) (Some (object (f k))) None
  get_each_member k [] = refl
  get_each_member k (g ∷ hs) = by_order (get_each_member k hs) (slice_cmp nat_cmp k g) refl
    where
      by_order : get_member k (each f hs) ≡ cond (list_any (bytes_eq k) hs) (Some (object (f k))) None → (o : Ordering) → slice_cmp nat_cmp k g ≡ o
          → match_ordering o (get_member k (each f hs)) (Some (object (f g))) (get_member k (each f hs)) ≡ cond (bytes_eq k g || list_any (bytes_eq k) hs) (Some (object (f k))) None
      by_order later Less o = later ∙ ap (λ b. cond (b || list_any (bytes_eq k) hs) (Some (object (f k))) None) (ap is_eq (sym o) ∙ is_eq-slice_cmp k g)
      by_order later Greater o = later ∙ ap (λ b. cond (b || list_any (bytes_eq k) hs) (Some (object (f k))) None) (ap is_eq (sym o) ∙ is_eq-slice_cmp k g)
      by_order later Equal o =
          ap (λ x. Some (object (f x))) (sym (ties k g (ap is_eq o))) ∙ ap (λ b. cond (b || list_any (bytes_eq k) hs) (Some (object (f k))) None) (ap is_eq (sym o) ∙ is_eq-slice_cmp k g)

-- ---- a fact of each member

abbrev pub Each : (List ℕ → Data → Type 0) → Members → Type 0
Each P no_members = Unit {0}
Each P (member k d ms) = P k d × Each P ms

pub found : (P : List ℕ → Data → Type 0) (ms : Members) → Each P ms → (k : List ℕ) (d : Data) → get_member k ms ≡ Some d → P k d
found P no_members h k d is = absurd (none_some d is)
found P (member l e ms) h k d is = by_order (found P ms h.1 k d) (slice_cmp nat_cmp k l) refl is
  where
    by_order : (get_member k ms ≡ Some d → P k d) → (o : Ordering) → slice_cmp nat_cmp k l ≡ o → match_ordering o (get_member k ms) (Some e) (get_member k ms) ≡ Some d → P k d
    by_order later Less o is = later is
    by_order later Greater o is = later is
    by_order later Equal o is = subst (λ x. P x d) (sym (ties k l (ap is_eq o))) (subst (P l) (ap (some_data d) is) h.0)
