-- What an apply keeps, by its definition.
use Rattle.std.proofs.Common.{◌≡◌, Bool, true, false, cond, not, ◌&&◌, ◌||◌, List, [], ◌∷◌, ◌++◌, map, Option, Some, None, is_some, refl, sym, ap, ap₂, ◌∙◌, true≢false}
use Rattle.std.specs.FinMap as fin
use Rattle.std.specs.FinMap.{find}
use Rattle.std.specs.FinSet as set
use Rattle.std.specs.List.{list_any}
use Rattle.std.specs.Option.{unwrap_or}
use Rattle.std.specs.Ordering.{eq_by_cmp}
use Rattle.std.specs.Cmp.Lexicographic.{bytes_decides}
use Rattle.fieldpath.specs.Paths.{PathTexts, path_cmp}
use Rattle.pathmap.specs.Contents.{LeafValue, Content, PathSet, nothing, over, dom, marked, in_order}
use Rattle.pathmap.specs.Beside.{same_value, is_prefix, has_at_or_below, has_at_or_above, changed, clear_of, without}
use Rattle.pathmap.proofs.Contents.{path_cmp_total, same, either, get-over}
use Rattle.pathmap.proofs.Order.{dom-marked, is_marked, in_order-nothing}
use Rattle.pathmap.proofs.Cutting.{nothing-above}
use Rattle.pathmap.proofs.Sets.{dom-nothing, same_paths, contains-dom, contains-changed, contains-clear_of, get-without, passes_some, passes_one}
use Rattle.objects.specs.Owners.{Manager, is_same, owned_by, others, taken_over, manager_cmp}
use Rattle.objects.specs.State.{State}
use Rattle.ownership.specs.Apply.{Conflict, conflicts_with, conflicts, all_paths, dropped, applied, is_refused}
use Rattle.objects.specs.WellTyped.{IsPresent, Owns, OwnedArePresent}
use Rattle.ownership.specs.Keeping.{OthersKeep, IsSettled}
use Rattle.objects.proofs.Within.{left_true, right_true, both_true, none_left, same_manager-is}
use Rattle.ownership.proofs.Sameness.{same_value-is, same_value-itself}
use Rattle.objects.proofs.Entries.{Pairs}
use Rattle.objects.proofs.Taking.{find-others, owned_mine, owned_other, taken_again}

not_both : {A : Type 0} (b : Bool) → b ≡ true → b ≡ false → A
not_both b t f = absurd (true≢false (sym t ∙ f))

-- ---- lists without an item
abbrev is_cons : {A : Type 0} → List A → Bool
is_cons [] = false
is_cons (x ∷ xs) = true

left_none : {A : Type 0} (xs ys : List A) → xs ++ ys ≡ [] → xs ≡ []
left_none [] ys e = refl
left_none (x ∷ xs) ys e = absurd (true≢false (ap is_cons e))

right_none : {A : Type 0} (xs ys : List A) → xs ++ ys ≡ [] → ys ≡ []
right_none [] ys e = e
right_none (x ∷ xs) ys e = absurd (true≢false (ap is_cons e))

abbrev beside : Manager → List PathTexts → List Conflict
beside k ps = map (λ p. (p, k)) ps

-- ---- paths at, above and below those of a set
some_in : (p : PathTexts → Bool) (s : PathSet) → list_any p (set.items s) ≡ true → (q : PathTexts) × (set.contains s q ≡ true) × (p q ≡ true)
some_in p s h =
    let found = passes_some p (marked s) (ap (λ t. list_any p (set.items t)) (dom-marked s) ∙ h) in
    (found.0, sym (is_marked s found.0) ∙ found.1, found.2)

one_in : (p : PathTexts → Bool) (s : PathSet) (q : PathTexts) → set.contains s q ≡ true → p q ≡ true → list_any p (set.items s) ≡ true
one_in p s q is h = ap (λ t. list_any p (set.items t)) (sym (dom-marked s)) ∙ passes_one p (marked s) q (is_marked s q ∙ is) h

pub one_below : (s : PathSet) (p q : PathTexts) → set.contains s q ≡ true → is_prefix p q ≡ true → has_at_or_below s p ≡ true
unfolding has_at_or_below
one_below s p q is prefix = one_in (is_prefix p) s q is prefix

pub some_below : (s : PathSet) (p : PathTexts) → has_at_or_below s p ≡ true → (q : PathTexts) × (set.contains s q ≡ true) × (is_prefix p q ≡ true)
unfolding has_at_or_below
some_below s p h = some_in (is_prefix p) s h

pub one_above : (s : PathSet) (p q : PathTexts) → set.contains s p ≡ true → is_prefix p q ≡ true → has_at_or_above s q ≡ true
unfolding has_at_or_above
one_above s p q is prefix = one_in (λ x. is_prefix x q) s p is prefix

pub some_above : (s : PathSet) (q : PathTexts) → has_at_or_above s q ≡ true → (p : PathTexts) × (set.contains s p ≡ true) × (is_prefix p q ≡ true)
unfolding has_at_or_above
some_above s q h = some_in (λ p. is_prefix p q) s h

pub prefix_itself : (p : PathTexts) → is_prefix p p ≡ true
prefix_itself [] = refl
prefix_itself (f ∷ p) = both_true _ _ ((bytes_decides f f).1 refl) (prefix_itself p)

both_parts : (state : State) (body : Content) (m : Manager)
    → record { content = without (over body state.content) (dropped state body m); owners = taken_over state.owners m (changed body state.content) (dom body) } ≡ applied state body m
unfolding applied
both_parts state body m = refl

-- what is clear of a set has no path above one of it
clear_above : (own all : PathSet) (q : PathTexts) → set.contains all q ≡ true → has_at_or_above (clear_of own all) q ≡ false
clear_above own all q is = by_test (has_at_or_above (clear_of own all) q) refl
  where
    by_test : (b : Bool) → has_at_or_above (clear_of own all) q ≡ b → b ≡ false
    by_test false h = refl
    by_test true h =
        let found = some_above (clear_of own all) q h in
        let clear = right_true (set.contains own found.0) (not (has_at_or_below all found.0)) (sym (contains-clear_of own all found.0) ∙ found.1) in
        not_both (not (has_at_or_below all found.0)) clear (ap not (one_below all found.0 q is found.2))

-- ---- the paths of all
or_left : (a b : Bool) → a ≡ true → (a || b) ≡ true
or_left a b e = ap (λ x. x || b) e

or_right : (a b : Bool) → b ≡ true → (a || b) ≡ true
or_right true b e = refl
or_right false b e = e

pub all_start : (s : PathSet) (es : Pairs) (q : PathTexts) → set.contains s q ≡ true → set.contains (all_paths s es) q ≡ true
all_start s [] q is = is
all_start s (e ∷ es) q is = all_start (set.union e.1 s) es q (set.contains-union path_cmp_total e.1 s q ∙ or_right (set.contains e.1 q) _ is)

pub all_found : (s : PathSet) (es : Pairs) (k : Manager) (q : PathTexts) → set.contains (unwrap_or (find manager_cmp k es) set.empty) q ≡ true → set.contains (all_paths s es) q ≡ true
all_found s [] k q is = not_both _ is (set.contains-empty path_cmp q)
all_found s (e ∷ es) k q is = by_test (eq_by_cmp manager_cmp k e.0) is (all_found (set.union e.1 s) es k q)
  where
    by_test : (b : Bool) → set.contains (unwrap_or (cond b (Some e.1) (find manager_cmp k es)) set.empty) q ≡ true
        → (set.contains (unwrap_or (find manager_cmp k es) set.empty) q ≡ true → set.contains (all_paths (set.union e.1 s) es) q ≡ true) → set.contains (all_paths (set.union e.1 s) es) q ≡ true
    by_test true is later = all_start (set.union e.1 s) es q (set.contains-union path_cmp_total e.1 s q ∙ or_left (set.contains e.1 q) _ is)
    by_test false is later = later is

-- ---- what the others own
module _ (live : State) (body : Content) (m k : Manager) (other : is_same m k ≡ false) where
  pub owned-others : unwrap_or (find manager_cmp k (others live.owners m)) set.empty ≡ owned_by live.owners k
  unfolding owned_by
  owned-others = ap (λ o. unwrap_or o set.empty) (find-others live.owners m k ∙ ap (λ b. cond (not b) (fin.get live.owners k) None) other)

  owned_in_all : (p : PathTexts) → Owns live k p → set.contains (all_paths (dom body) (others live.owners m)) p ≡ true
  owned_in_all p is = all_found (dom body) (others live.owners m) k p (ap (λ s. set.contains s p) owned-others ∙ is)

pub other_manager : (m k : Manager) → ¬ (k ≡ m) → is_same m k ≡ false
other_manager m k apart = by_test (is_same m k) refl
  where
    by_test : (b : Bool) → is_same m k ≡ b → b ≡ false
    by_test true is = absurd (apart (sym (same_manager-is m k is)))
    by_test false is = refl

-- ---- what stands after an apply
module _ (live : State) (body : Content) (m : Manager) where
  abbrev all_of : PathSet
  all_of = all_paths (dom body) (others live.owners m)

  -- a path that another manager or the body has is not taken out
  stays : (p : PathTexts) → set.contains all_of p ≡ true → fin.get (applied live body m).content p ≡ either (fin.get body p) (fin.get live.content p)
  unfolding applied dropped
  stays p is =
      get-without (over body live.content) (clear_of (owned_by live.owners m) all_of) p
      ∙ ap (λ b. cond b None (fin.get (over body live.content) p)) (clear_above (owned_by live.owners m) all_of p is) ∙ get-over body live.content p

  pub stays_body : (p : PathTexts) → is_some (fin.get body p) ≡ true → fin.get (applied live body m).content p ≡ fin.get body p
  stays_body p is = stays p (all_start (dom body) (others live.owners m) p (contains-dom body p ∙ is)) ∙ first (fin.get body p) is
    where
      first : (o : Option LeafValue) → is_some o ≡ true → either o (fin.get live.content p) ≡ o
      first None e = absurd (true≢false (sym e))
      first (Some v) e = refl

  -- ---- no conflict
  none_refused : (cs : List Conflict) → is_refused cs false ≡ false → cs ≡ []
  none_refused [] e = refl
  none_refused (c ∷ cs) e = absurd (true≢false e)

  abbrev changes : PathSet
  changes = changed body live.content

  none_listed : (s : PathSet) (k : Manager) (q : PathTexts) → beside k (in_order s) ≡ [] → set.contains s q ≡ false
  none_listed s k q e = sym (is_marked s q) ∙ fin.contains_key-keys (marked s) q ∙ ap (list_any (eq_by_cmp path_cmp q)) (bare (in_order s) e)
    where
      bare : (ps : List PathTexts) → beside k ps ≡ [] → ps ≡ []
      bare [] e = refl
      bare (p ∷ ps) e = absurd (true≢false (ap is_cons e))

  no_conflict : (s : PathSet) (es : Pairs) (k : Manager) (q : PathTexts) → conflicts_with s es ≡ [] → set.contains (unwrap_or (find manager_cmp k es) set.empty) q ≡ true → set.contains s q ≡ false
  no_conflict s [] k q e is = not_both _ is (set.contains-empty path_cmp q)
  no_conflict s (x ∷ es) k q e is = by_test (eq_by_cmp manager_cmp k x.0) is (no_conflict s es k q (right_none (beside x.0 (in_order (set.intersection x.1 s))) _ e))
    where
      in_both : (a b : Bool) → (a && b) ≡ false → a ≡ true → b ≡ false
      in_both true b e t = e
      in_both false b e t = absurd (true≢false (sym t))

      by_test : (b : Bool) → set.contains (unwrap_or (cond b (Some x.1) (find manager_cmp k es)) set.empty) q ≡ true → (set.contains (unwrap_or (find manager_cmp k es) set.empty) q ≡ true → set.contains s q ≡ false) → set.contains s q ≡ false
      by_test true is later =
          in_both (set.contains x.1 q) (set.contains s q)
          (sym (set.contains-intersection path_cmp_total x.1 s q) ∙ none_listed (set.intersection x.1 s) x.0 q (left_none (beside x.0 (in_order (set.intersection x.1 s))) (conflicts_with s es) e)) is
      by_test false is later = later is

  -- a path that no change touches has the value that it had
  unchanged_there : (p : PathTexts) → set.contains changes p ≡ false → either (fin.get body p) (fin.get live.content p) ≡ fin.get live.content p
  unchanged_there p h = by_value (fin.get body p) (fin.get live.content p) (sym (contains-changed body live.content p) ∙ h)
    where
      by_value : (a b : Option LeafValue) → (is_some a && not (same_value a b)) ≡ false → either a b ≡ b
      by_value None b e = refl
      by_value (Some v) b e = same_value-is (Some v) b (none_left (same_value (Some v) b) e)

  -- ---- the clauses
  pub still_owned : (k : Manager) (p : PathTexts) → is_same m k ≡ false → Owns live k p → set.contains changes p ≡ false → Owns (applied live body m) k p
  unfolding applied
  still_owned k p other is free =
      ap (λ s. set.contains s p) (owned_other live.owners m changes (dom body) k other) ∙ set.contains-difference path_cmp_total (owned_by live.owners k) changes p
      ∙ both_true _ _ is (ap not free)

  pub others_keep : is_refused (conflicts live body m) false ≡ false → OthersKeep live (applied live body m) m
  unfolding conflicts
  others_keep none k p apart is =
      let other = other_manager m k apart in
      let free = no_conflict changes (others live.owners m) k p (none_refused _ none) (ap (λ s. set.contains s p) (owned-others live body m k other) ∙ is) in
      (stays p (owned_in_all live body m k other p is) ∙ unchanged_there p free, still_owned k p other is free)

  owned_stand_by : (k : Manager) (p : PathTexts) (b : Bool) → is_same m k ≡ b → OwnedArePresent live → Owns (applied live body m) k p → IsPresent (applied live body m).content p
  unfolding applied
  owned_stand_by k p true same before is =
      let mine = sym (contains-dom body p) ∙ ap (λ s. set.contains s p) (sym (owned_mine live.owners m changes (dom body)) ∙ ap (owned_by (taken_over live.owners m changes (dom body))) (same_manager-is m k same)) ∙ is in
      ap is_some (stays_body p mine) ∙ mine
  owned_stand_by k p false other before is =
      let owned = left_true (set.contains (owned_by live.owners k) p) _ (sym (set.contains-difference path_cmp_total (owned_by live.owners k) changes p) ∙ ap (λ s. set.contains s p) (sym (owned_other live.owners m changes (dom body) k other)) ∙ is) in
      ap is_some (stays p (owned_in_all live body m k other p owned)) ∙ some_either (fin.get body p) (fin.get live.content p) (before k p owned)
    where
      some_either : (a b : Option LeafValue) → is_some b ≡ true → is_some (either a b) ≡ true
      some_either None b e = e
      some_either (Some v) b e = refl

  pub owned_stand : OwnedArePresent live → OwnedArePresent (applied live body m)
  owned_stand before k p is = owned_stand_by k p (is_same m k) refl before is

  -- ---- the same apply again
  abbrev after : State
  after = applied live body m

  changed_none : (p : PathTexts) → set.contains (changed body after.content) p ≡ false
  changed_none p = contains-changed body after.content p ∙ by_value (fin.get body p) refl
    where
      by_value : (o : Option LeafValue) → fin.get body p ≡ o → (is_some (fin.get body p) && not (same_value (fin.get body p) (fin.get after.content p))) ≡ false
      by_value None is = ap (λ a. is_some a && not (same_value (fin.get body p) (fin.get after.content p))) is
      by_value (Some v) is =
          let there : is_some (fin.get body p) ≡ true = ap is_some is in
          ap (λ a. is_some (fin.get body p) && not (same_value (fin.get body p) a)) (stays_body p there) ∙ ap₂ (λ a b. a && not b) there (same_value-itself (fin.get body p))

  nothing_changed : changed body after.content ≡ set.empty
  nothing_changed = same_paths (changed body after.content) set.empty (λ p. changed_none p ∙ sym (set.contains-empty path_cmp p))

  nothing_listed : (s : PathSet) (k : Manager) → s ≡ set.empty → beside k (in_order s) ≡ []
  nothing_listed s k e = ap (λ t. beside k (in_order t)) e ∙ ap (beside k) nothing_ordered
    where
      nothing_ordered : in_order set.empty ≡ []
      nothing_ordered = ap in_order (sym dom-nothing) ∙ in_order-nothing

  intersection-empty : (s : PathSet) → set.intersection s set.empty ≡ set.empty
  intersection-empty s = same_paths (set.intersection s set.empty) set.empty (λ q.
      set.contains-intersection path_cmp_total s set.empty q ∙ ap (λ b. set.contains s q && b) (set.contains-empty path_cmp q) ∙ and_false (set.contains s q) ∙ sym (set.contains-empty path_cmp q))
    where
      and_false : (b : Bool) → (b && false) ≡ false
      and_false true = refl
      and_false false = refl

  no_conflicts : (es : Pairs) → conflicts_with set.empty es ≡ []
  no_conflicts [] = refl
  no_conflicts (e ∷ es) = ap₂ (λ xs ys. xs ++ ys) (nothing_listed (set.intersection e.1 set.empty) e.0 (intersection-empty e.1)) (no_conflicts es)

  pub again_free : conflicts after body m ≡ []
  unfolding conflicts
  again_free = ap (λ s. conflicts_with s (others after.owners m)) nothing_changed ∙ no_conflicts (others after.owners m)

  -- all that the manager owns now is in the body
  clear_none : (t : PathSet) → ((p : PathTexts) → set.contains (dom body) p ≡ true → set.contains t p ≡ true) → clear_of (dom body) t ≡ set.empty
  clear_none t has = same_paths (clear_of (dom body) t) set.empty (λ p. contains-clear_of (dom body) t p ∙ by_test p (set.contains (dom body) p) refl ∙ sym (set.contains-empty path_cmp p))
    where
      by_test : (p : PathTexts) (b : Bool) → set.contains (dom body) p ≡ b → (b && not (has_at_or_below t p)) ≡ false
      by_test p true is = ap not (one_below t p p (has p is) (prefix_itself p))
      by_test p false is = refl

  owns_body : owned_by after.owners m ≡ dom body
  unfolding applied
  owns_body = owned_mine live.owners m changes (dom body)

  again_drops_none : dropped after body m ≡ set.empty
  unfolding dropped
  again_drops_none = ap (λ s. clear_of s (all_paths (dom body) (others after.owners m))) owns_body ∙ clear_none (all_paths (dom body) (others after.owners m)) (all_start (dom body) (others after.owners m))

  again_over : over body after.content ≡ after.content
  again_over = same (over body after.content) after.content (λ p. get-over body after.content p ∙ by_value p (fin.get body p) refl)
    where
      by_value : (p : PathTexts) (o : Option LeafValue) → fin.get body p ≡ o → either o (fin.get after.content p) ≡ fin.get after.content p
      by_value p None is = refl
      by_value p (Some v) is = sym is ∙ sym (stays_body p (ap is_some is))

  without-empty : (c : Content) → without c set.empty ≡ c
  without-empty c = ap (without c) (sym dom-nothing) ∙ same (without c (dom nothing)) c (λ p. get-without c (dom nothing) p ∙ ap (λ b. cond b None (fin.get c p)) (nothing-above p))

  again_owned : taken_over after.owners m (changed body after.content) (dom body) ≡ after.owners
  unfolding applied
  again_owned = ap (λ s. taken_over after.owners m s (dom body)) nothing_changed ∙ taken_again live.owners m changes (dom body)

  again_stands : without (over body after.content) (dropped after body m) ≡ after.content
  again_stands = ap₂ without again_over again_drops_none ∙ without-empty after.content

  again_same : applied after body m ≡ after
  again_same = sym (both_parts after body m) ∙ (λ i. record { content = again_stands i; owners = again_owned i })

  pub again : IsSettled (applied live body m) body m
  again = (again_free, again_same)
