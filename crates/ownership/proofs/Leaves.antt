-- An apply leaves no leaf and no set item without an owner that had one or is written.
use Rattle.std.proofs.Common.{◌≡◌, Bool, true, false, cond, not, ◌&&◌, ◌||◌, [], ◌∷◌, Option, Some, None, is_some, inl, inr, ◌⊎◌, refl, sym, ap, ap₂, ◌∙◌, subst, T, true≢false}
use Rattle.std.specs.FinMap as fin
use Rattle.std.specs.FinMap.{find, is_sorted}
use Rattle.std.specs.FinMap.Entries.{below_all}
use Rattle.std.specs.FinSet as set
use Rattle.std.specs.Cmp.{Equal-is, tied_itself}
use Rattle.std.specs.Option.{unwrap_or}
use Rattle.std.specs.Ordering.{eq_by_cmp, is_eq}
use Rattle.fieldpath.specs.Paths.{PathTexts, path_cmp}
use Rattle.pathmap.specs.Contents.{LeafValue, Content, PathSet, over, dom}
use Rattle.pathmap.specs.Beside.{same_value, is_prefix, has_at_or_below, has_at_or_above, changed, clear_of}
use Rattle.pathmap.proofs.Contents.{path_cmp_total, either, get-over}
use Rattle.pathmap.proofs.Sets.{contains-dom, contains-changed, contains-clear_of, get-without}
use Rattle.schema.specs.Place.{place_of}
use Rattle.schema.specs.Shape.{Shape}
use Rattle.objects.specs.Owners.{Manager, is_same, owned_by, others, manager_cmp}
use Rattle.objects.specs.State.{State}
use Rattle.ownership.specs.Apply.{all_paths, applied, dropped}
use Rattle.objects.specs.WellTyped.{Owns, OwnedArePresent}
use Rattle.ownership.specs.Keeping.{HasPlaces, LeavesOwned, StoodUnowned, is_end}
use Rattle.ownership.proofs.Ends.{ends}
use Rattle.objects.proofs.Entries.{Pairs, fst, snd}
use Rattle.ownership.proofs.Keeping.{all_found, prefix_itself, some_below, one_above, still_owned}
use Rattle.objects.proofs.Within.{same_manager-is}
use Rattle.objects.proofs.Taking.{none_above, find-others, sorted-others, owned_mine}
use Rattle.objects.proofs.Orders.{manager_total, manager_antisymmetric}

-- some entry has the path
abbrev pub Found : Pairs → PathTexts → Type 0
Found es q = (k : Manager) × (set.contains (unwrap_or (find manager_cmp k es) set.empty) q ≡ true)

pub no_path : {A : Type 0} (q : PathTexts) → set.contains (set.empty {R = path_cmp}) q ≡ true → A
no_path q is = absurd (true≢false (sym is ∙ set.contains-empty path_cmp q))

-- a path of all is one of the first set or of an entry
pub all_back : (s : PathSet) (es : Pairs) → T (is_sorted manager_cmp es) → (q : PathTexts) → set.contains (all_paths s es) q ≡ true → (set.contains s q ≡ true) ⊎ Found es q
all_back s [] h q is = inl is
all_back s (e ∷ es) h q is = by_rest (all_back (set.union e.1 s) es (snd _ _ h) q is)
  where
    first : Manager → Option PathSet
    first k = find manager_cmp k (e ∷ es)

    here : set.contains e.1 q ≡ true → Found (e ∷ es) q
    here is = (e.0, ap (λ o. set.contains (unwrap_or (cond (is_eq o) (Some e.1) (find manager_cmp e.0 es)) set.empty) q) (tied_itself manager_total e.0) ∙ is)

    by_first : (a b : Bool) → set.contains e.1 q ≡ a → (a || b) ≡ true → b ≡ set.contains s q → (set.contains s q ≡ true) ⊎ Found (e ∷ es) q
    by_first true b is h same = inr (here is)
    by_first false b is h same = inl (sym same ∙ h)

    later : (k : Manager) (b : Bool) → eq_by_cmp manager_cmp k e.0 ≡ b → set.contains (unwrap_or (find manager_cmp k es) set.empty) q ≡ true → Found (e ∷ es) q
    later k false tie is = (k, ap (λ b. set.contains (unwrap_or (cond b (Some e.1) (find manager_cmp k es)) set.empty) q) tie ∙ is)
    later k true tie is =
        no_path q (sym (ap (λ o. set.contains (unwrap_or o set.empty) q) (none_above k es (subst (λ x. T (below_all manager_cmp x es)) (sym (manager_antisymmetric k e.0 ((Equal-is (manager_cmp k e.0)).0 tie))) (fst _ _ h)))) ∙ is)

    by_rest : (set.contains (set.union e.1 s) q ≡ true) ⊎ Found es q → (set.contains s q ≡ true) ⊎ Found (e ∷ es) q
    by_rest (inl is) = by_first (set.contains e.1 q) (set.contains s q) refl (sym (set.contains-union path_cmp_total e.1 s q) ∙ is) refl
    by_rest (inr (k, is)) = inr (later k (eq_by_cmp manager_cmp k e.0) refl is)

-- all that anybody owns
abbrev pub owned_paths : State → PathSet
owned_paths state = all_paths set.empty (fin.entries state.owners)

pub is_owned : (state : State) (k : Manager) (p : PathTexts) → Owns state k p → set.contains (owned_paths state) p ≡ true
unfolding owned_by
is_owned state k p owns = all_found set.empty (fin.entries state.owners) k p (ap (λ o. set.contains (unwrap_or o set.empty) p) (sym (fin.get-entries state.owners k)) ∙ owns)

pub owner_of : (state : State) (p : PathTexts) → set.contains (owned_paths state) p ≡ true → (k : Manager) × Owns state k p
unfolding owned_by
owner_of state p is = by_start (all_back set.empty (fin.entries state.owners) (fin.entries_sorted state.owners) p is)
  where
    by_start : (set.contains (set.empty {R = path_cmp}) p ≡ true) ⊎ Found (fin.entries state.owners) p → (k : Manager) × Owns state k p
    by_start (inl bare) = absurd (true≢false (sym bare ∙ set.contains-empty path_cmp p))
    by_start (inr found) = (found.0, ap (λ o. set.contains (unwrap_or o set.empty) p) (fin.get-entries state.owners found.0) ∙ found.1)

-- somebody owns a path, or nobody does
pub owned_or_not : (state : State) (p : PathTexts) → ((k : Manager) × Owns state k p) ⊎ ((k : Manager) → ¬ (Owns state k p))
owned_or_not state p = by_test (set.contains (owned_paths state) p) refl
  where
    by_test : (b : Bool) → set.contains (owned_paths state) p ≡ b → ((k : Manager) × Owns state k p) ⊎ ((k : Manager) → ¬ (Owns state k p))
    by_test true is = inl (owner_of state p is)
    by_test false is = inr (λ k owns. true≢false (sym (is_owned state k p owns) ∙ is))

module _ (live : State) (body : Content) (m : Manager) (s : Shape) (places : HasPlaces s live.content) (body_places : HasPlaces s body) (leaf_value : OwnedArePresent live) (p : PathTexts)
    (end : is_end (place_of s p) ≡ true) (absent : fin.get body p ≡ None) where
  -- the manager's own leaf, at or below which there is a path that keeps it
  taken : (r : PathTexts) → is_prefix p r ≡ true → set.contains (dom body) r ≡ true → ⊥
  taken r prefix is =
      let there = sym (contains-dom body r) ∙ is in
      let alike = ends s p r end (body_places r there) prefix in
      true≢false (sym there ∙ ap (λ q. is_some (fin.get body q)) (sym alike) ∙ ap is_some absent)

  unchanged_here : set.contains (changed body live.content) p ≡ false
  unchanged_here = contains-changed body live.content p ∙ ap (λ o. is_some o && not (same_value (fin.get body p) (fin.get live.content p))) absent

  shared : (r : PathTexts) → is_prefix p r ≡ true → (k : Manager) (b : Bool) → is_same m k ≡ b → set.contains (unwrap_or (find manager_cmp k (others live.owners m)) set.empty) r ≡ true
      → (k : Manager) × Owns (applied live body m) k p
  unfolding owned_by
  shared r prefix k true same is = no_path r (sym (ap (λ o. set.contains (unwrap_or o set.empty) r) (find-others live.owners m k ∙ ap (λ b. cond (not b) (fin.get live.owners k) None) same)) ∙ is)
  shared r prefix k false other is =
      let owned = sym (ap (λ o. set.contains (unwrap_or o set.empty) r) (find-others live.owners m k ∙ ap (λ b. cond (not b) (fin.get live.owners k) None) other)) ∙ is in
      let alike = ends s p r end (places r (leaf_value k r owned)) prefix in
      (k, still_owned live body m k p other (ap (λ q. set.contains (owned_by live.owners k) q) alike ∙ owned) unchanged_here)

  abbrev all_of : PathSet
  all_of = all_paths (dom body) (others live.owners m)

  by_prefix : (r : PathTexts) → is_prefix p r ≡ true → (set.contains (dom body) r ≡ true) ⊎ Found (others live.owners m) r → (k : Manager) × Owns (applied live body m) k p
  by_prefix r prefix (inl is) = absurd (taken r prefix is)
  by_prefix r prefix (inr (k, is)) = shared r prefix k (is_same m k) refl is

  not_dropped : has_at_or_above (dropped live body m) p ≡ false → set.contains (owned_by live.owners m) p ≡ true → has_at_or_below all_of p ≡ true
  unfolding dropped
  not_dropped free owned = by_test (has_at_or_below all_of p) refl
    where
      by_test : (b : Bool) → has_at_or_below all_of p ≡ b → b ≡ true
      by_test true h = refl
      by_test false h =
          let gone = contains-clear_of (owned_by live.owners m) all_of p ∙ ap₂ (λ a b. a && not b) owned h in
          absurd (true≢false (sym (one_above (clear_of (owned_by live.owners m) all_of) p p gone (prefix_itself p)) ∙ free))

  by_owner : has_at_or_above (dropped live body m) p ≡ false → (k : Manager) (b : Bool) → is_same m k ≡ b → Owns live k p → (k : Manager) × Owns (applied live body m) k p
  by_owner free k false other owned = (k, still_owned live body m k p other owned unchanged_here)
  by_owner free k true same owned =
      let found = some_below all_of p (not_dropped free (ap (λ x. set.contains (owned_by live.owners x) p) (same_manager-is m k same) ∙ owned)) in
      by_prefix found.0 found.2 (all_back (dom body) (others live.owners m) (sorted-others live.owners m) found.0 found.1)

module _ (live : State) (body : Content) (m : Manager) where
  pub after-is : (p : PathTexts) → fin.get (applied live body m).content p ≡ cond (has_at_or_above (dropped live body m) p) None (either (fin.get body p) (fin.get live.content p))
  unfolding applied
  after-is p = get-without (over body live.content) (dropped live body m) p ∙ ap (cond (has_at_or_above (dropped live body m) p) None) (get-over body live.content p)

  -- what stands after an apply stood in one of the two contents
  pub places_kept : (s : Shape) → HasPlaces s live.content → HasPlaces s body → HasPlaces s (applied live body m).content
  places_kept s places body_places p there = by_body (fin.get body p) refl
    where
      some_of : (b : Bool) (o : Option LeafValue) → is_some (cond b None o) ≡ true → is_some o ≡ true
      some_of true o h = absurd (true≢false (sym h))
      some_of false o h = h

      by_body : (o : Option LeafValue) → fin.get body p ≡ o → is_some (place_of s p) ≡ true
      by_body (Some v) is = body_places p (ap is_some is)
      by_body None is =
          places p (some_of (has_at_or_above (dropped live body m) p) (fin.get live.content p)
          (sym (ap is_some (after-is p ∙ ap (λ o. cond (has_at_or_above (dropped live body m) p) None (either o (fin.get live.content p))) is)) ∙ there))

module _ (live : State) (body : Content) (m : Manager) (s : Shape) (places : HasPlaces s live.content) (body_places : HasPlaces s body) (leaf_value : OwnedArePresent live) where
  mine : (p : PathTexts) → is_some (fin.get body p) ≡ true → Owns (applied live body m) m p
  unfolding applied
  mine p is = ap (λ t. set.contains t p) (owned_mine live.owners m (changed body live.content) (dom body)) ∙ contains-dom body p ∙ is

  free_of : (b : Bool) (o : Option LeafValue) → is_some (cond b None o) ≡ true → b ≡ false
  free_of true o h = absurd (true≢false (sym h))
  free_of false o h = refl

  pub leaves_owned : LeavesOwned s live (applied live body m)
  leaves_owned p there end = by_body (fin.get body p) refl
    where
      by_body : (o : Option LeafValue) → fin.get body p ≡ o → ((k : Manager) × Owns (applied live body m) k p) ⊎ StoodUnowned live (applied live body m) p
      by_body (Some v) is = inl (m, mine p (ap is_some is))
      by_body None is = by_owned (owned_or_not live p)
        where
          after : fin.get (applied live body m).content p ≡ cond (has_at_or_above (dropped live body m) p) None (fin.get live.content p)
          after = after-is live body m p ∙ ap (λ o. cond (has_at_or_above (dropped live body m) p) None (either o (fin.get live.content p))) is

          free : has_at_or_above (dropped live body m) p ≡ false
          free = free_of (has_at_or_above (dropped live body m) p) (fin.get live.content p) (sym (ap is_some after) ∙ there)

          by_owned : ((k : Manager) × Owns live k p) ⊎ ((k : Manager) → ¬ (Owns live k p)) → ((k : Manager) × Owns (applied live body m) k p) ⊎ StoodUnowned live (applied live body m) p
          by_owned (inl owner) = inl (by_owner live body m s places body_places leaf_value p end is free owner.0 (is_same m owner.0) refl owner.1)
          by_owned (inr nobody) = inr (after ∙ ap (λ b. cond b None (fin.get live.content p)) free, nobody)
