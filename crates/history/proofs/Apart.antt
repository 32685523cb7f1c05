-- The changes of some keys alone, as those of one type, are a history of their own.
use Rattle.std.proofs.Common.{◌≡◌, ℕ, ◌-◌, Bool, true, false, cond, ◌&&◌, List, [], ◌∷◌, refl, sym, ap, ap₂, ◌∙◌, Option, Some, None, filter}
use Rattle.std.specs.Prelude.{nat_le, nat_lt, option_map}
use Rattle.std.specs.List.{flat_map}
use Rattle.std.specs.FinMap as fin
use Rattle.history.specs.History.{Key, key_cmp, Object, Objects, Change, is_same_key, left_by, up_to, later, state_at, IsRising}
use Rattle.history.specs.Seen.{Selection, if_wanted, seen_at, seen_by, seen_changes, seen_of, selected}
use Rattle.history.proofs.Befores.{seen_one_by_one, unseen}
use Rattle.history.proofs.Keys.{same, tied}
use Rattle.history.proofs.Lists.{filter_both, filter_turned, flat_map-filter}
use Rattle.history.proofs.Revisions.{rising-filter}
use Rattle.history.proofs.Selecting.{entries-selected, get-selected, kept_object}
use Rattle.history.proofs.Views.{get-changed, last_of}

abbrev pub of_keys : (Key → Bool) → Selection
of_keys own = λ k _. own k

kept_own : (own : Key → Bool) (k : Key) (o : Option Object) → own k ≡ true → kept_object (of_keys own) k o ≡ o
kept_own own k None is = refl
kept_own own k (Some o) is = ap (λ b. cond b (Some o) None) is

kept_none : (own : Key → Bool) (k : Key) (o : Option Object) → own k ≡ false → kept_object (of_keys own) k o ≡ None
kept_none own k None is = refl
kept_none own k (Some o) is = ap (λ b. cond b (Some o) None) is

module _ (own : Key → Bool) (q : Key) (r : ℕ) where
  own_change : (d : Change) (old1 old2 : Option Object) → own d.key ≡ true → old1 ≡ kept_object (of_keys own) q old2
      → cond (is_same_key q d.key) (left_by d) old1 ≡ kept_object (of_keys own) q (cond (is_same_key q d.key) (left_by d) old2)
  own_change d old1 old2 is alike = go (is_same_key q d.key) refl
    where
      go : (t : Bool) → is_same_key q d.key ≡ t → cond t (left_by d) old1 ≡ kept_object (of_keys own) q (cond t (left_by d) old2)
      go true t = sym (kept_own own q (left_by d) (ap own (tied q d.key t) ∙ is))
      go false t = alike

  other_change : (d : Change) (old1 old2 : Option Object) → own d.key ≡ false → old1 ≡ kept_object (of_keys own) q old2
      → old1 ≡ kept_object (of_keys own) q (cond (is_same_key q d.key) (left_by d) old2)
  other_change d old1 old2 is alike = go (is_same_key q d.key) refl
    where
      go : (t : Bool) → is_same_key q d.key ≡ t → old1 ≡ kept_object (of_keys own) q (cond t (left_by d) old2)
      go true t =
          let none : own q ≡ false = ap own (tied q d.key t) ∙ is in
          alike ∙ kept_none own q old2 none ∙ sym (kept_none own q (left_by d) none)
      go false t = alike

  last_own : (old1 old2 : Option Object) (cs : List Change) → old1 ≡ kept_object (of_keys own) q old2
      → last_of q old1 (up_to r (filter (λ c. own c.key) cs)) ≡ kept_object (of_keys own) q (last_of q old2 (up_to r cs))
  last_own old1 old2 [] alike = alike
  last_own old1 old2 (d ∷ cs) alike = go (own d.key) refl (nat_le d.revision r) refl (λ new1 new2. last_own new1 new2 cs)
    where
      go : (a : Bool) → own d.key ≡ a → (b : Bool) → nat_le d.revision r ≡ b
          → ((new1 new2 : Option Object) → new1 ≡ kept_object (of_keys own) q new2 → last_of q new1 (up_to r (filter (λ c. own c.key) cs)) ≡ kept_object (of_keys own) q (last_of q new2 (up_to r cs)))
          → last_of q old1 (up_to r (cond a (d ∷ filter (λ c. own c.key) cs) (filter (λ c. own c.key) cs))) ≡ kept_object (of_keys own) q (last_of q old2 (cond b (d ∷ up_to r cs) (up_to r cs)))
      go true is true le others =
          ap (λ b. last_of q old1 (cond b (d ∷ up_to r (filter (λ c. own c.key) cs)) (up_to r (filter (λ c. own c.key) cs)))) le
          ∙ others (cond (is_same_key q d.key) (left_by d) old1) (cond (is_same_key q d.key) (left_by d) old2) (own_change d old1 old2 is alike)
      go true is false le others =
          ap (λ b. last_of q old1 (cond b (d ∷ up_to r (filter (λ c. own c.key) cs)) (up_to r (filter (λ c. own c.key) cs)))) le ∙ others old1 old2 alike
      go false is true le others = others old1 (cond (is_same_key q d.key) (left_by d) old2) (other_change d old1 old2 is alike)
      go false is false le others = others old1 old2 alike

pub state_of_own : (own : Key → Bool) (cs : List Change) (r : ℕ) → state_at (filter (λ c. own c.key) cs) r ≡ selected (of_keys own) (state_at cs r)
state_of_own own cs r = same _ _ (λ q.
    get-changed fin.empty (up_to r (filter (λ c. own c.key) cs)) q
    ∙ last_own own q r (fin.get fin.empty q) (fin.get fin.empty q) cs (fin.get-empty key_cmp q ∙ ap (kept_object (of_keys own) q) (sym (fin.get-empty key_cmp q)))
    ∙ ap (kept_object (of_keys own) q) (sym (get-changed fin.empty (up_to r cs) q))
    ∙ sym (get-selected (of_keys own) (state_at cs r) q))

-- a selection of the objects of some keys
abbrev pub own_and : (Key → Bool) → Selection → Selection
own_and own wanted = λ k b. own k && wanted k b

pub seen_at_own : (own : Key → Bool) (wanted : Selection) (cs : List Change) (r : ℕ) → seen_at wanted (filter (λ c. own c.key) cs) r ≡ seen_at (own_and own wanted) cs r
seen_at_own own wanted cs r =
    ap (selected wanted) (state_of_own own cs r)
    ∙ fin.same_entries_map _ _ (
    entries-selected wanted (selected (of_keys own) (state_at cs r))
    ∙ ap (filter (λ e. wanted e.0 e.1.body)) (entries-selected (of_keys own) (state_at cs r))
    ∙ filter_both (λ e. wanted e.0 e.1.body) (λ e. own e.0) (fin.entries (state_at cs r))
    ∙ sym (entries-selected (own_and own wanted) (state_at cs r))
    )

same_wanted : (own : Key → Bool) (wanted : Selection) (k : Key) (body : Option (List ℕ)) → own k ≡ true → if_wanted wanted k body ≡ if_wanted (own_and own wanted) k body
same_wanted own wanted k None is = refl
same_wanted own wanted k (Some b) is = sym (ap (λ t. cond (t && wanted k b) (Some b) None) is)

seen_alike : (own : Key → Bool) (wanted : Selection) (s : Objects) (c : Change) → own c.key ≡ true → seen_of wanted (selected (of_keys own) s) c ≡ seen_of (own_and own wanted) s c
seen_alike own wanted s c is = ap₂ (λ a b. seen_by c.revision c.key a b)
    (ap (λ o. if_wanted wanted c.key (option_map (λ o. o.body) o)) (get-selected (of_keys own) s c.key ∙ kept_own own c.key (fin.get s c.key) is) ∙ same_wanted own wanted c.key (option_map (λ o. o.body) (fin.get s c.key)) is)
    (same_wanted own wanted c.key c.body is)

and_first : (a b : Bool) → (a && b) ≡ true → a ≡ true
and_first true b e = refl
and_first false b e = e

pub seen_changes_own : (own : Key → Bool) (wanted : Selection) (cs : List Change) (top r q : ℕ) → IsRising 0 cs top
    → seen_changes wanted (filter (λ c. own c.key) cs) r q ≡ seen_changes (own_and own wanted) cs r q
seen_changes_own own wanted cs top r q rise =
    seen_one_by_one wanted (filter (λ c. own c.key) cs) top r q (rising-filter _ 0 top cs rise)
    ∙ ap (flat_map (λ c. seen_of wanted (state_at (filter (λ d. own d.key) cs) (c.revision - 1)) c))
    (ap (up_to q) (filter_turned (λ c. nat_lt r c.revision) (λ c. own c.key) cs) ∙ filter_turned (λ c. nat_le c.revision q) (λ c. own c.key) (later r cs))
    ∙ flat_map-filter (λ c. seen_of wanted (state_at (filter (λ d. own d.key) cs) (c.revision - 1)) c) (λ c. seen_of (own_and own wanted) (state_at cs (c.revision - 1)) c) (λ c. own c.key)
    (λ c is. ap (λ s. seen_of wanted s c) (state_of_own own cs (c.revision - 1)) ∙ seen_alike own wanted (state_at cs (c.revision - 1)) c is)
    (λ c none. unseen (own_and own wanted) own (λ k b e. and_first (own k) (wanted k b) e) (state_at cs (c.revision - 1)) c none) (up_to q (later r cs))
    ∙ sym (seen_one_by_one (own_and own wanted) cs top r q rise)
