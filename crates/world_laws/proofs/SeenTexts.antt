-- The text in each change of a machine that a selection sees: that of an object of the change's key.
use Rattle.std.proofs.Common.{◌≡◌, ℕ, Bool, true, false, cond, List, [], ◌∷◌, Option, Some, None, option_map, refl, sym, subst, ◌∙◌}
use Rattle.std.specs.Prelude.{IfSome, nat_le, nat_lt}
use Rattle.std.specs.FinMap as fin
use Rattle.std.specs.List.{AllByRecursion}
use Rattle.api_types.specs.TypesFile.{ServedShape}
use Rattle.history.specs.History.{Change, History, Key, Object, Objects, changed, is_same_key, key_cmp, later, left_by, object_by, put_or_remove, state_at, up_to}
use Rattle.history.specs.Seen.{Added, Deleted, Modified, SeenChange, SeenKind, Selection, if_wanted, seen_among, seen_by, seen_changes, seen_of}
use Rattle.history.proofs.Keys.{get-put_or_remove, tied}
use Rattle.history.proofs.Lists.{all-filter}
use Rattle.objects.proofs.Taken.{no_some, same_some}
use Rattle.line_laws.proofs.SeenBodies.{all_both}
use Rattle.verbs.specs.Machine.{IsMachine, IsOfTypes, IsSomeTextAt}

-- of the key at the change's revision; of a deletion, at the version that stood before
abbrev pub HasText : List ServedShape → SeenKind → Key → Object → Type 0
HasText types Added k o = IsSomeTextAt types k o.revision o.body
HasText types Modified k o = IsSomeTextAt types k o.revision o.body
HasText types Deleted k o = (version : ℕ) × IsSomeTextAt types k version o.body

pub record IsSeenText (types : List ServedShape) (wanted : Selection) (x : SeenChange) : Type 0 where
  pub says : HasText types x.kind x.key x.object
  pub is_wanted : wanted x.key x.object.body ≡ true

module _ (types : List ServedShape) where
  abbrev AreTexts : Objects → Type 0
  AreTexts s = (k : Key) (o : Object) → fin.get s k ≡ Some o → IsSomeTextAt types k o.revision o.body

  -- ---- what stands

  left_is : (k : Key) (r : ℕ) (body : Option (List ℕ)) (o : Object) → IfSome body (IsSomeTextAt types k r) → object_by r body ≡ Some o → IsSomeTextAt types k o.revision o.body
  left_is k r None o text is = absurd (no_some o (sym is))
  left_is k r (Some b) o text is = subst (λ (x : Object). IsSomeTextAt types k x.revision x.body) (same_some (record { revision = r; body = b }) o is) text

  put_are : (s : Objects) (k : Key) (r : ℕ) (body : Option (List ℕ)) → AreTexts s → IfSome body (IsSomeTextAt types k r) → AreTexts (put_or_remove s k (object_by r body))
  put_are s k r body are text q o there = by_test (is_same_key q k) refl (sym (get-put_or_remove s k (object_by r body) q) ∙ there)
    where
      by_test : (b : Bool) → is_same_key q k ≡ b → cond b (object_by r body) (fin.get s q) ≡ Some o → IsSomeTextAt types q o.revision o.body
      by_test true same is = subst (λ (p : Key). IsSomeTextAt types p o.revision o.body) (sym (tied q k same)) (left_is k r body o text is)
      by_test false other is = are q o is

  changed_are : (cs : List Change) (s : Objects) → AreTexts s → AllByRecursion (IsOfTypes types) cs → AreTexts (changed s cs)
  changed_are [] s are all = are
  changed_are (c ∷ cs) s are all = changed_are cs (put_or_remove s c.key (left_by c)) (put_are s c.key c.revision c.body are all.0) all.1

  -- ---- what is seen

  module _ (wanted : Selection) where
    wanted_is : (Q : List ℕ → Type 0) (k : Key) (body : Option (List ℕ)) → IfSome body Q → IfSome (if_wanted wanted k body) (λ b. Q b × (wanted k b ≡ true))
    wanted_is Q k None is = tt
    wanted_is Q k (Some b) is = by_test (wanted k b) refl
      where
        by_test : (t : Bool) → wanted k b ≡ t → IfSome (cond t (Some b) None) (λ c. Q c × (wanted k c ≡ true))
        by_test true holds = (is, holds)
        by_test false holds = tt

    by_is : (r : ℕ) (k : Key) (before after : Option (List ℕ)) → IfSome before (λ b. ((version : ℕ) × IsSomeTextAt types k version b) × (wanted k b ≡ true)) → IfSome after (λ b. IsSomeTextAt types k r b × (wanted k b ≡ true))
        → AllByRecursion (IsSeenText types wanted) (seen_by r k before after)
    by_is r k None None before after = tt
    by_is r k None (Some b) before after = (record { says = after.0; is_wanted = after.1 }, tt)
    by_is r k (Some a) (Some b) before after = (record { says = after.0; is_wanted = after.1 }, tt)
    by_is r k (Some a) None before after = (record { says = before.0; is_wanted = before.1 }, tt)

    stood : (k : Key) (o : Option Object) → ((x : Object) → o ≡ Some x → IsSomeTextAt types k x.revision x.body) → IfSome (option_map (λ (x : Object). x.body) o) (λ b. (version : ℕ) × IsSomeTextAt types k version b)
    stood k None is = tt
    stood k (Some x) is = (x.revision, is x refl)

    among : (cs : List Change) (s : Objects) → AreTexts s → AllByRecursion (IsOfTypes types) cs → AllByRecursion (IsSeenText types wanted) (seen_among wanted s cs)
    among [] s are all = tt
    among (c ∷ cs) s are all =
        let before : Option (List ℕ) = option_map (λ (x : Object). x.body) (fin.get s c.key) in
        all_both (IsSeenText types wanted) (seen_of wanted s c) (seen_among wanted (put_or_remove s c.key (left_by c)) cs)
        (by_is c.revision c.key (if_wanted wanted c.key before) (if_wanted wanted c.key c.body)
        (wanted_is (λ b. (version : ℕ) × IsSomeTextAt types c.key version b) c.key before (stood c.key (fin.get s c.key) (are c.key)))
        (wanted_is (IsSomeTextAt types c.key c.revision) c.key c.body all.0))
        (among cs (put_or_remove s c.key (left_by c)) (put_are s c.key c.revision c.body are all.0) all.1)

  -- ---- over a machine

  pub seen_are_texts : (wanted : Selection) (m : History) (r q : ℕ) → IsMachine types m → AllByRecursion (IsSeenText types wanted) (seen_changes wanted m.changes r q)
  seen_are_texts wanted m r q is =
      among wanted (up_to q (later r m.changes)) (state_at m.changes r)
      (changed_are (up_to r m.changes) fin.empty (λ k o there. no_some o (sym there ∙ fin.get-empty key_cmp k)) (all-filter (IsOfTypes types) (λ c. nat_le c.revision r) m.changes is.texts))
      (all-filter (IsOfTypes types) (λ c. nat_le c.revision q) (later r m.changes) (all-filter (IsOfTypes types) (λ c. nat_lt r c.revision) m.changes is.texts))
