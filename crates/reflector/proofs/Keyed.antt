-- Objects with their keys.
use Rattle.std.proofs.Common.{◌≡◌, ℕ, Bool, true, false, cond, ◌&&◌, ◌+◌, suc, T, List, [], ◌∷◌, length, Option, Some, None, is_some, is_eq, refl, sym, ap, ap₂, subst, ◌∙◌}
use Rattle.std.specs.Prelude.{option_map}
use Rattle.std.specs.Ordering.{eq_by_cmp, is_lt}
use Rattle.std.specs.FinMap as fin
use Rattle.std.specs.FinMap.Entries as entries
use Rattle.indexer.specs.Objects.{Place, place_cmp, Stored}
use Rattle.reflector.specs.Client.{Objects}
use Rattle.reflector.specs.MirrorViews.{Keys, with_keys, keyed}
use Rattle.reflector.proofs.Places.{place_total, same_place}

pub place_antisymmetric : fin.IsAntisymmetric place_cmp
place_antisymmetric p q e = same_place p q (ap is_eq e)

abbrev pub Entries : Type 0
Entries = List (Place × Stored)

abbrev pub beside : Keys → Stored → Stored × List (List (List ℕ))
beside ks s = (s, ks s)

module _ (ks : Keys) where
  below_same : (p : Place) (es : Entries) → entries.below_all place_cmp p (with_keys ks es) ≡ entries.below_all place_cmp p es
  below_same p [] = refl
  below_same p (e ∷ es) = ap (λ (b : Bool). is_lt (place_cmp p e.0) && b) (below_same p es)

  sorted_same : (es : Entries) → entries.is_sorted place_cmp (with_keys ks es) ≡ entries.is_sorted place_cmp es
  sorted_same [] = refl
  sorted_same (e ∷ es) = ap₂ (λ (a b : Bool). a && b) (below_same e.0 es) (sorted_same es)

  either : (b : Bool) (s : Stored) (o : Option Stored) → cond b (Some (beside ks s)) (option_map (beside ks) o) ≡ option_map (beside ks) (cond b (Some s) o)
  either true s o = refl
  either false s o = refl

  found : (p : Place) (es : Entries) → entries.find place_cmp p (with_keys ks es) ≡ option_map (beside ks) (entries.find place_cmp p es)
  found p [] = refl
  found p (e ∷ es) = ap (cond (eq_by_cmp place_cmp p e.0) (Some (beside ks e.1))) (found p es) ∙ either (eq_by_cmp place_cmp p e.0) e.1 (entries.find place_cmp p es)

  sorted : (o : Objects) → T (entries.is_sorted place_cmp (with_keys ks (fin.entries o)))
  sorted o = subst T (sym (sorted_same (fin.entries o))) (fin.entries_sorted o)

  pub keyed-get : (o : Objects) (p : Place) → fin.get (keyed ks o) p ≡ option_map (beside ks) (fin.get o p)
  keyed-get o p = fin.get-from_sorted place_cmp (with_keys ks (fin.entries o)) p (sorted o) ∙ found p (fin.entries o) ∙ ap (option_map (beside ks)) (sym (fin.get-entries o p))

  first_beside : (o : Option Stored) → option_map (λ h. h.0) (option_map (beside ks) o) ≡ o
  first_beside None = refl
  first_beside (Some s) = refl

  pub keyed-object : (o : Objects) (p : Place) → option_map (λ h. h.0) (fin.get (keyed ks o) p) ≡ fin.get o p
  keyed-object o p = ap (option_map (λ h. h.0)) (keyed-get o p) ∙ first_beside (fin.get o p)

  same_length : (es : Entries) → length (with_keys ks es) ≡ length es
  same_length [] = refl
  same_length (e ∷ es) = ap suc (same_length es)

  pub keyed-len : (o : Objects) → fin.len (keyed ks o) ≡ fin.len o
  keyed-len o = fin.len-entries (keyed ks o) ∙ ap length (fin.entries-from_sorted place_cmp (with_keys ks (fin.entries o)) (sorted o)) ∙ same_length (fin.entries o) ∙ sym (fin.len-entries o)

  pub keyed-insert : (o : Objects) (p : Place) (s : Stored) → fin.insert (keyed ks o) p (beside ks s) ≡ keyed ks (fin.insert o p s)
  keyed-insert o p s =
      fin.same_map place_total place_antisymmetric (fin.insert (keyed ks o) p (beside ks s)) (keyed ks (fin.insert o p s)) (λ q.
      fin.get-insert place_total (keyed ks o) p (beside ks s) q
      ∙ ap (cond (eq_by_cmp place_cmp q p) (Some (beside ks s))) (keyed-get o q)
      ∙ either (eq_by_cmp place_cmp q p) s (fin.get o q)
      ∙ sym (keyed-get (fin.insert o p s) q ∙ ap (option_map (beside ks)) (fin.get-insert place_total o p s q)))

  or_none : (b : Bool) (o : Option Stored) → cond b None (option_map (beside ks) o) ≡ option_map (beside ks) (cond b None o)
  or_none true o = refl
  or_none false o = refl

  pub keyed-remove : (o : Objects) (p : Place) → fin.remove (keyed ks o) p ≡ keyed ks (fin.remove o p)
  keyed-remove o p =
      fin.same_map place_total place_antisymmetric (fin.remove (keyed ks o) p) (keyed ks (fin.remove o p)) (λ q.
      fin.get-remove place_total (keyed ks o) p q
      ∙ ap (cond (eq_by_cmp place_cmp q p) None) (keyed-get o q)
      ∙ or_none (eq_by_cmp place_cmp q p) (fin.get o q)
      ∙ sym (keyed-get (fin.remove o p) q ∙ ap (option_map (beside ks)) (fin.get-remove place_total o p q)))

  is_there : (o : Option Stored) → is_some (option_map (beside ks) o) ≡ is_some o
  is_there None = refl
  is_there (Some s) = refl

  -- so many objects there are after a put
  pub keyed-len_insert : (o : Objects) (p : Place) (s : Stored) → cond (is_some (fin.get (keyed ks o) p)) (fin.len (keyed ks o)) (fin.len (keyed ks o) + 1) ≡ fin.len (fin.insert o p s)
  keyed-len_insert o p s =
      ap₂ (λ (b : Bool) (n : ℕ). cond b n (n + 1)) (ap is_some (keyed-get o p) ∙ is_there (fin.get o p)) (keyed-len o) ∙ sym (fin.len-insert place_total o p s)

  pub keyed-empty : fin.empty ≡ keyed ks fin.empty
  keyed-empty =
      fin.same_map place_total place_antisymmetric fin.empty (keyed ks fin.empty) (λ q.
      fin.get-empty place_cmp q ∙ ap (option_map (beside ks)) (sym (fin.get-empty place_cmp q)) ∙ sym (keyed-get fin.empty q))

  pub keyed-entries : (o : Objects) → fin.entries (keyed ks o) ≡ with_keys ks (fin.entries o)
  keyed-entries o = fin.entries-from_sorted place_cmp (with_keys ks (fin.entries o)) (sorted o)
