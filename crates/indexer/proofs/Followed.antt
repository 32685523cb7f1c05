-- Every index follows the objects, call by call.
use Rattle.std.proofs.Common.{◌≡◌, ℕ, Bool, true, false, cond, List, [], ◌∷◌, Option, Some, None, refl, sym, subst}
use Rattle.std.specs.Prelude.{IfSome}
use Rattle.std.specs.FinMap.{empty, get, insert, remove, get-empty, get-insert, get-remove}
use Rattle.std.specs.Ordering.{eq_by_cmp}
use Rattle.indexer.specs.CallLaws.{Call, put_one, remove_at, replace_by, clear_all, after, after_all, IsFollowed}
use Rattle.indexer.specs.Kept.{IndexedObjects}
use Rattle.indexer.specs.Objects.{Place, place_cmp, Stored}
use Rattle.indexer.specs.PutAll.{put_all}
use Rattle.indexer.proofs.IndexedObjects.{place_total}

module _ (ks : Stored → List (List (List ℕ))) where
  abbrev Fits : Option (Stored × List (List (List ℕ))) → Type 0
  Fits o = IfSome o (λ h. h.1 ≡ ks h.0)

  at_empty : IsFollowed ks empty
  at_empty p = subst Fits (sym (get-empty place_cmp p)) tt

  at_insert : (held : IndexedObjects) (o : Stored) → IsFollowed ks held → IsFollowed ks (insert held (o.namespace, o.name) (o, ks o))
  at_insert held o h p = subst Fits (sym (get-insert place_total held (o.namespace, o.name) (o, ks o) p)) (go (eq_by_cmp place_cmp p (o.namespace, o.name)))
    where
      go : (t : Bool) → Fits (cond t (Some (o, ks o)) (get held p))
      go true = refl
      go false = h p

  at_remove : (held : IndexedObjects) (k : Place) → IsFollowed ks held → IsFollowed ks (remove held k)
  at_remove held k h p = subst Fits (sym (get-remove place_total held k p)) (go (eq_by_cmp place_cmp p k))
    where
      go : (t : Bool) → Fits (cond t None (get held p))
      go true = tt
      go false = h p

  at_put_all : (os : List Stored) (held : IndexedObjects) → IsFollowed ks held → IsFollowed ks (put_all ks os held)
  at_put_all [] held h = h
  at_put_all (o ∷ os) held h = at_put_all os (insert held (o.namespace, o.name) (o, ks o)) (at_insert held o h)

  at_call : (call : Call) (held : IndexedObjects) → IsFollowed ks held → IsFollowed ks (after ks call held)
  at_call (put_one o) held h = at_insert held o h
  at_call (remove_at p) held h = at_remove held p h
  at_call (replace_by os) held h = at_put_all os empty at_empty
  at_call clear_all held h = at_empty

  from_held : (calls : List Call) (held : IndexedObjects) → IsFollowed ks held → IsFollowed ks (after_all ks calls held)
  from_held [] held h = h
  from_held (call ∷ calls) held h = from_held calls (after ks call held) (at_call call held h)

  pub followed : (calls : List Call) → IsFollowed ks (after_all ks calls empty)
  followed calls = from_held calls empty at_empty
