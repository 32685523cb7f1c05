-- What is held of the objects that stand.
use Rattle.std.proofs.Common.{◌≡◌, ℕ, suc, ◌<◌, ◌≤◌, ◌≢◌, Bool, true, false, cond, eqb, eqb-true, get_or, length, set, List, refl, sym, ap, subst, ◌∙◌, Option, Some, None, option_map, IfSome, arith}
use borrow.Author.Tests.{eqb-false}
use Rattle.std.specs.Cmp.{tied_itself}
use Rattle.std.specs.Ordering.{is_eq}
use Rattle.std.specs.FinMap as fin
use Rattle.std.proofs.lemmas.List.{get_or-set_other, get_or-set_same, length-set}
use Rattle.history.specs.History.{History, IsRising, Key, is_same_key, object_by, current_objects, written}
use Rattle.history.specs.Read.{key_of}
use Rattle.revstore.specs.Shared.{object_in}
use Rattle.history.proofs.Keys.{get-put_or_remove, key_cmp_total, tied}
use Rattle.history.proofs.Writes.{current_objects_written}
use Rattle.history.specs.Kept.{pruned}
use Rattle.history.proofs.Views.{kept_states}
use Rattle.revstore.specs.CachedObject.{AreCached, AreIn, IsCurrent, slot_of}
use Rattle.revstore.specs.declared.cached.ObjectCache.{ObjectCache}
use Rattle.revstore.specs.declared.cached.CachedObject.{CachedObject}

-- a slot is put, and the others stay
put_one : {X : Type 0} (P : ℕ → X → Type 0) (slots : List (Option X)) (at : ℕ) (new : Option X) → ((i : ℕ) (d : Option X) → i < length slots → i ≢ at → IfSome (get_or slots i d) (P i)) → IfSome new (P at)
    → (i : ℕ) (d : Option X) → i < length (set slots at new) → IfSome (get_or (set slots at new) i d) (P i)
put_one P slots at new others it = λ i d lt. go i d (omega (arith, lt, length-set slots at new)) (eqb i at) refl
  where
    go : (i : ℕ) (d : Option _) → i < length slots → (b : Bool) → eqb i at ≡ b → IfSome (get_or (set slots at new) i d) (P i)
    go i d lt true is =
        let same : i ≡ at = eqb-true i at is in
        let here : get_or (set slots at new) i d ≡ new = ap (λ n. get_or (set slots at new) n d) same ∙ get_or-set_same slots at new d (omega (arith, same, lt)) in
        subst (λ o. IfSome o (P i)) (sym here) (subst (λ n. IfSome new (P n)) (sym same) it)
    go i d lt false is = subst (λ o. IfSome o (P i)) (sym (get_or-set_other slots at i new d (eqb-false i at is))) (others i d lt (eqb-false i at is))

pub if_some : {X : Type 0} (P Q : X → Type 0) (o : Option X) → ((x : X) → P x → Q x) → IfSome o P → IfSome o Q
if_some P Q None f h = h
if_some P Q (Some x) f h = f x h

module _ (h : History) (k : Key) (body : Option (List ℕ)) (rise : IsRising 0 h.changes h.current) where
  get_written : (q : Key) → fin.get (current_objects (written h k body)) q ≡ cond (is_same_key q k) (object_by (suc h.current) body) (fin.get (current_objects h) q)
  get_written q = ap (λ s. fin.get s q) (current_objects_written h k body rise) ∙ get-put_or_remove (current_objects h) k (object_by (suc h.current) body) q

  written_stands : (cached : CachedObject) → key_of cached.key.value ≡ k → option_map object_in cached.object ≡ object_by (suc h.current) body → IsCurrent (written h k body) cached
  written_stands cached same is =
      let itself : is_same_key k k ≡ true = ap is_eq (tied_itself key_cmp_total k) in
      is ∙ sym (ap (λ b. cond b (object_by (suc h.current) body) (fin.get (current_objects h) k)) itself) ∙ sym (get_written k) ∙ ap (fin.get (current_objects (written h k body))) (sym same)

  -- what is in another slot is of another key
  other_stands : (i : ℕ) (cached : CachedObject) → i ≢ slot_of k → slot_of (key_of cached.key.value) ≡ i → IsCurrent h cached → IsCurrent (written h k body) cached
  other_stands i cached other at is = go (is_same_key (key_of cached.key.value) k) refl
    where
      go : (b : Bool) → is_same_key (key_of cached.key.value) k ≡ b → IsCurrent (written h k body) cached
      go true t = absurd (other (sym at ∙ ap slot_of (tied (key_of cached.key.value) k t)))
      go false t = is ∙ sym (ap (λ b. cond b (object_by (suc h.current) body) (fin.get (current_objects h) (key_of cached.key.value))) t) ∙ sym (get_written (key_of cached.key.value))

-- what was read of a key is put in its slot
pub put_read : (h : History) (k : Key) (slots : List (Option CachedObject)) (at : ℕ) (new : Option CachedObject) → at ≡ slot_of k → AreCached h slots → IfSome new (λ x. (key_of x.key.value ≡ k) × IsCurrent h x)
    → AreCached h (set slots at new)
put_read h k slots at new is cached it =
    put_one (λ i x. (slot_of (key_of x.key.value) ≡ i) × IsCurrent h x) slots at new (λ i d lt other. cached i d lt)
    (if_some (λ x. (key_of x.key.value ≡ k) × IsCurrent h x) (λ x. (slot_of (key_of x.key.value) ≡ at) × IsCurrent h x) new (λ x both. (ap slot_of both.0 ∙ sym is, both.1)) it)

-- what is written of a key is put in its slot
pub put_written : (h : History) (k : Key) (body : Option (List ℕ)) (slots : List (Option CachedObject)) (at : ℕ) (new : Option CachedObject) → IsRising 0 h.changes h.current → at ≡ slot_of k → AreCached h slots
    → IfSome new (λ x. (key_of x.key.value ≡ k) × (option_map object_in x.object ≡ object_by (suc h.current) body)) → AreCached (written h k body) (set slots at new)
put_written h k body slots at new rise is cached it =
    put_one (λ i x. (slot_of (key_of x.key.value) ≡ i) × IsCurrent (written h k body) x) slots at new
    (λ i d lt other. if_some (λ x. (slot_of (key_of x.key.value) ≡ i) × IsCurrent h x) (λ x. (slot_of (key_of x.key.value) ≡ i) × IsCurrent (written h k body) x) (get_or slots i d)
    (λ x both. (both.0, other_stands h k body rise i x (λ e. other (e ∙ sym is)) both.0 both.1)) (cached i d lt))
    (if_some (λ x. (key_of x.key.value ≡ k) × (option_map object_in x.object ≡ object_by (suc h.current) body)) (λ x. (slot_of (key_of x.key.value) ≡ at) × IsCurrent (written h k body) x) new
    (λ x both. (ap slot_of both.0 ∙ sym is, written_stands h k body rise x both.0 both.1)) it)

-- where a key has no slot, none is of it
pub none_written : (h : History) (k : Key) (body : Option (List ℕ)) (slots : List (Option CachedObject)) (at : ℕ) → IsRising 0 h.changes h.current → at ≡ slot_of k → length slots ≤ at → AreCached h slots
    → AreCached (written h k body) slots
none_written h k body slots at rise is few cached = λ i d lt.
    if_some (λ x. (slot_of (key_of x.key.value) ≡ i) × IsCurrent h x) (λ x. (slot_of (key_of x.key.value) ≡ i) × IsCurrent (written h k body) x) (get_or slots i d)
    (λ x both. (both.0, other_stands h k body rise i x (λ e. let a : i ≡ at = e ∙ sym is in omega (arith, lt, few, a)) both.0 both.1)) (cached i d lt)

-- a compaction leaves what stands now
pub still_in : (h : History) (to : ℕ) (slots : Option ObjectCache) → IsRising 0 h.changes h.current → to ≤ h.current → IfSome slots (AreIn h) → IfSome slots (AreIn (pruned to h))
still_in h to slots rise low cached =
    let same : current_objects (pruned to h) ≡ current_objects h = kept_states to h.current h.current h.changes rise low in
    if_some (AreIn h) (AreIn (pruned to h)) slots
    (λ s all. λ i d lt. if_some (λ x. (slot_of (key_of x.key.value) ≡ i) × IsCurrent h x) (λ x. (slot_of (key_of x.key.value) ≡ i) × IsCurrent (pruned to h) x) (get_or s.all.items i d)
    (λ x both. (both.0, both.1 ∙ ap (λ t. fin.get t (key_of x.key.value)) (sym same))) (all i d lt)) cached
