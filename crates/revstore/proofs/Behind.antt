-- A table behind writes that wait: what stays where they are written, and where one more waits.
use Rattle.std.proofs.Common.{◌≡◌, ℕ, suc, ◌+◌, ◌≤◌, Bool, true, false, cond, ◌||◌, IfSome, List, [], ◌∷◌, ◌++◌, length, map, Option, Some, None, option_map, refl, sym, ap, subst, ◌∙◌, arith, true≢false, length-append}
use Rattle.std.proofs.lemmas.Slice.Eq.{bytes_eq-Decides}
use Rattle.std.specs.FinMap as fin
use Rattle.std.specs.List.{list_any}
use Rattle.history.specs.History.{Key, Objects, History, IsHistory, changed, current_objects, is_same_key, last_revision, left_by, put_or_remove, written}
use Rattle.history.specs.Kept.{IsPruned}
use Rattle.history.specs.Whole.{AreThere}
use Rattle.history.specs.Writes.{changes_by, written_all}
use Rattle.history.proofs.Keys.{get-put_or_remove, tied}
use Rattle.history.proofs.Revisions.{changed-append, up_to-all}
use Rattle.history.proofs.Writes.{changes_all, current_all, rising_all, written_all-push}
use Rattle.revstore.specs.ChangeWindow.{AreLatest}
use Rattle.revstore.specs.Waiting.{CanFollow, is_key, waiting_in}
use Rattle.revstore.specs.declared.window.ChangeWindow.{ChangeWindow}

abbrev Writes : Type 0
Writes = List (Key × Option (List ℕ))

-- ---- nothing waits

-- nothing always can follow
pub nothing_follows : (t : History) (ws : Writes) → IsPruned t → ws ≡ [] → CanFollow t ws
nothing_follows t ws pruned none = subst (CanFollow t) (sym none) (let high : t.current ≤ last_revision = pruned.is.high in omega arith, tt)

pub written_so : (t u : History) (ws : Writes) → u ≡ t → IsPruned t → ws ≡ [] → IsPruned u × CanFollow u ws
written_so t u ws same pruned none = let is : IsPruned u = subst IsPruned (sym same) pruned in (is, nothing_follows u ws is none)

-- the table is as it was written, and nothing waits
pub settled : (t u : History) (w : Option ChangeWindow) → u ≡ t → IsPruned t → waiting_in w ≡ [] → IfSome w (AreLatest t) → IsPruned u × CanFollow u (waiting_in w) × IfSome w (AreLatest (written_all u (waiting_in w)))
settled t u w same pruned none are =
    let is : IsPruned u = subst IsPruned (sym same) pruned in
    (is, nothing_follows u (waiting_in w) is none, subst (λ (h : History). IfSome w (AreLatest h)) (sym (ap (written_all u) none ∙ same)) are)

-- the table is as it was, and the same waits
pub still_waits : (t u : History) (w v : Option ChangeWindow) → u ≡ t → waiting_in v ≡ waiting_in w → IsPruned t → CanFollow t (waiting_in w) → IfSome v (AreLatest (written_all t (waiting_in w)))
    → IsPruned u × CanFollow u (waiting_in v) × IfSome v (AreLatest (written_all u (waiting_in v)))
still_waits t u w v same waits pruned can are = (
  subst IsPruned (sym same) pruned,
  subst (CanFollow u) (sym waits) (subst (λ (x : History). CanFollow x (waiting_in w)) (sym same) can),
  subst (λ (h : History). IfSome v (AreLatest h)) (sym (ap (written_all u) waits ∙ ap (λ (x : History). written_all x (waiting_in w)) same)) are,
)

-- ---- one more waits

-- what stands once all is written
pub current_objects_all : (m : History) (ws : Writes) → IsHistory m → current_objects (written_all m ws) ≡ changed (current_objects m) (changes_by m.current ws)
current_objects_all m ws is =
    let after = written_all m ws in
    ap (changed fin.empty) (up_to-all 0 after.current after.current after.changes (omega arith) (rising_all m ws is.rising) ∙ changes_all m ws)
    ∙ changed-append fin.empty m.changes (changes_by m.current ws)
    ∙ ap (λ s. changed s (changes_by m.current ws)) (ap (changed fin.empty) (sym (up_to-all 0 m.current m.current m.changes (omega arith) is.rising)))

there_push : (s : Objects) (n : ℕ) (ws : Writes) (w : Key × Option (List ℕ)) → (w.1 ≡ None → fin.contains_key (changed s (changes_by n ws)) w.0 ≡ true) → AreThere s (changes_by n ws) → AreThere s (changes_by n (ws ++ w ∷ []))
there_push s n [] w last is = (last, tt)
there_push s n (v ∷ ws) w last is = (is.0, there_push (put_or_remove s v.0 (left_by (record { revision = suc n; key = v.0; body = v.1 }))) (suc n) ws w last is.1)

pub one_more_follows : (t : History) (ws : Writes) (w : Key × Option (List ℕ)) → IsHistory t → CanFollow t ws → suc (written_all t ws).current ≤ last_revision → (w.1 ≡ None → fin.contains_key (current_objects (written_all t ws)) w.0 ≡ true)
    → CanFollow t (ws ++ w ∷ [])
one_more_follows t ws w is can fits there = (
  let now : (written_all t ws).current ≡ t.current + length ws = current_all t ws in
      let more : length (ws ++ w ∷ []) ≡ length ws + 1 = length-append ws (w ∷ []) in
      omega (arith, fits, now, more),
  there_push (current_objects t) t.current ws w (λ none. sym (ap (λ s. fin.contains_key s w.0) (current_objects_all t ws is)) ∙ there none) can.1,
)

-- ---- a key of which nothing waits

is_itself : (k : Key) → is_key k k ≡ true
is_itself k = rw ((bytes_eq-Decides k.namespace k.namespace).1 refl, (bytes_eq-Decides k.name k.name).1 refl) (search (arith))

apart : (k q : Key) → is_key k q ≡ false → is_same_key k q ≡ false
apart k q isnt = go (is_same_key k q) refl
  where
    go : (b : Bool) → is_same_key k q ≡ b → b ≡ false
    go true same = absurd (true≢false (sym (subst (λ (x : Key). is_key k x ≡ true) (tied k q same) (is_itself k)) ∙ isnt))
    go false same = refl

left : (a b : Bool) → (a || b) ≡ false → (a ≡ false) × (b ≡ false)
left true b is = absurd (true≢false is)
left false b is = (refl, is)

stays : (k : Key) (s : Objects) (n : ℕ) (ws : Writes) → list_any (λ w. is_key k w.0) ws ≡ false → fin.get (changed s (changes_by n ws)) k ≡ fin.get s k
stays k s n [] none = refl
stays k s n (w ∷ ws) none =
    let parts = left (is_key k w.0) (list_any (λ v. is_key k v.0) ws) none in
    let by = left_by (record { revision = suc n; key = w.0; body = w.1 }) in
    stays k (put_or_remove s w.0 by) (suc n) ws parts.1 ∙ get-put_or_remove s w.0 by k ∙ ap (λ b. cond b by (fin.get s k)) (apart k w.0 parts.0)

-- under it stands what the table has
pub not_waiting : (t : History) (ws : Writes) (k : Key) → IsHistory t → list_any (λ w. is_key k w.0) ws ≡ false → fin.get (current_objects t) k ≡ fin.get (current_objects (written_all t ws)) k
not_waiting t ws k is none = sym (ap (λ s. fin.get s k) (current_objects_all t ws is) ∙ stays k (current_objects t) t.current ws none)

pub pushed : (t : History) (ws vs : Writes) (w : Key × Option (List ℕ)) (h : History) → vs ≡ ws ++ w ∷ [] → written_all t ws ≡ h → written_all t vs ≡ written h w.0 w.1
pushed t ws vs w h is same = ap (written_all t) is ∙ written_all-push t ws w ∙ ap (λ (x : History). written x w.0 w.1) same

pub was_none : {X Y : Type 0} (f : X → Y) (o : Option X) → option_map f o ≡ None → o ≡ None
was_none f None is = refl
was_none f (Some x) is = absurd cc

pub list_any-map : {X Y : Type 0} (p : Y → Bool) (f : X → Y) (xs : List X) → list_any (λ x. p (f x)) xs ≡ list_any p (map f xs)
list_any-map p f [] = refl
list_any-map p f (x ∷ xs) = ap (λ b. p (f x) || b) (list_any-map p f xs)
