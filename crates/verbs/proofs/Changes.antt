-- One more change of a machine.
use Rattle.std.proofs.Common.{◌≡◌, ℕ, suc, ◌≤◌, Bool, true, false, cond, List, [], ◌∷◌, ◌++◌, Option, Some, None, refl, sym, ap, subst, ◌∙◌, arith}
use Rattle.std.specs.Prelude.{IfSome, nat_le}
use Rattle.std.specs.FinMap as fin
use Rattle.std.specs.List.{AllByRecursion}
use Rattle.api_types.specs.TypesFile.{ServedShape}
use Rattle.history.specs.History.{Key, Change, Object, Objects, History, IsHistory, changed, is_same_key, key_cmp, left_by, object_by, put_or_remove, current_objects, state_at, up_to, written}
use Rattle.history.specs.Whole.{IsWhole}
use Rattle.history.proofs.Keys.{get-put_or_remove, tied}
use Rattle.history.proofs.Lists.{all-filter}
use Rattle.history.proofs.Revisions.{all_within, changed-append, up_to-all}
use Rattle.history.proofs.Wholes.{whole_is, whole_writes}
use Rattle.objects.proofs.Taken.{no_some, same_some}
use Rattle.verbs.specs.Machine.{AreObjectTypes, AreTexts, IsMachine, IsNext, IsOfTypes, IsSomeTextAt, IsTextAt}
use Rattle.verbs.proofs.Said.{shapes_of}

-- ---- what stands

pub is_history : (types : List ServedShape) (m : History) → IsMachine types m → IsHistory m
is_history types m is = whole_is is.first m is.whole

current_objects_is : (m : History) → IsHistory m → current_objects m ≡ changed fin.empty m.changes
current_objects_is m is = ap (changed fin.empty) (up_to-all 0 m.current m.current m.changes (omega arith) is.rising)

-- ---- each text that stands is as P says of its key, its revision and its bytes

module _ (P : Key → ℕ → List ℕ → Type 0) where
  abbrev pub AllAre : Objects → Type 0
  AllAre s = (k : Key) (o : Object) → fin.get s k ≡ Some o → P k o.revision o.body

  none_represents : AllAre fin.empty
  none_represents k o there = no_some o (sym there ∙ fin.get-empty key_cmp k)

  left_text : (k : Key) (r : ℕ) (body : Option (List ℕ)) (o : Object) → IfSome body (P k r) → object_by r body ≡ Some o → P k o.revision o.body
  left_text k r None o is e = no_some o (sym e)
  left_text k r (Some text) o is e = subst (λ x. P k x.revision x.body) (same_some (record { revision = r; body = text }) o e) is

  texts_put : (s : Objects) (k : Key) (r : ℕ) (body : Option (List ℕ)) → AllAre s → IfSome body (P k r) → AllAre (put_or_remove s k (object_by r body))
  texts_put s k r body all is q o there = by_test (is_same_key q k) refl (sym (get-put_or_remove s k (object_by r body) q) ∙ there)
    where
      by_test : (b : Bool) → is_same_key q k ≡ b → cond b (object_by r body) (fin.get s q) ≡ Some o → P q o.revision o.body
      by_test true same e = subst (λ x. P x o.revision o.body) (sym (tied q k same)) (left_text k r body o is e)
      by_test false same e = all q o e

  texts_changed : (cs : List Change) (s : Objects) → AllAre s → AllByRecursion (λ c. IfSome c.body (P c.key c.revision)) cs → AllAre (changed s cs)
  texts_changed [] s all are = all
  texts_changed (c ∷ cs) s all are = texts_changed cs (put_or_remove s c.key (left_by c)) (texts_put s c.key c.revision c.body all are.0) are.1

pub no_texts : (types : List ServedShape) → AreTexts types fin.empty
no_texts types = none_represents (IsTextAt types)

-- at any revision
pub texts_at : (types : List ServedShape) (m : History) (r : ℕ) (k : Key) (o : Object) → IsMachine types m → fin.get (state_at m.changes r) k ≡ Some o → IsSomeTextAt types k o.revision o.body
texts_at types m r k o is there =
    texts_changed (IsSomeTextAt types) (up_to r m.changes) fin.empty (none_represents (IsSomeTextAt types))
    (all-filter (IsOfTypes types) (λ c. nat_le c.revision r) m.changes is.texts) k o there

-- ---- what stands is of a revision up to the current one

bodies_within : (top : ℕ) (cs : List Change) → AllByRecursion (λ c. c.revision ≤ top) cs → AllByRecursion (λ c. IfSome c.body (λ text. c.revision ≤ top)) cs
bodies_within top [] all = tt
bodies_within top (c ∷ cs) all = (go c.body, bodies_within top cs all.1)
  where
    go : (body : Option (List ℕ)) → IfSome body (λ text. c.revision ≤ top)
    go None = tt
    go (Some text) = all.0

pub standing_within : (types : List ServedShape) (m : History) (k : Key) (o : Object) → IsMachine types m → fin.get (current_objects m) k ≡ Some o → o.revision ≤ m.current
standing_within types m k o is there =
    let rising = (is_history types m is).rising in
    texts_changed (λ q r text. r ≤ m.current) m.changes fin.empty (none_represents (λ q r text. r ≤ m.current)) (bodies_within m.current m.changes (all_within 0 m.current m.changes rising)) k o
    (ap (λ (s : Objects). fin.get s k) (sym (current_objects_is m (is_history types m is))) ∙ there)

-- ---- one more change

pub all_push : {X : Type 0} (P : X → Type 0) (xs : List X) (x : X) → AllByRecursion P xs → P x → AllByRecursion P (xs ++ x ∷ [])
all_push P [] x all one = (one, tt)
all_push P (y ∷ xs) x all one = (all.0, all_push P xs x all.1 one)

-- a text of a type that is served now is one under some schema
some_text : (types : List ServedShape) (k : Key) (r : ℕ) (body : Option (List ℕ)) → AreObjectTypes types → IfSome body (IsTextAt types k r) → IfSome body (IsSomeTextAt types k r)
some_text types k r None shapes is = tt
some_text types k r (Some text) shapes is = record {
  t = is.t;
  served = is.served;
  shape = is.t.shape;
  shaped = shapes_of types shapes k.kind is.t is.served;
  is_text = is.is_text;
}

whole_next : (types : List ServedShape) (m : History) (c : Change) (is : IsMachine types m) → IsNext types m c → IsWhole is.first (written m c.key c.body)
whole_next types m c is next = whole_writes is.first m c.key c.body is.whole (subst (λ n. n ≤ 9223372036854775807) next.next next.high) next.there

-- what stands after a change is what stood before it, changed by it
pub current_objects_next : (types : List ServedShape) (m : History) (c : Change) → IsMachine types m → IsNext types m c
    → current_objects (written m c.key c.body) ≡ put_or_remove (current_objects m) c.key (object_by (suc m.current) c.body)
current_objects_next types m c is next =
    current_objects_is (written m c.key c.body) (whole_is is.first (written m c.key c.body) (whole_next types m c is next))
    ∙ changed-append fin.empty m.changes (record { revision = suc m.current; key = c.key; body = c.body } ∷ [])
    ∙ ap (λ s. put_or_remove s c.key (object_by (suc m.current) c.body)) (sym (current_objects_is m (is_history types m is)))

pub machine_next : (types : List ServedShape) (m : History) (c : Change) → IsMachine types m → IsNext types m c → IsMachine types (written m c.key c.body)
machine_next types m c is next =
    let text : IfSome c.body (IsTextAt types c.key (suc m.current)) = subst (λ n. IfSome c.body (IsTextAt types c.key n)) next.next next.is_text in
    record {
      first = is.first;
      whole = whole_next types m c is next;
      shapes = is.shapes;
      texts = all_push (IsOfTypes types) m.changes (record { revision = suc m.current; key = c.key; body = c.body }) is.texts (some_text types c.key (suc m.current) c.body is.shapes text);
      stand = subst (AreTexts types) (sym (current_objects_next types m c is next)) (texts_put (IsTextAt types) (current_objects m) c.key (suc m.current) c.body is.stand text);
    }
