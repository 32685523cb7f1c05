-- What stands once some of the objects have been written again, each under its own key.
use Rattle.std.proofs.Common.{◌≡◌, ◌⊎◌, ℕ, suc, ◌+◌, ◌<◌, ◌≤◌, Bool, true, false, cond, ◌||◌, T, List, [], ◌∷◌, length, filter, Option, Some, is_some, inl, inr, refl, sym, ap, ap₂, ◌∙◌, true≢false, arith, is_eq}
use Rattle.std.specs.FinMap as fin
use Rattle.std.specs.FinMap.{find, is_sorted}
use Rattle.std.specs.FinMap.Entries.{below_all}
use Rattle.std.specs.Cmp.{tied_itself}
use Rattle.std.specs.List.{AllByRecursion, list_any}
use Rattle.std.specs.Ordering.{is_lt}
use Rattle.std.proofs.lemmas.Bool.{and_parts}
use Rattle.api_types.specs.TypesFile.{ServedShape}
use Rattle.history.specs.History.{Change, History, IsHistory, Key, Object, Objects, changed, is_same_key, key_cmp, left_by, object_by, put_or_remove, current_objects}
use Rattle.history.specs.Whole.{AreThere}
use Rattle.history.specs.Writes.{changes_by, written_all}
use Rattle.history.proofs.Keys.{get-put_or_remove, key_cmp_total, tied}
use Rattle.history.proofs.Lists.{all_weaker}
use Rattle.history.proofs.Revisions.{changed-append, up_to-all}
use Rattle.history.proofs.Writes.{changes_all, rising_all}
use Rattle.objects.proofs.Taken.{no_some, same_some}
use Rattle.verbs.specs.Retyping.{carried_text_at, writes_from}

abbrev pub Entries : Type 0
Entries = List (Key × Object)

abbrev pub has_key : Key → Entries → Bool
has_key k = list_any (λ e. is_same_key k e.0)

truth_of : (b : Bool) → T b → b ≡ true
truth_of true h = refl
truth_of false h = absurd h

-- ---- each entry of a map is found

above : (x k : Key) → is_lt (key_cmp x k) ≡ true → is_same_key k x ≡ false
above x k lt = by_test (is_same_key k x) refl
  where
    by_test : (b : Bool) → is_same_key k x ≡ b → b ≡ false
    by_test false is = refl
    by_test true is = absurd (true≢false (sym lt ∙ ap is_lt (ap (key_cmp x) (tied k x is) ∙ tied_itself key_cmp_total x)))

found_later : (x : Key × Object) (all es : Entries) → below_all key_cmp x.0 es ≡ true → AllByRecursion (λ e. find key_cmp e.0 all ≡ Some e.1) es → AllByRecursion (λ e. find key_cmp e.0 (x ∷ all) ≡ Some e.1) es
found_later x all [] h found = tt
found_later x all (e ∷ es) h found =
    let parts = and_parts (is_lt (key_cmp x.0 e.0)) (below_all key_cmp x.0 es) h in
    (ap (λ b. cond b (Some x.1) (find key_cmp e.0 all)) (above x.0 e.0 parts.0) ∙ found.0, found_later x all es parts.1 found.1)

all_found : (es : Entries) → is_sorted key_cmp es ≡ true → AllByRecursion (λ e. find key_cmp e.0 es ≡ Some e.1) es
all_found [] h = tt
all_found (e ∷ es) h =
    let parts = and_parts (below_all key_cmp e.0 es) (is_sorted key_cmp es) h in
    (ap (λ b. cond b (Some e.1) (find key_cmp e.0 es)) (ap is_eq (tied_itself key_cmp_total e.0)), found_later e es es parts.0 (all_found es parts.1))

pub all_stand : (s : Objects) → AllByRecursion (λ e. fin.get s e.0 ≡ Some e.1) (fin.entries s)
all_stand s =
    all_weaker (λ (e : Key × Object). find key_cmp e.0 (fin.entries s) ≡ Some e.1) (λ e. fin.get s e.0 ≡ Some e.1) (λ e is. fin.get-entries s e.0 ∙ is) (fin.entries s)
    (all_found (fin.entries s) (truth_of _ (fin.entries_sorted s)))

-- ---- those that pass a test

pub all_picked : (P : Key × Object → Type 0) (test : Key × Object → Bool) (es : Entries) → AllByRecursion P es → AllByRecursion (λ e. P e × (test e ≡ true)) (filter test es)
all_picked P test [] all = tt
all_picked P test (e ∷ es) all = by_test (test e) refl (all_picked P test es all.1)
  where
    by_test : (b : Bool) → test e ≡ b → AllByRecursion (λ x. P x × (test x ≡ true)) (filter test es) → AllByRecursion (λ x. P x × (test x ≡ true)) (cond b (e ∷ filter test es) (filter test es))
    by_test true is more = ((all.0, is), more)
    by_test false is more = more

-- what isn't among them doesn't pass
found_not_picked : (test : Key × Object → Bool) (k : Key) (o : Object) (es : Entries) → find key_cmp k es ≡ Some o → has_key k (filter test es) ≡ false → test (k, o) ≡ false
found_not_picked test k o [] there none = no_some o (sym there)
found_not_picked test k o (e ∷ es) there none = by_tests (is_same_key k e.0) refl (test e) refl there none (found_not_picked test k o es)
  where
    by_tests : (a : Bool) → is_same_key k e.0 ≡ a → (b : Bool) → test e ≡ b → cond a (Some e.1) (find key_cmp k es) ≡ Some o → has_key k (cond b (e ∷ filter test es) (filter test es)) ≡ false
        → (find key_cmp k es ≡ Some o → has_key k (filter test es) ≡ false → test (k, o) ≡ false) → test (k, o) ≡ false
    by_tests true same true is at none later = absurd (true≢false (sym (ap (λ c. c || has_key k (filter test es)) same) ∙ none))
    by_tests true same false is at none later = ap₂ (λ q x. test (q, x)) (tied k e.0 same) (sym (same_some e.1 o at)) ∙ is
    by_tests false apart true is at none later = later at (sym (ap (λ c. c || has_key k (filter test es)) apart) ∙ none)
    by_tests false apart false is at none later = later at none

pub not_picked : (test : Key × Object → Bool) (s : Objects) (k : Key) (o : Object) → fin.get s k ≡ Some o → has_key k (filter test (fin.entries s)) ≡ false → test (k, o) ≡ false
not_picked test s k o there none = found_not_picked test k o (fin.entries s) (sym (fin.get-entries s k) ∙ there) none

-- ---- what stands after several writes

pub current_objects_all : (m : History) (ws : List (Key × Option (List ℕ))) → IsHistory m → current_objects (written_all m ws) ≡ changed (current_objects m) (changes_by m.current ws)
current_objects_all m ws is =
    let after = written_all m ws in
    ap (changed fin.empty) (up_to-all 0 after.current after.current after.changes (omega arith) (rising_all m ws is.rising) ∙ changes_all m ws)
    ∙ changed-append fin.empty m.changes (changes_by m.current ws)
    ∙ ap (λ s. changed s (changes_by m.current ws)) (ap (changed fin.empty) (sym (up_to-all 0 m.current m.current m.changes (omega arith) is.rising)))

module _ (types next_types : List ServedShape) where
  -- the key's own write, of one of the next revisions
  pub record IsWritten (P : Key × Object → Type 0) (n : ℕ) (es : Entries) (k : Key) (now : Option Object) : Type 0 where
    pub e : Key × Object
    pub revision : ℕ
    pub low : n < revision
    pub high : revision ≤ n + length es
    pub of : k ≡ e.0
    pub is : P e
    pub at : now ≡ object_by revision (carried_text_at types next_types revision e.0 e.1)

  abbrev pub StaysOrWritten : (Key × Object → Type 0) → ℕ → Entries → Objects → Key → Option Object → Type 0
  StaysOrWritten P n es s k now = ((has_key k es ≡ false) × (now ≡ fin.get s k)) ⊎ IsWritten P n es k now

  pub stays_or_written : (P : Key × Object → Type 0) (n : ℕ) (es : Entries) (s : Objects) (k : Key) → AllByRecursion P es
      → StaysOrWritten P n es s k (fin.get (changed s (changes_by n (writes_from types next_types n es))) k)
  stays_or_written P n [] s k all = inl (refl, refl)
  stays_or_written P n (e ∷ es) s k all = by_rest (stays_or_written P (suc n) es (put_or_remove s e.0 first) k all.1)
    where
      first : Option Object
      first = object_by (suc n) (carried_text_at types next_types (suc n) e.0 e.1)

      end : Option Object
      end = fin.get (changed (put_or_remove s e.0 first) (changes_by (suc n) (writes_from types next_types (suc n) es))) k

      by_test : (b : Bool) → is_same_key k e.0 ≡ b → has_key k es ≡ false → end ≡ fin.get (put_or_remove s e.0 first) k → StaysOrWritten P n (e ∷ es) s k end
      by_test true same none is =
          inr (record {
            e = e;
            revision = suc n;
            low = omega arith;
            high = omega arith;
            of = tied k e.0 same;
            is = all.0;
            at = is ∙ get-put_or_remove s e.0 first k ∙ ap (λ b. cond b first (fin.get s k)) same;
          })
      by_test false same none is = inl (ap (λ b. b || has_key k es) same ∙ none, is ∙ get-put_or_remove s e.0 first k ∙ ap (λ b. cond b first (fin.get s k)) same)

      by_rest : StaysOrWritten P (suc n) es (put_or_remove s e.0 first) k end → StaysOrWritten P n (e ∷ es) s k end
      by_rest (inl x) = by_test (is_same_key k e.0) refl x.0 x.1
      by_rest (inr x) = let low : suc n < x.revision = x.low in let high : x.revision ≤ suc n + length es = x.high in
          inr (record { e = x.e; revision = x.revision; low = omega arith; high = omega arith; of = x.of; is = x.is; at = x.at })

  -- nothing is deleted
  abbrev pub HasText : Key × Object → Type 0
  HasText e = (r : ℕ) → is_some (carried_text_at types next_types r e.0 e.1) ≡ true

  pub none_goes : (n : ℕ) (es : Entries) (s : Objects) → AllByRecursion HasText es → AreThere s (changes_by n (writes_from types next_types n es))
  none_goes n [] s all = tt
  none_goes n (e ∷ es) s all =
      let change : Change = record { revision = suc n; key = e.0; body = carried_text_at types next_types (suc n) e.0 e.1 } in
      (λ none. absurd (true≢false (sym (all.0 (suc n)) ∙ ap is_some none)), none_goes (suc n) es (put_or_remove s e.0 (left_by change)) all.1)

  pub as_many : (n : ℕ) (es : Entries) → length (writes_from types next_types n es) ≡ length es
  as_many n [] = refl
  as_many n (e ∷ es) = ap suc (as_many (suc n) es)
