-- What holds of each object that a history's changes leave, and stays at a later revision, holds of each object that a watch has still to send.
use Rattle.std.proofs.Common.{◌≡◌, ℕ, Bool, true, false, cond, List, [], ◌∷◌, ◌++◌, map, take, zero, suc, refl, sym, subst, ◌∙◌, Option, Some, None, option_map}
use Rattle.std.specs.Prelude.{IfSome, nat_le, nat_lt}
use Rattle.std.specs.Ordering.{is_lt}
use Rattle.std.specs.FinMap as fin
use Rattle.std.specs.List.{AllByRecursion}
use Rattle.history.specs.History.{Change, History, Key, Object, Objects, changed, is_same_key, key_cmp, later, left_by, object_by, put_or_remove, state_at, up_to}
use Rattle.history.specs.Seen.{SeenChange, Selection, if_wanted, seen_among, seen_by, seen_of, selected}
use Rattle.history.proofs.Keys.{get-put_or_remove}
use Rattle.history.proofs.Lists.{all-filter}
use Rattle.history.proofs.Selecting.{entries-selected}
use Rattle.objects.proofs.Taken.{no_some}
use Rattle.watchline.specs.Lines.{added}
use Rattle.watchline.specs.Watches.{Cursor, InitialLeft, changes_left, coming, entries_left, from_history, key_at, initial_left_from, no_initial_left, objects_left, wanted}
use Rattle.line_laws.proofs.Kept.{each_entry}

abbrev Entries : Type 0
Entries = List (Key × Object)

pub all_both : {A : Type 0} (P : A → Type 0) (xs ys : List A) → AllByRecursion P xs → AllByRecursion P ys → AllByRecursion P (xs ++ ys)
all_both P [] ys all others = others
all_both P (x ∷ xs) ys all others = (all.0, all_both P xs ys all.1 others)

pub all_taken : {A : Type 0} (P : A → Type 0) (n : ℕ) (xs : List A) → AllByRecursion P xs → AllByRecursion P (take n xs)
all_taken P zero xs all = tt
all_taken P (suc n) [] all = tt
all_taken P (suc n) (x ∷ xs) all = (all.0, all_taken P n xs all.1)

-- what holds of an object, and of revisions; where it holds of an object it does so at such a revision
pub record Stays (P : Object → Type 0) (R : ℕ → Type 0) : Type 0 where
  pub holds : (o : Object) (r : ℕ) → R r → P o → P (record { revision = r; body = o.body })

-- of an object with this body, at this revision
abbrev At : (Object → Type 0) → ℕ → List ℕ → Type 0
At P r b = P (record { revision = r; body = b })

-- it holds of what the change leaves, if anything
abbrev pub Leaves : (Object → Type 0) → (ℕ → Type 0) → Change → Type 0
Leaves P R c = R c.revision × IfSome (left_by c) P

abbrev AreAll : (Object → Type 0) → Objects → Type 0
AreAll P s = (k : Key) (o : Object) → fin.get s k ≡ Some o → P o

abbrev pub AllSeen : (Object → Type 0) → List SeenChange → Type 0
AllSeen P = AllByRecursion (λ x. P x.object)

-- ---- what stands

put_is : (P : Object → Type 0) (s : Objects) (k : Key) (now : Option Object) → AreAll P s → IfSome now P → AreAll P (put_or_remove s k now)
put_is P s k now all one q o there = by_test (is_same_key q k) (sym (get-put_or_remove s k now q) ∙ there)
  where
    by_test : (b : Bool) → cond b now (fin.get s q) ≡ Some o → P o
    by_test true is = subst (λ x. IfSome x P) is one
    by_test false is = all q o is

changed_are : (P : Object → Type 0) (R : ℕ → Type 0) (cs : List Change) (s : Objects) → AreAll P s → AllByRecursion (Leaves P R) cs → AreAll P (changed s cs)
changed_are P R [] s all are = all
changed_are P R (c ∷ cs) s all are = changed_are P R cs (put_or_remove s c.key (left_by c)) (put_is P s c.key (left_by c) all are.0.1) are.1

-- ---- what is seen

wanted_is : (Q : List ℕ → Type 0) (seen : Selection) (k : Key) (body : Option (List ℕ)) → IfSome body Q → IfSome (if_wanted seen k body) Q
wanted_is Q seen k None is = tt
wanted_is Q seen k (Some b) is = by_test (seen k b)
  where
    by_test : (t : Bool) → IfSome (cond t (Some b) None) Q
    by_test true = is
    by_test false = tt

by_is : (P : Object → Type 0) (r : ℕ) (k : Key) (before after : Option (List ℕ)) → IfSome before (At P r) → IfSome after (At P r)
    → AllSeen P (seen_by r k before after)
by_is P r k None None before after = tt
by_is P r k None (Some b) before after = (after, tt)
by_is P r k (Some a) (Some b) before after = (after, tt)
by_is P r k (Some a) None before after = (before, tt)

stood : (P : Object → Type 0) (R : ℕ → Type 0) → Stays P R → (r : ℕ) → R r → (o : Option Object) → IfSome o P → IfSome (option_map (λ (x : Object). x.body) o) (At P r)
stood P R stays r low None is = tt
stood P R stays r low (Some o) is = stays.holds o r low is

found : (P : Object → Type 0) (s : Objects) (k : Key) → AreAll P s → IfSome (fin.get s k) P
found P s k all = by_found (fin.get s k) (all k)
  where
    by_found : (o : Option Object) → ((x : Object) → o ≡ Some x → P x) → IfSome o P
    by_found None is = tt
    by_found (Some x) is = is x refl

left_is : (P : Object → Type 0) (r : ℕ) (body : Option (List ℕ)) → IfSome (object_by r body) P → IfSome body (At P r)
left_is P r None is = tt
left_is P r (Some b) is = is

among : (P : Object → Type 0) (R : ℕ → Type 0) → Stays P R → (seen : Selection) (cs : List Change) (s : Objects) → AreAll P s → AllByRecursion (Leaves P R) cs → AllSeen P (seen_among seen s cs)
among P R stays seen [] s all are = tt
among P R stays seen (c ∷ cs) s all are =
    let before : Option (List ℕ) = option_map (λ (x : Object). x.body) (fin.get s c.key) in
    all_both (λ (x : SeenChange). P x.object) (seen_of seen s c) (seen_among seen (put_or_remove s c.key (left_by c)) cs)
    (by_is P c.revision c.key (if_wanted seen c.key before) (if_wanted seen c.key c.body)
    (wanted_is (At P c.revision) seen c.key before (stood P R stays c.revision are.0.0 (fin.get s c.key) (found P s c.key all)))
    (wanted_is (At P c.revision) seen c.key c.body (left_is P c.revision c.body are.0.1)))
    (among P R stays seen cs (put_or_remove s c.key (left_by c)) (put_is P s c.key (left_by c) all are.0.1) are.1)

-- ---- the objects that are left

entries_are : (P : Object → Type 0) (s : Objects) → AreAll P s → AllByRecursion (λ e. P e.1) (fin.entries s)
entries_are P s all = each_entry (λ k o. P o) (fin.entries s) (fin.entries_sorted s) (λ k o there. all k o (fin.get-entries s k ∙ there))

past_are : (P : Object → Type 0) (kind : ℕ) (left : InitialLeft) (es : Entries) → AllByRecursion (λ e. P e.1) es → AllByRecursion (λ e. P e.1) (entries_left kind left es)
past_are P kind no_initial_left es all = tt
past_are P kind (initial_left_from None) es all = all
past_are P kind (initial_left_from (Some place)) es all = all-filter (λ (e : Key × Object). P e.1) (λ e. is_lt (key_cmp (key_at kind place) e.0)) es all

selected_are : (P : Object → Type 0) (seen : Selection) (s : Objects) → AreAll P s → AllByRecursion (λ e. P e.1) (fin.entries (selected seen s))
selected_are P seen s all =
    subst (AllByRecursion (λ (e : Key × Object). P e.1)) (sym (entries-selected seen s)) (all-filter (λ (e : Key × Object). P e.1) (λ e. seen e.0 e.1.body) (fin.entries s) (entries_are P s all))

added_are : (P : Object → Type 0) (es : Entries) → AllByRecursion (λ e. P e.1) es → AllSeen P (map added es)
added_are P [] all = tt
added_are P (e ∷ es) all = (all.0, added_are P es all.1)

-- ---- all that is still to be sent

pub all_coming : (P : Object → Type 0) (R : ℕ → Type 0) → Stays P R → (h : History) (w : Cursor) → AllByRecursion (Leaves P R) h.changes → AllSeen P (coming (from_history h) w)
all_coming P R stays h w are =
    let leaf_value : AreAll P (state_at h.changes w.position) =
    changed_are P R (up_to w.position h.changes) fin.empty (λ k o there. no_some o (sym there ∙ fin.get-empty key_cmp k)) (all-filter (Leaves P R) (λ c. nat_le c.revision w.position) h.changes are) in
    all_both (λ (x : SeenChange). P x.object) (map added (objects_left (from_history h) w)) (changes_left (from_history h) w)
    (added_are P (objects_left (from_history h) w)
    (past_are P w.kind w.left (fin.entries (selected (wanted w) (state_at h.changes w.position))) (selected_are P (wanted w) (state_at h.changes w.position) leaf_value)))
    (among P R stays (wanted w) (up_to h.current (later w.position h.changes)) (state_at h.changes w.position) leaf_value
    (all-filter (Leaves P R) (λ c. nat_le c.revision h.current) (later w.position h.changes) (all-filter (Leaves P R) (λ c. nat_lt w.position c.revision) h.changes are)))
