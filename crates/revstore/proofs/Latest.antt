-- The latest changes of a history.
use Rattle.std.proofs.Common.{◌≡◌, ℕ, zero, suc, ◌+◌, ◌-◌, ◌<◌, ◌≤◌, Bool, cond, ◌&&◌, nat_lt, List, [], ◌∷◌, ◌++◌, bytes_eq, get_or, length, map, take, drop, refl, sym, ap, subst, ◌∙◌, Option, Some, None, option_map, arith, eq-eqb, lt-ltb, set, zero-le, All, IfSome}
use Rattle.std.specs.Ordering.{is_eq}
use Rattle.std.specs.List.{AllByRecursion}
use Rattle.std.specs.FinMap as fin
use Rattle.std.proofs.lemmas.List.{drop-map, drop_all, drop-append-le, drop-drop, get_or-map, length-append, length-drop, length-map, length-set, map-append, take_more, take-append-drop, take-append-le, take_all}
use Rattle.std.proofs.lemmas.List.Elements.{All-drop, All-from_recursion, All-push, All-same, All-set, filter-append}
use Rattle.std.proofs.lemmas.Map.Text.{is_eq-slice_cmp}
use Rattle.history.specs.History.{Change, History, IsRising, Key, Object, last_revision, later, current_objects, state_at, text_cmp, up_to, written}
use Rattle.history.specs.Kept.{IsPruned, between_marks, pruned}
use Rattle.history.specs.Page.{changes_within, is_within, picked}
use Rattle.history.specs.Read.{key_of}
use Rattle.history.proofs.Revisions.{all_above, all_within, later-below, later-drops, later-later, rising-later, rising_ends, state_at-push}
use Rattle.history.specs.View.{view}
use Rattle.history.proofs.Seen.{later_up_to}
use Rattle.history.proofs.Views.{kept_later, kept_states}
use Rattle.revtable.proofs.Numbers.{span_whole}
use Rattle.std.specs.Rc.{rc_str_bytes}
use Rattle.revstore.specs.ChangeWindow.{AreLatest, IsBefore, change_in, changes_in}
use Rattle.revstore.specs.Shared.{object_in}
use Rattle.revstore.specs.Waiting.{write_in}
use Rattle.revstore.specs.declared.shared.SharedObject.{SharedObject}
use Rattle.revstore.specs.declared.window.Latest.{Latest}
use Rattle.revstore.specs.declared.window.ChangeWindow.{ChangeWindow}

pub named_within : (kind : ℕ) (ns : List ℕ) (k : Key) (b : Bool) → k.kind ≡ kind → b ≡ bytes_eq k.namespace ns → b ≡ is_within kind (Some ns) k
named_within kind ns k b same is = is ∙ sym (is_eq-slice_cmp k.namespace ns) ∙ ap (λ t. t && is_eq (text_cmp k.namespace ns)) (sym (eq-eqb k.kind kind same))

-- ---- those of a type and namespace after a revision

abbrev pub asked : ℕ → Option (List ℕ) → ℕ → List Latest → List Change
asked kind ns after all = picked kind ns (later after (changes_in all))

asked-append : (kind : ℕ) (ns : Option (List ℕ)) (after : ℕ) (xs ys : List Latest) → asked kind ns after (xs ++ ys) ≡ asked kind ns after xs ++ asked kind ns after ys
asked-append kind ns after xs ys =
    ap (λ l. picked kind ns (later after l)) (map-append change_in xs ys)
    ∙ ap (picked kind ns) (filter-append (λ c. nat_lt after c.revision) (changes_in xs) (changes_in ys))
    ∙ filter-append (λ c. is_within kind ns c.key) (later after (changes_in xs)) (later after (changes_in ys))

pub asked_next : (kind : ℕ) (ns : Option (List ℕ)) (after : ℕ) (all : List Latest) (i : ℕ) (l : Latest) → i < length all → l ≡ get_or all i l
    → asked kind ns after (take (i + 1) all) ≡ asked kind ns after (take i all) ++ asked kind ns after (l ∷ [])
asked_next kind ns after all i l lt is =
    ap (asked kind ns after) (take_more all i l lt ∙ ap (λ x. take i all ++ x ∷ []) (sym is)) ∙ asked-append kind ns after (take i all) (l ∷ [])

-- where enough are found, those that come later are not asked for
pub asked_full : (kind : ℕ) (ns : Option (List ℕ)) (after max : ℕ) (all : List Latest) (i : ℕ) (found : List Change) → found ≡ asked kind ns after (take i all) → length found ≤ max → max ≤ length found
    → found ≡ changes_within kind ns max (later after (changes_in all))
asked_full kind ns after max all i found is few enough =
    sym (
    ap (take max) (ap (asked kind ns after) (sym (take-append-drop i all)) ∙ asked-append kind ns after (take i all) (drop i all) ∙ ap (λ l. l ++ asked kind ns after (drop i all)) (sym is))
    ∙ take-append-le max found (asked kind ns after (drop i all)) enough ∙ take_all max found few
    )

-- ---- revisions of rising changes

pub later-above : (lo r top : ℕ) (cs : List Change) → top ≤ r → IsRising lo cs top → later r cs ≡ []
later-above lo r top [] h rise = refl
later-above lo r top (c ∷ cs) h rise =
    let a : c.revision ≤ top = rising_ends c.revision top cs rise.1 in
    later-drops r c cs (omega arith) ∙ later-above c.revision r top cs h rise.1

record IsCut (lo top n : ℕ) (cs : List Change) (d : Change) : Type 0 where
  above : lo < (get_or cs n d).revision
  within : (get_or cs n d).revision ≤ top
  rest : later (get_or cs n d).revision cs ≡ drop (suc n) cs

-- the changes after one of them are those that come later
later-at : (lo top : ℕ) (cs : List Change) (n : ℕ) (d : Change) → n < length cs → IsRising lo cs top → IsCut lo top n cs d
later-at lo top [] n d lt rise = absurd (omega arith)
later-at lo top (c ∷ cs) zero d lt rise = record {
  above = rise.0;
  within = rising_ends c.revision top cs rise.1;
  rest = later-drops c.revision c cs (omega arith) ∙ later-below c.revision c.revision top cs (omega arith) rise.1;
}
later-at lo top (c ∷ cs) (suc n) d lt rise =
    let others : IsCut c.revision top n cs d = later-at c.revision top cs n d (omega arith) rise.1 in
    let a : lo < c.revision = rise.0 in
    let b : c.revision < (get_or cs n d).revision = others.above in
    record { above = omega arith; within = others.within; rest = later-drops (get_or cs n d).revision c cs (omega arith) ∙ others.rest }

-- ---- what is cached

-- the changes in it rise
pub latest_rise : (h : History) (r : ChangeWindow) → IsRising 0 h.changes h.current → AreLatest h r → IsRising r.from (changes_in r.latest.items) h.current
latest_rise h r is are = subst (λ cs. IsRising r.from cs h.current) (sym are.changes) (rising-later 0 r.from h.current h.changes zero-le are.from is)

-- where one of them is not after a revision, none before it is
pub later_skipped : (from top after n : ℕ) (xs : List Latest) (l : Latest) → IsRising from (changes_in xs) top → n < length xs → l ≡ get_or xs n l → l.revision ≤ after
    → later after (changes_in (drop (suc n) xs)) ≡ later after (changes_in xs)
later_skipped from top after n xs l rise lt at low =
    let d : Change = change_in l in
    let cut : IsCut from top n (changes_in xs) d = later-at from top (changes_in xs) n d (omega (arith, lt, length-map xs change_in)) rise in
    let same : get_or (changes_in xs) n d ≡ d = get_or-map change_in xs n l d lt ∙ ap change_in (sym at) in
    ap (later after) (sym (drop-map change_in (suc n) xs) ∙ sym cut.rest ∙ ap (λ (c : Change). later c.revision (changes_in xs)) same)
    ∙ later-later d.revision after (changes_in xs) low

record IsPart (h : History) (from n : ℕ) (xs : List Latest) (l : Latest) : Type 0 where
  within : l.revision ≤ h.current
  rest : changes_in (drop (suc n) xs) ≡ later l.revision h.changes

part_left : (h : History) (from : ℕ) (xs : List Latest) (n : ℕ) (l : Latest) → IsRising 0 h.changes h.current → from ≤ h.current → changes_in xs ≡ later from h.changes → n < length xs → l ≡ get_or xs n l
    → IsPart h from n xs l
part_left h from xs n l is low all lt at =
    let d : Change = change_in l in
    let rise : IsRising from (changes_in xs) h.current = subst (λ cs. IsRising from cs h.current) (sym all) (rising-later 0 from h.current h.changes zero-le low is) in
    let cut : IsCut from h.current n (changes_in xs) d = later-at from h.current (changes_in xs) n d (omega (arith, lt, length-map xs change_in)) rise in
    let same : get_or (changes_in xs) n d ≡ d = get_or-map change_in xs n l d lt ∙ ap change_in (sym at) in
    let a : from < d.revision = subst (λ (c : Change). from < c.revision) same cut.above in
    record {
      within = subst (λ (c : Change). c.revision ≤ h.current) same cut.within;
      rest = sym (drop-map change_in (suc n) xs) ∙ sym cut.rest ∙ ap (λ (c : Change). later c.revision (changes_in xs)) same ∙ ap (later d.revision) all
          ∙ later-later from d.revision h.changes (omega arith);
    }

pub part_stays : (h : History) (r s : ChangeWindow) (n gone left : ℕ) (l : Latest) → IsRising 0 h.changes h.current → AreLatest h r → n < length r.latest.items → l ≡ get_or r.latest.items n l → suc n ≡ gone
    → left + gone ≡ length r.latest.items → s.from ≡ l.revision → s.latest.items ≡ take left (drop gone r.latest.items ++ take gone r.latest.items) → s.written + gone ≡ r.written → AreLatest h s
part_stays h r s n gone left l is are lt at next both from kept fewer =
    let xs : List Latest = r.latest.items in
    let len : length (drop gone xs) ≡ left = length-drop gone xs ∙ omega (arith, both) in
    let part : IsPart h r.from n xs l = part_left h r.from xs n l is are.from are.changes lt at in
    let left_is : s.latest.items ≡ drop gone xs = kept ∙ take-append-le left (drop gone xs) (take gone xs) (omega (arith, len)) ∙ take_all left (drop gone xs) (omega (arith, len)) in
    record {
      from = omega (arith, from, part.within);
      changes = ap changes_in left_is ∙ ap (λ m. changes_in (drop m xs)) (sym next) ∙ part.rest ∙ ap (λ m. later m h.changes) (sym from);
      befores = All-same (IsBefore h) _ _ left_is (All-drop (IsBefore h) gone xs are.befores);
      written = omega (arith, are.written, fewer, both, len, ap length left_is);
    }

abbrev IsBetween : ℕ → ℕ → Latest → Type 0
IsBetween lo top l = (lo < l.revision) × (l.revision ≤ top)

by_both : (lo top : ℕ) (xs : List Latest) → AllByRecursion (λ c. lo < c.revision) (changes_in xs) → AllByRecursion (λ c. c.revision ≤ top) (changes_in xs) → AllByRecursion (IsBetween lo top) xs
by_both lo top [] a b = tt
by_both lo top (x ∷ xs) a b = ((a.0, b.0), by_both lo top xs a.1 b.1)

-- they are above the revision that they begin from, and none is above the current one
all_between : (h : History) (r : ChangeWindow) → IsRising 0 h.changes h.current → AreLatest h r → All (IsBetween r.from h.current) r.latest.items
all_between h r is are =
    let rise : IsRising r.from (changes_in r.latest.items) h.current = latest_rise h r is are in
    All-from_recursion (IsBetween r.from h.current) r.latest.items (by_both r.from h.current r.latest.items (all_above r.from h.current _ rise) (all_within r.from h.current _ rise))

before_stays : (h g : History) (l : Latest) → state_at g.changes (l.revision - 1) ≡ state_at h.changes (l.revision - 1) → IsBefore h l → IsBefore g l
before_stays h g l same is = go l.before is
  where
    go : (known : Option (Option SharedObject)) → IfSome known (λ o. option_map object_in o ≡ fin.get (state_at h.changes (l.revision - 1)) (key_of l.key.value))
        → IfSome known (λ o. option_map object_in o ≡ fin.get (state_at g.changes (l.revision - 1)) (key_of l.key.value))
    go None is = is
    go (Some o) is = is ∙ ap (λ s. fin.get s (key_of l.key.value)) (sym same)

-- what stood before each stays known where the states are the same
befores_stay : (h g : History) (lo top : ℕ) (xs : List Latest) → ((r : ℕ) → lo ≤ r → r ≤ top → state_at g.changes r ≡ state_at h.changes r) → All (IsBetween lo top) xs → All (IsBefore h) xs → All (IsBefore g) xs
befores_stay h g lo top xs same between befores = λ k d lt.
    let l : Latest = get_or xs k d in
    let b : IsBetween lo top l = between k d lt in
    let a : lo < l.revision = b.0 in
    let c : l.revision ≤ top = b.1 in
    before_stays h g l (same (l.revision - 1) (omega arith) (omega arith)) (befores k d lt)

later-push : (lo : ℕ) (cs : List Change) (d : Change) → lo < d.revision → later lo (cs ++ d ∷ []) ≡ later lo cs ++ d ∷ []
later-push lo cs d h = filter-append (λ c. nat_lt lo c.revision) cs (d ∷ []) ∙ ap (λ b. later lo cs ++ cond b (d ∷ []) []) (lt-ltb lo d.revision h)

-- what stands just before the next revision is what stands now
pub before_current : (h : History) (l : Latest) → l.revision ≡ suc h.current → IfSome l.before (λ o. option_map object_in o ≡ fin.get (current_objects h) (key_of l.key.value)) → IsBefore h l
before_current h l next is =
    let same : h.current ≡ l.revision - 1 = omega (arith, next) in
    subst (λ n. IfSome l.before (λ o. option_map object_in o ≡ fin.get (state_at h.changes n) (key_of l.key.value))) same is

-- one more change, of the next revision
pub next_latest : (h : History) (r s : ChangeWindow) (l : Latest) → IsRising 0 h.changes h.current → l.revision ≡ suc h.current → AreLatest h r → s.from ≡ r.from → s.latest.items ≡ r.latest.items ++ l ∷ []
    → s.written ≡ r.written → IsBefore h l → AreLatest (written h (key_of l.key.value) (option_map rc_str_bytes l.body)) s
next_latest h r s l is next are from pushed as_before before =
    let low : r.from ≤ h.current = are.from in
    let g : History = written h (key_of l.key.value) (option_map rc_str_bytes l.body) in
    let d : Change = record { revision = suc h.current; key = key_of l.key.value; body = option_map rc_str_bytes l.body } in
    let same : (q : ℕ) → q ≤ h.current → state_at g.changes q ≡ state_at h.changes q = λ q a. state_at-push h.changes q d (omega arith) in
    record {
      from = omega (arith, from);
      changes = ap changes_in pushed ∙ map-append change_in r.latest.items (l ∷ [])
          ∙ ap (λ n. changes_in r.latest.items ++ record { revision = n; key = key_of l.key.value; body = option_map rc_str_bytes l.body } ∷ []) next
          ∙ ap (λ cs. cs ++ d ∷ []) are.changes ∙ sym (later-push r.from h.changes d (omega arith)) ∙ ap (λ n. later n g.changes) (sym from);
      befores = All-same (IsBefore g) _ _ pushed (All-push (IsBefore g) r.latest.items l
          (befores_stay h g r.from h.current r.latest.items (λ q low high. same q high) (all_between h r is are) are.befores)
          (before_stays h g l (same (l.revision - 1) (omega (arith, next))) before));
      written = omega (arith, are.written, as_before, ap length pushed, length-append r.latest.items (l ∷ []));
    }

-- a compaction at or below the revision that they begin from leaves them
pub still_latest : (h : History) (r : ChangeWindow) (to : ℕ) → IsRising 0 h.changes h.current → AreLatest h r → to ≤ r.from → AreLatest (pruned to h) r
still_latest h r to is are low = record {
  from = are.from;
  changes = are.changes ∙ sym (kept_later to r.from h.current h.changes is low);
  befores = befores_stay h (pruned to h) r.from h.current r.latest.items (λ q a b. kept_states to q h.current h.changes is (omega arith)) (all_between h r is are) are.befores;
  written = are.written;
}

set_alike : {A B : Type 0} (f : A → B) (xs : List A) (i : ℕ) (y d : A) → i < length xs → f y ≡ f (get_or xs i d) → map f (set xs i y) ≡ map f xs
set_alike f [] i y d lt is = absurd (omega arith)
set_alike f (x ∷ xs) zero y d lt is = ap (λ z. z ∷ map f xs) is
set_alike f (x ∷ xs) (suc i) y d lt is = ap (λ l. f x ∷ l) (set_alike f xs i y d (omega arith) is)

-- what stood before one of them is put aside
pub one_known : (h : History) (r s : ChangeWindow) (i : ℕ) (l : Latest) (before : Option Object) → AreLatest h r → i < length r.latest.items → l ≡ get_or r.latest.items i l
    → before ≡ fin.get (state_at h.changes (l.revision - 1)) (key_of l.key.value)
    → (known : Option SharedObject) → option_map object_in known ≡ before
    → s.from ≡ r.from → s.written ≡ r.written → s.latest.items ≡ set r.latest.items i (record { revision = l.revision; key = l.key; body = l.body; before = Some known }) → AreLatest h s
one_known h r s i l before are lt at is known same from as_before put =
    let m : Latest = record { revision = l.revision; key = l.key; body = l.body; before = Some known } in
    record {
      from = omega (arith, from, are.from);
      changes = ap changes_in put ∙ set_alike change_in r.latest.items i m l lt (ap change_in at) ∙ are.changes ∙ ap (λ n. later n h.changes) (sym from);
      befores = All-same (IsBefore h) _ _ put (All-set (IsBefore h) r.latest.items i m (same ∙ is) are.befores);
      written = omega (arith, are.written, as_before, ap length put, length-set r.latest.items i m);
    }

-- the same changes as before
pub latest_alike : (h : History) (r s : ChangeWindow) → s.from ≡ r.from → s.latest.items ≡ r.latest.items → s.written ≤ length s.latest.items → AreLatest h r → AreLatest h s
latest_alike h r s from same few are = record {
  from = omega (arith, from, are.from);
  changes = ap changes_in same ∙ are.changes ∙ ap (λ n. later n h.changes) (sym from);
  befores = All-same (IsBefore h) _ _ same are.befores;
  written = few;
}

-- ---- what waits

pub waits_last : (xs ys : List Latest) (n : ℕ) (l : Latest) → n ≤ length xs → ys ≡ xs ++ l ∷ [] → map write_in (drop n ys) ≡ map write_in (drop n xs) ++ write_in l ∷ []
waits_last xs ys n l le is = ap (λ zs. map write_in (drop n zs)) is ∙ ap (map write_in) (drop-append-le n xs (l ∷ []) le) ∙ map-append write_in (drop n xs) (l ∷ [])

pub none_waits : (xs : List Latest) (n : ℕ) → n ≡ length xs → map write_in (drop n xs) ≡ []
none_waits xs n is = ap (map write_in) (drop_all n xs (omega (arith, is)))

-- where the first ones are forgotten
pub waits_still : (xs ys : List Latest) (n gone left m : ℕ) → left + gone ≡ length xs → m + gone ≡ n → ys ≡ take left (drop gone xs ++ take gone xs) → map write_in (drop m ys) ≡ map write_in (drop n xs)
waits_still xs ys n gone left m both fewer kept =
    let len : length (drop gone xs) ≡ left = length-drop gone xs ∙ omega (arith, both) in
    let same : ys ≡ drop gone xs = kept ∙ take-append-le left (drop gone xs) (take gone xs) (omega (arith, len)) ∙ take_all left (drop gone xs) (omega (arith, len)) in
    ap (λ zs. map write_in (drop m zs)) same ∙ ap (map write_in) (drop-drop m gone xs ∙ ap (λ k. drop k xs) (omega (arith, fewer)))

-- where what stood before one of them is put aside
pub waits_alike : (xs ys : List Latest) (i n : ℕ) (l m : Latest) → i < length xs → write_in m ≡ write_in l → l ≡ get_or xs i l → ys ≡ set xs i m → map write_in (drop n ys) ≡ map write_in (drop n xs)
waits_alike xs ys i n l m lt alike at put =
    ap (λ zs. map write_in (drop n zs)) put
    ∙ sym (drop-map write_in n (set xs i m)) ∙ ap (drop n) (set_alike write_in xs i m l lt (alike ∙ ap write_in at)) ∙ drop-map write_in n xs

-- ---- as a view shows them

pub shown_after : (h : History) (after : ℕ) → h.compacted ≤ after → later after h.changes ≡ later after (view h).changes
shown_after h after low = sym (later-later h.compacted after h.changes low)

-- so many are not there that the highest revision does not bound them
pub none_left_out : (h : History) (kind : ℕ) (ns : Option (List ℕ)) (after max : ℕ) → IsPruned h → last_revision ≤ max → changes_within kind ns max (later after h.changes) ≡ picked kind ns (later after h.changes)
none_left_out h kind ns after max p most =
    let all : up_to h.current (later after h.changes) ≡ later after h.changes = later_up_to h after p.is in
    ap (changes_within kind ns max) (sym all) ∙ span_whole h kind ns after h.current max p most ∙ ap (picked kind ns) all

-- a prune is at the revision itself, where that is between the two numbers
pub pruned_at : (h : History) (to : ℕ) → h.compacted ≤ to → to ≤ h.current → pruned (between_marks h to) h ≡ pruned to h
pruned_at h to low high = let is : between_marks h to ≡ to = omega arith in ap (λ n. pruned n h) is
