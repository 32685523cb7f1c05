-- The two numbers beside the rows.
use Rattle.std.proofs.Common.{◌≡◌, ℕ, zero, suc, ◌<◌, ◌≤◌, Bool, true, false, cond, List, [], ◌∷◌, map, slice_get, refl, sym, ap, ap₂, subst, ◌∙◌, Option, Some, None, arith, option_map, min, pos, is_some, unwrap_or}
use Rattle.std.proofs.Common.{leb-true, leb-false, le-leb, ltb-true, ltb-false, lt-ltb, le-ltb, zero-le}
use Rattle.std.proofs.lemmas.Bool.{lt-leb}
use Rattle.std.specs.Prelude.{nat_le, nat_lt, take, ◌+◌, ◌-◌, length}
use Rattle.std.specs.List.{filter}
use Rattle.std.specs.FinMap as fin
use Rattle.std.specs.FinMap.Entries.{find}
use Rattle.sqlite.specs.Order.{Row, column}
use Rattle.sqlite.specs.declared.types.Value.TheVariants.{Int}
use Rattle.sqlite_keyed.proofs.ListLemmas.{all_weaker, filter-filter}
use Rattle.revtable.specs.Asked.{as_change, under}
use Rattle.revtable.specs.Decoded.{object_shown}
use Rattle.history.specs.History.{Key, Change, Object, Objects, History, IsHistory, IsRising, key_cmp, last_revision, changed, is_same_key, later, left_by, put_or_remove, state_at, up_to}
use Rattle.history.specs.Kept.{IsPruned, with_body}
use Rattle.history.specs.Page.{changes_within, is_within, picked}
use Rattle.sqlite.specs.Tree.{IsAscending}
use Rattle.revtable.specs.Rows.{shown, number_in}
use Rattle.history.proofs.Keys.{key_cmp_total}
use Rattle.history.proofs.Lists.{filter_turned}
use Rattle.history.proofs.Revisions.{all_above, all_within, rising-filter, up_to-below}
use Rattle.history.proofs.CurrentObjects.{filter_same_on}

pub ascending : (lo top : ℕ) (cs : List Change) → IsRising lo cs top → IsAscending (λ a b. a.revision < b.revision) cs
ascending lo top [] rise = tt
ascending lo top (c ∷ cs) rise = (all_above c.revision top cs rise.1, ascending c.revision top cs rise.1)

pub ordered : (h : History) → IsPruned h → IsAscending (λ a b. a.revision < b.revision) h.changes
ordered h p = ascending 0 h.current h.changes p.is.rising

-- a revision past the current one counts as that
pub up_to_min : (top r : ℕ) (cs : List Change) → IsRising 0 cs top → up_to (min r top) cs ≡ up_to r cs
up_to_min top r cs rise = filter_same_on (λ c. nat_le c.revision (min r top)) (λ c. nat_le c.revision r) cs
    (all_weaker (λ c. c.revision ≤ top) (λ c. nat_le c.revision (min r top) ≡ nat_le c.revision r) (λ c (le : c.revision ≤ top). one c.revision le) cs (all_within 0 top cs rise))
  where
    one : (n : ℕ) → n ≤ top → nat_le n (min r top) ≡ nat_le n r
    one n le = go (nat_le n r) refl
      where
        go : (b : Bool) → nat_le n r ≡ b → nat_le n (min r top) ≡ b
        go true e = let a : n ≤ r = leb-true _ _ e in le-leb n (min r top) (omega arith)
        go false e = let a : r < n = leb-false _ _ e in lt-leb n (min r top) (omega arith)

later_min : (top r : ℕ) (cs : List Change) → IsRising 0 cs top → later (min r top) cs ≡ later r cs
later_min top r cs rise = filter_same_on (λ c. nat_lt (min r top) c.revision) (λ c. nat_lt r c.revision) cs
    (all_weaker (λ c. c.revision ≤ top) (λ c. nat_lt (min r top) c.revision ≡ nat_lt r c.revision) (λ c (le : c.revision ≤ top). one c.revision le) cs (all_within 0 top cs rise))
  where
    one : (n : ℕ) → n ≤ top → nat_lt (min r top) n ≡ nat_lt r n
    one n le = go (nat_lt r n) refl
      where
        go : (b : Bool) → nat_lt r n ≡ b → nat_lt (min r top) n ≡ b
        go true e = let a : r < n = ltb-true _ _ e in lt-ltb (min r top) n (omega arith)
        go false e = let a : n ≤ r = ltb-false _ _ e in le-ltb (min r top) n (omega arith)

span_min : (h : History) (from to : ℕ) → IsHistory h → up_to (min to h.current) (later (min from h.current) h.changes) ≡ up_to to (later from h.changes)
span_min h from to is =
    up_to_min h.current to (later (min from h.current) h.changes) (rising-filter (λ c. nat_lt (min from h.current) c.revision) 0 h.current h.changes is.rising)
    ∙ ap (up_to to) (later_min h.current from h.changes is.rising)

pub state_min : (h : History) (r : ℕ) → IsHistory h → state_at h.changes (min r h.current) ≡ state_at h.changes r
state_min h r is = ap (changed fin.empty) (up_to_min h.current r h.changes is.rising)

-- ---- the row under a key

abbrev pub object_first : List Row → Option Object
object_first rows = option_map object_shown (slice_get rows 0)

found_under : (k : Key) (es : List (Key × Object)) → option_map (λ (e : Key × Object). e.1) (slice_get (filter (λ e. is_same_key k e.0) es) 0) ≡ find key_cmp k es
found_under k [] = refl
found_under k (e ∷ es) = go (is_same_key k e.0) (found_under k es)
  where
    go : (b : Bool) → option_map (λ (f : Key × Object). f.1) (slice_get (filter (λ f. is_same_key k f.0) es) 0) ≡ find key_cmp k es
        → option_map (λ (f : Key × Object). f.1) (slice_get (cond b (e ∷ filter (λ f. is_same_key k f.0) es) (filter (λ f. is_same_key k f.0) es)) 0) ≡ cond b (Some e.1) (find key_cmp k es)
    go true more = refl
    go false more = more

first_shown : (es : List (Key × Object)) → object_first (map (λ e. shown (as_change e)) es) ≡ option_map (λ (e : Key × Object). e.1) (slice_get es 0)
first_shown [] = refl
first_shown (e ∷ es) = refl

pub latest_is : (h : History) (k : Key) (r m : ℕ) (rows : List Row) → IsPruned h → m ≡ min r h.current → rows ≡ map (λ e. shown (as_change e)) (under k (state_at h.changes m))
    → object_first rows ≡ fin.get (state_at h.changes r) k
latest_is h k r m rows p is found =
    ap object_first found ∙ first_shown (under k (state_at h.changes m)) ∙ found_under k (fin.entries (state_at h.changes m)) ∙ sym (fin.get-entries (state_at h.changes m) k)
    ∙ ap (λ n. fin.get (state_at h.changes n) k) is ∙ ap (λ s. fin.get s k) (state_min h r p.is)

-- ---- how many there can be

pub take_whole : {X : Type 0} (n : ℕ) (xs : List X) → length xs ≤ n → take n xs ≡ xs
take_whole zero [] h = refl
take_whole (suc n) [] h = refl
take_whole zero (x ∷ xs) h = absurd (omega arith)
take_whole (suc n) (x ∷ xs) h = ap (λ l. x ∷ l) (take_whole n xs (omega arith))

-- no list here is longer than the highest revision
pub take_min : {X : Type 0} (m : ℕ) (xs : List X) → length xs ≤ last_revision → take (min m last_revision) xs ≡ take m xs
take_min m xs h = go (nat_le m last_revision) refl
  where
    go : (b : Bool) → nat_le m last_revision ≡ b → take (min m last_revision) xs ≡ take m xs
    go true e = let a : m ≤ last_revision = leb-true _ _ e in ap (λ n. take n xs) (omega arith)
    go false e =
        let a : last_revision < m = leb-false _ _ e in
        let b : length xs ≤ m = omega arith in
        ap (λ n. take n xs) (let c : min m last_revision ≡ last_revision = omega arith in c) ∙ take_whole last_revision xs h ∙ sym (take_whole m xs b)

pub take_most : {X : Type 0} (m : ℕ) (xs : List X) → length xs ≤ last_revision → last_revision ≤ m → take m xs ≡ xs
take_most m xs h le = take_whole m xs (omega arith)

filter_shorter : {X : Type 0} (p : X → Bool) (xs : List X) → length (filter p xs) ≤ length xs
filter_shorter p [] = zero-le
filter_shorter p (x ∷ xs) = go (p x) (filter_shorter p xs)
  where
    go : (b : Bool) → length (filter p xs) ≤ length xs → length (cond b (x ∷ filter p xs) (filter p xs)) ≤ suc (length xs)
    go true h = omega arith
    go false h = omega arith

rising_length : (lo top : ℕ) (cs : List Change) → IsRising lo cs top → lo + length cs ≤ top
rising_length lo top [] rise = omega (arith, rise)
rising_length lo top (c ∷ cs) rise = let a : lo < c.revision = rise.0 in let b : c.revision + length cs ≤ top = rising_length c.revision top cs rise.1 in omega arith

one_more : (s : Objects) (k : Key) (o : Option Object) → fin.len (put_or_remove s k o) ≤ suc (fin.len s)
one_more s k None = go (fin.contains_key s k) (fin.len-remove key_cmp_total s k)
  where
    go : (b : Bool) → fin.len (fin.remove s k) ≡ cond b (fin.len s - 1) (fin.len s) → fin.len (fin.remove s k) ≤ suc (fin.len s)
    go true e = omega arith
    go false e = omega arith
one_more s k (Some o) = go (fin.contains_key s k) (fin.len-insert key_cmp_total s k o)
  where
    go : (b : Bool) → fin.len (fin.insert s k o) ≡ cond b (fin.len s) (fin.len s + 1) → fin.len (fin.insert s k o) ≤ suc (fin.len s)
    go true e = omega arith
    go false e = omega arith

changed_length : (s : Objects) (cs : List Change) → fin.len (changed s cs) ≤ fin.len s + length cs
changed_length s [] = omega arith
changed_length s (c ∷ cs) =
    let a : fin.len (changed (put_or_remove s c.key (left_by c)) cs) ≤ fin.len (put_or_remove s c.key (left_by c)) + length cs = changed_length (put_or_remove s c.key (left_by c)) cs in
    let b : fin.len (put_or_remove s c.key (left_by c)) ≤ suc (fin.len s) = one_more s c.key (left_by c) in
    omega arith

pub changes_few : (h : History) (p : Change → Bool) → IsHistory h → length (filter p h.changes) ≤ last_revision
changes_few h p is =
    let a : 0 + length h.changes ≤ h.current = rising_length 0 h.current h.changes is.rising in
    let b : length (filter p h.changes) ≤ length h.changes = filter_shorter p h.changes in
    let c : h.current ≤ last_revision = is.high in
    omega arith

pub objects_few : (h : History) (r : ℕ) (p : Key × Object → Bool) → IsHistory h → length (filter p (fin.entries (state_at h.changes r))) ≤ last_revision
objects_few h r p is =
    let s : Objects = state_at h.changes r in
    let a : length (filter p (fin.entries s)) ≤ length (fin.entries s) = filter_shorter p (fin.entries s) in
    let b : fin.len s ≡ length (fin.entries s) = fin.len-entries s in
    let c : fin.len s ≤ fin.len (fin.empty {X = Object} {R = key_cmp}) + length (up_to r h.changes) = changed_length fin.empty (up_to r h.changes) in
    let d : fin.len (fin.empty {X = Object} {R = key_cmp}) ≡ 0 = fin.len-empty key_cmp Object in
    let e : length (up_to r h.changes) ≤ last_revision = changes_few h (λ c. nat_le c.revision r) is in
    omega arith

pub spans_few : (h : History) (from to : ℕ) (p : Change → Bool) → IsHistory h → length (filter p (up_to to (later from h.changes))) ≤ last_revision
spans_few h from to p is =
    let a : length (filter p (up_to to (later from h.changes))) ≤ length (up_to to (later from h.changes)) = filter_shorter p (up_to to (later from h.changes)) in
    let b : length (up_to to (later from h.changes)) ≤ length (later from h.changes) = filter_shorter (λ c. nat_le c.revision to) (later from h.changes) in
    let c : length (later from h.changes) ≤ last_revision = changes_few h (λ c. nat_lt from c.revision) is in
    omega arith

-- ---- what the rows of an answer are read as

-- the changes of a span, whose ends count as at most the current revision
pub span_is : (h : History) (kind : ℕ) (ns : Option (List ℕ)) (from to most f t mx : ℕ) → IsPruned h → f ≡ min from h.current → t ≡ min to h.current → mx ≡ min most last_revision
    → take mx (picked kind ns (up_to t (later f h.changes))) ≡ changes_within kind ns most (up_to to (later from h.changes))
span_is h kind ns from to most f t mx p from_is to_is max_is =
    ap₂ (λ a b. changes_within kind ns mx (up_to a (later b h.changes))) to_is from_is ∙ ap (changes_within kind ns mx) (span_min h from to p.is)
    ∙ ap (λ n. changes_within kind ns n (up_to to (later from h.changes))) max_is
    ∙ take_min most (picked kind ns (up_to to (later from h.changes))) (spans_few h from to _ p.is)

pub up_rises : (lo t top : ℕ) (cs : List Change) → lo ≤ t → IsRising lo cs top → IsRising lo (up_to t cs) t
up_rises lo t top [] le rise = le
up_rises lo t top (c ∷ cs) le rise = go (nat_le c.revision t) refl (λ h. up_rises c.revision t top cs h rise.1)
  where
    go : (b : Bool) → nat_le c.revision t ≡ b → (c.revision ≤ t → IsRising c.revision (up_to t cs) t) → IsRising lo (cond b (c ∷ up_to t cs) (up_to t cs)) t
    go true e more = (rise.0, more (leb-true _ _ e))
    go false e more = let a : t < c.revision = leb-false _ _ e in subst (λ l. IsRising lo l t) (sym (up_to-below c.revision t top cs (omega arith) rise.1)) le

-- the changes of a span
pub span_rises : (h : History) (kind : ℕ) (ns : Option (List ℕ)) (f t : ℕ) → IsPruned h → IsRising 0 (picked kind ns (up_to t (later f h.changes))) t
span_rises h kind ns f t p = rising-filter (λ c. is_within kind ns c.key) 0 t _ (up_rises 0 t h.current (later f h.changes) zero-le (rising-filter (λ c. nat_lt f c.revision) 0 h.current h.changes p.is.rising))

-- those up to an earlier revision that pass a test
pub span_parts : (p : Change → Bool) (kind : ℕ) (ns : Option (List ℕ)) (t to : ℕ) (cs : List Change) → t ≤ to → picked kind ns (filter p (up_to t cs)) ≡ filter p (up_to t (picked kind ns (up_to to cs)))
span_parts p kind ns t to cs le =
    filter_turned (λ c. is_within kind ns c.key) p (up_to t cs)
    ∙ ap (λ l. filter p (filter (λ c. is_within kind ns c.key) l)) (sym (filter_filter cs))
    ∙ ap (filter p) (filter_turned (λ c. is_within kind ns c.key) (λ c. nat_le c.revision t) (up_to to cs))
  where
    within : (n : ℕ) → nat_le n t ≡ true → nat_le n to ≡ true
    within n e = let a : n ≤ t = leb-true _ _ e in le-leb n to (omega arith)

    filter_filter : (ds : List Change) → up_to t (up_to to ds) ≡ up_to t ds
    filter_filter ds = filter-filter (λ c. nat_le c.revision t) (λ c. nat_le c.revision to) (λ c. within c.revision) ds

pub span_part : (p : Change → Bool) (kind : ℕ) (ns : Option (List ℕ)) (to : ℕ) (cs : List Change) → picked kind ns (filter p (up_to to cs)) ≡ filter p (picked kind ns (up_to to cs))
span_part p kind ns to cs = filter_turned (λ c. is_within kind ns c.key) p (up_to to cs)

pub span_whole : (h : History) (kind : ℕ) (ns : Option (List ℕ)) (from to most : ℕ) → IsPruned h → last_revision ≤ most
    → changes_within kind ns most (up_to to (later from h.changes)) ≡ picked kind ns (up_to to (later from h.changes))
span_whole h kind ns from to most p le = take_most most (picked kind ns (up_to to (later from h.changes))) (spans_few h from to _ p.is) le

-- between a revision and an earlier one there is none
none_between : (f t : ℕ) (cs : List Change) → t ≤ f → up_to t (later f cs) ≡ []
none_between f t [] le = refl
none_between f t (c ∷ cs) le = go (nat_lt f c.revision) refl (none_between f t cs le)
  where
    go : (b : Bool) → nat_lt f c.revision ≡ b → up_to t (later f cs) ≡ [] → up_to t (cond b (c ∷ later f cs) (later f cs)) ≡ []
    go false e none = none
    go true e none =
        let a : f < c.revision = ltb-true _ _ e in
        ap (λ b. cond b (c ∷ up_to t (later f cs)) (up_to t (later f cs))) (lt-leb c.revision t (omega arith)) ∙ none

pub take_nothing : {X : Type 0} (m : ℕ) → take {A = X} m [] ≡ []
take_nothing zero = refl
take_nothing (suc m) = refl

pub first_of_none : {X : Type 0} (m : ℕ) (xs : List X) → xs ≡ [] → [] ≡ take m xs
first_of_none m xs none = sym (take_nothing m) ∙ sym (ap (take m) none)

pub span_none : (h : History) (kind : ℕ) (ns : Option (List ℕ)) (from to f t : ℕ) → IsPruned h → f ≡ min from h.current → t ≡ min to h.current → t ≤ f
    → picked kind ns (up_to to (later from h.changes)) ≡ []
span_none h kind ns from to f t p from_is to_is le =
    ap (picked kind ns) (sym (ap₂ (λ a b. up_to a (later b h.changes)) to_is from_is ∙ span_min h from to p.is) ∙ none_between f t h.changes le)

-- the row of a count
pub count_is : (h : History) (rows : List Row) (row : Row) (n : ℕ) → IsPruned h → rows ≡ (Int (pos (min (length (with_body h.changes)) last_revision)) ∷ []) ∷ [] → Some row ≡ slice_get rows 0 → column row 0 ≡ Int (pos n)
    → n ≡ length (with_body h.changes)
count_is h rows row n p found first read =
    let a : length (with_body h.changes) ≤ last_revision = changes_few h (λ c. is_some c.body) p.is in
    let b : n ≡ min (length (with_body h.changes)) last_revision =
    ap number_in (sym read) ∙ ap (λ o. number_in (column (unwrap_or o []) 0)) (first ∙ ap (λ l. slice_get l 0) found) in
    omega arith
