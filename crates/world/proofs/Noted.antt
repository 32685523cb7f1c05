-- Notes of how far connections were, against what has become of them.
use Rattle.std.proofs.Common.{◌≡◌, ◌∙◌, ◌<◌, ◌+◌, ◌-◌, ◌==◌, arith, ℕ, zero, suc, Bool, true, false, cond, not, ◌&&◌, is_lt, List, [], ◌∷◌, ◌++◌, length, map, drop, take, Option, Some, None, refl, sym, ap, ap₂, subst, option_map, append-nil}
use Rattle.std.specs.Prelude.{◌||◌, T, nat_lt, unwrap_or}
use Rattle.std.specs.BTreeMap.{BTreeMap, get, is_at}
use Rattle.std.specs.Cmp.{nat_cmp_total}
use Rattle.std.specs.FinMap as fin
use Rattle.std.specs.FinMap.Entries.{below_all, find, is_sorted, same_entries}
use Rattle.std.specs.List.{AllByRecursion, filter, slice_index_or}
use Rattle.std.specs.List.Sorted.{IsStrictlySortedBy}
use Rattle.std.specs.Map.{keys_of, lookup}
use Rattle.std.specs.Ordering.{eq_by_cmp, is_eq, nat_cmp}
use Rattle.std.specs.declared.cmp.Ordering.{Ordering}
use Rattle.std.specs.declared.cmp.Ordering.TheVariants.{Less, Equal, Greater}
use Rattle.std.proofs.lemmas.Map.Keys.{sorted_head, sorted_tail}
use Rattle.std.proofs.lemmas.List.{length-append, length-drop, take_more}
use Rattle.requests.specs.Asks.{CallDecision}
use Rattle.httpedge.specs.Connections.{Connection, ended_on, has_ended, written_on}
use Rattle.httpedge.specs.Effects.{added_on, change_at, change_in, has_just_ended, if_something, says_something}
use Rattle.httpedge.specs.Steps.{Event, State}
use Rattle.httpedge.specs.declared.effect.Change.{Change}
use Rattle.httpedge.proofs.Connected.{itself, tied_same}
use Rattle.world.specs.Extents.{AreNoted, AreNotesSince, NotesFollow, added_by, ended_by, extent_seen, extent_without, first_of, noted_on}
use Rattle.world.specs.Recording.{kept_after}
use Rattle.world.specs.Stepping.{added, ended_since, extent_of, is_some_bytes}
use Rattle.world.specs.declared.extents.Extent.{Extent}
use Rattle.world.proofs.Ids.{each_of, find_each, sorted_each}
use Rattle.world.proofs.Kept.{put_seen}

-- ---- rows whose values pass a test

both : (a b : Bool) → T (a && b) → T a × T b
both true true h = (tt, tt)
both true false h = absurd h
both false b h = absurd h

join : (a b : Bool) → T a → T b → T (a && b)
join true b x y = y
join false b x y = absurd x

not_equal : (r : Ordering) → T (is_lt r) → is_eq r ≡ false
not_equal Less h = refl
not_equal Equal h = absurd h
not_equal Greater h = absurd h

module _ {A : Type 0} (p : A → Bool) where
  abbrev pub passing : List (ℕ × A) → List (ℕ × A)
  passing es = filter (λ e. p e.1) es

  abbrev pub if_passes : Option A → Option A
  if_passes None = None
  if_passes (Some a) = cond (p a) (Some a) None

  none_below : (q : ℕ) (es : List (ℕ × A)) → T (below_all nat_cmp q es) → find nat_cmp q es ≡ None
  none_below q [] below = refl
  none_below q (e ∷ es) below =
      let parts = both (is_lt (nat_cmp q e.0)) (below_all nat_cmp q es) below in
      ap (λ (b : Bool). cond b (Some e.1) (find nat_cmp q es)) (not_equal (nat_cmp q e.0) parts.0) ∙ none_below q es parts.1

  below_passing : (k : ℕ) (es : List (ℕ × A)) → T (below_all nat_cmp k es) → T (below_all nat_cmp k (passing es))
  below_passing k [] below = tt
  below_passing k (e ∷ es) below =
      let parts = both (is_lt (nat_cmp k e.0)) (below_all nat_cmp k es) below in
      by (p e.1) parts.0 (below_passing k es parts.1)
    where
      by : (b : Bool) → T (is_lt (nat_cmp k e.0)) → T (below_all nat_cmp k (passing es)) → T (below_all nat_cmp k (cond b (e ∷ passing es) (passing es)))
      by true first rest = join (is_lt (nat_cmp k e.0)) (below_all nat_cmp k (passing es)) first rest
      by false first rest = rest

  sorted_passing : (es : List (ℕ × A)) → T (is_sorted nat_cmp es) → T (is_sorted nat_cmp (passing es))
  sorted_passing [] sorted = tt
  sorted_passing (e ∷ es) sorted =
      let parts = both (below_all nat_cmp e.0 es) (is_sorted nat_cmp es) sorted in
      by (p e.1) (below_passing e.0 es parts.0) (sorted_passing es parts.1)
    where
      by : (b : Bool) → T (below_all nat_cmp e.0 (passing es)) → T (is_sorted nat_cmp (passing es)) → T (is_sorted nat_cmp (cond b (e ∷ passing es) (passing es)))
      by true first rest = join (below_all nat_cmp e.0 (passing es)) (is_sorted nat_cmp (passing es)) first rest
      by false first rest = rest

  find_by : (q : ℕ) (e : ℕ × A) (es : List (ℕ × A)) (is passes : Bool) → eq_by_cmp nat_cmp q e.0 ≡ is → p e.1 ≡ passes → T (below_all nat_cmp e.0 es)
      → find nat_cmp q (passing es) ≡ if_passes (find nat_cmp q es)
      → find nat_cmp q (cond passes (e ∷ passing es) (passing es)) ≡ if_passes (cond is (Some e.1) (find nat_cmp q es))
  find_by q e es true true here some below rest = ap (λ (b : Bool). cond b (Some e.1) (find nat_cmp q (passing es))) here ∙ sym (ap (λ (b : Bool). cond b (Some e.1) None) some)
  find_by q e es true false here none below rest =
      rest ∙ ap if_passes (ap (λ (k : ℕ). find nat_cmp k es) (tied_same q e.0 here) ∙ none_below e.0 es below) ∙ sym (ap (λ (b : Bool). cond b (Some e.1) None) none)
  find_by q e es false true apart some below rest = ap (λ (b : Bool). cond b (Some e.1) (find nat_cmp q (passing es))) apart ∙ rest
  find_by q e es false false apart none below rest = rest

  find_passing : (q : ℕ) (es : List (ℕ × A)) → T (is_sorted nat_cmp es) → find nat_cmp q (passing es) ≡ if_passes (find nat_cmp q es)
  find_passing q [] sorted = refl
  find_passing q (e ∷ es) sorted =
      let parts = both (below_all nat_cmp e.0 es) (is_sorted nat_cmp es) sorted in
      find_by q e es (eq_by_cmp nat_cmp q e.0) (p e.1) refl refl parts.0 (find_passing q es parts.1)

  -- rows of which at each id the same passes
  pub same_passing : (es fs : List (ℕ × A)) → T (is_sorted nat_cmp es) → T (is_sorted nat_cmp fs) → ((q : ℕ) → if_passes (find nat_cmp q es) ≡ if_passes (find nat_cmp q fs)) → passing es ≡ passing fs
  same_passing es fs of_es of_fs alike =
      same_entries nat_cmp nat_cmp_total fin.nat_cmp-IsAntisymmetric (passing es) (passing fs) (sorted_passing es of_es) (sorted_passing fs of_fs)
      (λ q. find_passing q es of_es ∙ alike q ∙ sym (find_passing q fs of_fs))

  -- a row for a note, and one for a connection: f is what is noted, a what the connection has, which passes only where both are there
  one_row : {N C : Type 0} (f : N → A) (a : A) (o : Option N) (c : Option C) → ((n : N) → o ≡ Some n → f n ≡ a) → (o ≡ None → p a ≡ false) → (c ≡ None → p a ≡ false)
      → if_passes (option_map f o) ≡ if_passes (option_map (λ x. a) c)
  one_row f a (Some n) (Some c) noted unnoted unopened = ap (λ (x : A). cond (p x) (Some x) None) (noted n refl)
  one_row f a (Some n) None noted unnoted unopened = ap (λ (x : A). cond (p x) (Some x) None) (noted n refl) ∙ ap (λ (b : Bool). cond b (Some a) None) (unopened refl)
  one_row f a None (Some c) noted unnoted unopened = sym (ap (λ (b : Bool). cond b (Some a) None) (unnoted refl))
  one_row f a None None noted unnoted unopened = refl

-- ---- the notes, in order

abbrev pub Notes : Type 0
Notes = List (ℕ × Extent)

below_notes : (id : ℕ) (es : Notes) → IsStrictlySortedBy nat_cmp (id ∷ keys_of es) → T (below_all nat_cmp id es)
below_notes id es sorted = go es (sorted_head nat_cmp id (keys_of es) sorted)
  where
    go : (es : Notes) → AllByRecursion (λ y. nat_cmp id y ≡ Less) (keys_of es) → T (below_all nat_cmp id es)
    go [] all = tt
    go (e ∷ es) all = join (is_lt (nat_cmp id e.0)) (below_all nat_cmp id es) (subst (λ r. T (is_lt r)) (sym all.0) tt) (go es all.1)

pub sorted_notes : (es : Notes) → IsStrictlySortedBy nat_cmp (keys_of es) → T (is_sorted nat_cmp es)
sorted_notes [] sorted = tt
sorted_notes (e ∷ es) sorted = join (below_all nat_cmp e.0 es) (is_sorted nat_cmp es) (below_notes e.0 es sorted) (sorted_notes es (sorted_tail nat_cmp e.0 (keys_of es) sorted))

found : (q : ℕ) (es : Notes) → lookup (is_at (nat_cmp q)) es ≡ find nat_cmp q es
found q [] = refl
found q (e ∷ es) = ap (cond (eq_by_cmp nat_cmp q e.0) (Some e.1)) (found q es)

-- ---- one connection, by its note or without one

none_left : (n : ℕ) → drop {A = ℕ} n [] ≡ []
none_left zero = refl
none_left (suc n) = refl

all_left : (xs : List ℕ) → drop (length xs) xs ≡ []
all_left [] = refl
all_left (x ∷ xs) = all_left xs

not_both : (b : Bool) → b && not b ≡ false
not_both true = refl
not_both false = refl

abbrev Extents : Type 0
Extents = ℕ × Bool

-- a note tells how far the connection was, and one without a note is as far as it was
noted_is : (o : Option Extent) (now was : Extents) → unwrap_or (option_map extent_seen o) now ≡ was → (m : Extent) → o ≡ Some m → extent_seen m ≡ was
noted_is o now was is m at = sym (ap (λ (x : Option Extent). unwrap_or (option_map extent_seen x) now) at) ∙ is

unnoted_is : (o : Option Extent) (now was : Extents) → unwrap_or (option_map extent_seen o) now ≡ was → o ≡ None → now ≡ was
unnoted_is o now was is at = sym (ap (λ (x : Option Extent). unwrap_or (option_map extent_seen x) now) at) ∙ is

abbrev has_bytes : List ℕ → Bool
has_bytes bytes = not (length bytes == 0)

-- ---- what was written, and what ended

module _ (s t : State) (es : Notes) (sorted : T (is_sorted nat_cmp es)) (since : (q : ℕ) → unwrap_or (option_map extent_seen (find nat_cmp q es)) (extent_of t q) ≡ extent_of s q) where
  abbrev rest_by : ℕ → Extent → List ℕ
  rest_by q m = drop m.written (written_on t.connections q)

  rest_is : (q : ℕ) (m : Extent) → find nat_cmp q es ≡ Some m → rest_by q m ≡ added_on s t q
  rest_is q m at = ap (λ (x : Extents). drop x.0 (written_on t.connections q)) (noted_is (find nat_cmp q es) (extent_of t q) (extent_of s q) (since q) m at)

  no_rest : (q : ℕ) → find nat_cmp q es ≡ None → has_bytes (added_on s t q) ≡ false
  no_rest q at =
      ap has_bytes (ap (λ (x : Extents). drop x.0 (written_on t.connections q)) (sym (unnoted_is (find nat_cmp q es) (extent_of t q) (extent_of s q) (since q) at)) ∙ all_left (written_on t.connections q))

  no_connection : (q : ℕ) → fin.get t.connections q ≡ None → has_bytes (added_on s t q) ≡ false
  no_connection q at =
      ap has_bytes (ap (λ (o : Option Connection). drop (length (written_on s.connections q)) (unwrap_or (option_map (λ (c : Connection). c.written) o) [])) at ∙ none_left (length (written_on s.connections q)))

  rows_of_ids : (f : ℕ → List ℕ) (cs : List (ℕ × Connection)) → map (λ id. (id, f id)) (map (λ e. e.0) cs) ≡ each_of (λ q (c : Connection). f q) cs
  rows_of_ids f [] = refl
  rows_of_ids f (c ∷ cs) = ap (λ rest. (c.0, f c.0) ∷ rest) (rows_of_ids f cs)

  pub added_by_notes : added_by t es ≡ added s t
  added_by_notes =
      let now = fin.entries t.connections in
      same_passing has_bytes (each_of rest_by es) (each_of (λ q (c : Connection). added_on s t q) now)
      (subst T (sym (sorted_each rest_by es)) sorted) (subst T (sym (sorted_each (λ q (c : Connection). added_on s t q) now)) (fin.entries_sorted t.connections))
      (λ q. ap (if_passes has_bytes) (find_each rest_by q es)
      ∙ one_row has_bytes (rest_by q) (added_on s t q) (find nat_cmp q es) (fin.get t.connections q) (rest_is q) (no_rest q) (no_connection q)
      ∙ ap (if_passes has_bytes) (ap (option_map (λ (c : Connection). added_on s t q)) (fin.get-entries t.connections q) ∙ sym (find_each (λ q (c : Connection). added_on s t q) q now)))
      ∙ sym (ap (filter is_some_bytes) (rows_of_ids (added_on s t) now))

  abbrev ends_by : ℕ → Extent → Bool
  ends_by q m = ended_on t.connections q && not m.ended

  abbrev holds : Bool → Bool
  holds b = b

  end_is : (q : ℕ) (m : Extent) → find nat_cmp q es ≡ Some m → ends_by q m ≡ has_just_ended s t q
  end_is q m at = ap (λ (x : Extents). ended_on t.connections q && not x.1) (noted_is (find nat_cmp q es) (extent_of t q) (extent_of s q) (since q) m at)

  no_end : (q : ℕ) → find nat_cmp q es ≡ None → has_just_ended s t q ≡ false
  no_end q at =
      ap (λ (x : Extents). ended_on t.connections q && not x.1) (sym (unnoted_is (find nat_cmp q es) (extent_of t q) (extent_of s q) (since q) at)) ∙ not_both (ended_on t.connections q)

  no_such_end : (q : ℕ) → fin.get t.connections q ≡ None → has_just_ended s t q ≡ false
  no_such_end q at = ap (λ (o : Option Connection). ended_in o && not (ended_on s.connections q)) at
    where
      ended_in : Option Connection → Bool
      ended_in o = unwrap_or (option_map (λ (c : Connection). has_ended c.phase) o) false

  -- ids whose row passes
  ids_by : {X : Type 0} (f : ℕ → X → Bool) (xs : List (ℕ × X)) → map (λ e. e.0) (passing holds (each_of f xs)) ≡ map (λ e. e.0) (filter (λ e. f e.0 e.1) xs)
  ids_by f [] = refl
  ids_by f (x ∷ xs) = by (f x.0 x.1) (ids_by f xs)
    where
      by : (b : Bool) → map (λ (e : ℕ × Bool). e.0) (passing holds (each_of f xs)) ≡ map (λ e. e.0) (filter (λ e. f e.0 e.1) xs)
          → map (λ (e : ℕ × Bool). e.0) (cond b ((x.0, f x.0 x.1) ∷ passing holds (each_of f xs)) (passing holds (each_of f xs))) ≡ map (λ e. e.0) (cond b (x ∷ filter (λ e. f e.0 e.1) xs) (filter (λ e. f e.0 e.1) xs))
      by true rest = ap (λ (ids : List ℕ). x.0 ∷ ids) rest
      by false rest = rest

  ids_of : (f : ℕ → Bool) (cs : List (ℕ × Connection)) → map (λ e. e.0) (filter (λ e. f e.0) cs) ≡ filter f (map (λ e. e.0) cs)
  ids_of f [] = refl
  ids_of f (c ∷ cs) = by (f c.0) (ids_of f cs)
    where
      by : (b : Bool) → map (λ e. e.0) (filter (λ e. f e.0) cs) ≡ filter f (map (λ e. e.0) cs)
          → map (λ e. e.0) (cond b (c ∷ filter (λ e. f e.0) cs) (filter (λ e. f e.0) cs)) ≡ cond b (c.0 ∷ filter f (map (λ e. e.0) cs)) (filter f (map (λ e. e.0) cs))
      by true rest = ap (λ (ids : List ℕ). c.0 ∷ ids) rest
      by false rest = rest

  pub ended_by_notes : ended_by t es ≡ ended_since s t
  ended_by_notes =
      let now = fin.entries t.connections in
      let all : ℕ → Connection → Bool = λ q c. has_just_ended s t q in
      sym (ids_by ends_by es)
      ∙ ap (map (λ e. e.0)) (same_passing holds (each_of ends_by es) (each_of all now) (subst T (sym (sorted_each ends_by es)) sorted) (subst T (sym (sorted_each all now)) (fin.entries_sorted t.connections))
      (λ q. ap (if_passes holds) (find_each ends_by q es)
      ∙ one_row holds (ends_by q) (has_just_ended s t q) (find nat_cmp q es) (fin.get t.connections q) (end_is q) (no_end q) (no_such_end q)
      ∙ ap (if_passes holds) (ap (option_map (all q)) (fin.get-entries t.connections q) ∙ sym (find_each all q now))))
      ∙ ids_by all now ∙ ids_of (has_just_ended s t) now

-- ---- changes that are noted

module _ (s t : State) (event : Event) (decision : CallDecision) (grows : (q : ℕ) → (more : List ℕ) × (written_on t.connections q ≡ written_on s.connections q ++ more)) (stays : (q : ℕ) → ended_on s.connections q ≡ true → ended_on t.connections q ≡ true) where
  abbrev change : ℕ → Change
  change q = change_at s event decision t q

  without : (a b : ℕ) (total : ℕ) → total ≡ a + b → total - (total - a) ≡ a
  without a b total is = omega (arith, is)

  written_before : (q : ℕ) → length (written_on t.connections q) - (change q).bytes ≡ length (written_on s.connections q)
  written_before q =
      let old = written_on s.connections q in
      let now = written_on t.connections q in
      let more = grows q in
      ap (λ (n : ℕ). length now - n) (length-drop (length old) now)
      ∙ without (length old) (length more.0) (length now) (ap length more.1 ∙ length-append old more.0)

  ended_before : (now was : Bool) → (was ≡ true → now ≡ true) → now && not (now && not was) ≡ was
  ended_before true true stay = refl
  ended_before true false stay = refl
  ended_before false true stay = stay refl
  ended_before false false stay = refl

  before : (q : ℕ) → extent_without t q (change q) ≡ extent_of s q
  before q = ap₂ (λ (n : ℕ) (b : Bool). (n, b)) (written_before q) (ended_before (ended_on t.connections q) (ended_on s.connections q) (stays q))

  nothing : (a b : Bool) → a || b ≡ false → (a ≡ false) × (b ≡ false)
  nothing true b e = absurd cc
  nothing false b e = (refl, e)

  no_bytes : (n : ℕ) → nat_lt 0 n ≡ false → n ≡ 0
  no_bytes zero e = refl
  no_bytes (suc n) e = let bad : true ≡ false = sym (above n) ∙ e in absurd cc
    where
      above : (k : ℕ) → nat_lt 0 (suc k) ≡ true
      above k = grind arith

  same_ends : (now was : Bool) → (was ≡ true → now ≡ true) → now && not was ≡ false → now ≡ was
  same_ends true true stay e = refl
  same_ends true false stay e = absurd cc
  same_ends false true stay e = stay refl
  same_ends false false stay e = refl

  all_of : (n : ℕ) → n ≡ n - 0
  all_of n = omega arith

  unchanged : (q : ℕ) → says_something (change q) ≡ false → extent_of t q ≡ extent_of s q
  unchanged q none =
      let old = written_on s.connections q in
      let now = written_on t.connections q in
      let parts = nothing (nat_lt 0 (change q).bytes) (change q).has_ended none in
      ap₂ (λ (n : ℕ) (b : Bool). (n, b)) (all_of (length now) ∙ ap (λ (n : ℕ). length now - n) (sym (no_bytes (change q).bytes parts.0)) ∙ written_before q)
      (same_ends (ended_on t.connections q) (ended_on s.connections q) (stays q) parts.1)

  one_noted : (q : ℕ) (b : Bool) → says_something (change q) ≡ b → unwrap_or (option_map (extent_without t q) (cond b (Some (change q)) None)) (extent_of t q) ≡ extent_of s q
  one_noted q true some = before q
  one_noted q false none = unchanged q none

  first_noted : (q : ℕ) (o : Option Extents) → unwrap_or (first_of o (option_map (extent_without t q) (if_something (change q)))) (extent_of t q) ≡ unwrap_or o (extent_of s q)
  first_noted q (Some x) = refl
  first_noted q None = one_noted q (says_something (change q)) refl

  pub notes_follow : (changes : List (ℕ × Change)) (noted further : BTreeMap ℕ Extent) → ((q : ℕ) → change_in changes q ≡ if_something (change q)) → AreNoted t changes noted further → NotesFollow noted s further t
  notes_follow changes noted further says are start since = λ q.
      ap (λ (o : Option Extents). unwrap_or o (extent_of t q)) (are q ∙ ap (λ (o : Option Change). first_of (noted_on noted q) (option_map (extent_without t q) o)) (says q))
      ∙ first_noted q (noted_on noted q) ∙ since q

-- ---- changes one by one

later : (q : ℕ) (es : List (ℕ × Change)) (e : ℕ × Change) → change_in (es ++ e ∷ []) q ≡ first_of (change_in es q) (cond (eq_by_cmp nat_cmp q e.0) (Some e.1) None)
later q [] e = refl
later q (x ∷ es) e = by (eq_by_cmp nat_cmp q x.0) (later q es e)
  where
    by : (b : Bool) → change_in (es ++ e ∷ []) q ≡ first_of (change_in es q) (cond (eq_by_cmp nat_cmp q e.0) (Some e.1) None)
        → cond b (Some x.1) (change_in (es ++ e ∷ []) q) ≡ first_of (cond b (Some x.1) (change_in es q)) (cond (eq_by_cmp nat_cmp q e.0) (Some e.1) None)
    by true rest = refl
    by false rest = rest

-- which of two is the first, where a third comes last
put_last : (s : Option Extents) (c x : Option Change) (w : Change → Extents) (o n : Option Extents) → o ≡ first_of s (option_map w c) → n ≡ first_of o (option_map w x) → n ≡ first_of s (option_map w (first_of c x))
put_last (Some a) c x w o n is_o is_n = is_n ∙ ap (λ y. first_of y (option_map w x)) is_o
put_last None (Some c) x w o n is_o is_n = is_n ∙ ap (λ y. first_of y (option_map w x)) is_o
put_last None None x w o n is_o is_n = is_n ∙ ap (λ y. first_of y (option_map w x)) is_o

put_first : (o : Option Extents) (b : Bool) (x : Extents) → kept_after o b x ≡ first_of o (cond b (Some x) None)
put_first (Some y) b x = refl
put_first None true x = refl
put_first None false x = refl

either : (q id : ℕ) (a b : Bool) → eq_by_cmp nat_cmp q id ≡ a → eq_by_cmp nat_cmp id q ≡ b → a ≡ b
either q id true true e f = refl
either q id false false e f = refl
either q id true false e f = sym (itself id) ∙ ap (eq_by_cmp nat_cmp id) (sym (tied_same q id e)) ∙ f
either q id false true e f = sym (sym (itself q) ∙ ap (eq_by_cmp nat_cmp q) (sym (tied_same id q f)) ∙ e)

put_without : (t : State) (q : ℕ) (e : ℕ × Change) (m : Extent) (b : Bool) → eq_by_cmp nat_cmp q e.0 ≡ b → extent_seen m ≡ extent_without t e.0 e.1
    → cond b (Some (extent_seen m)) None ≡ option_map (extent_without t q) (cond b (Some e.1) None)
put_without t q e m true here seen = ap Some (seen ∙ ap (λ (k : ℕ). extent_without t k e.1) (sym (tied_same q e.0 here)))
put_without t q e m false apart seen = refl

pub none_noted : (t : State) (noted : BTreeMap ℕ Extent) → AreNoted t [] noted noted
none_noted t noted = λ q. by (noted_on noted q)
  where
    by : (o : Option Extents) → o ≡ first_of o None
    by (Some x) = refl
    by None = refl

pub one_more_noted : (t : State) (changes : List (ℕ × Change)) (i : ℕ) (d e : ℕ × Change) (start old new : BTreeMap ℕ Extent) (m : Extent) → i < length changes → e ≡ slice_index_or changes i d
    → ((q : ℕ) → get nat_cmp new q ≡ kept_after (get nat_cmp old q) (eq_by_cmp nat_cmp e.0 q) m) → extent_seen m ≡ extent_without t e.0 e.1
    → AreNoted t (take i changes) start old → AreNoted t (take (i + 1) changes) start new
one_more_noted t changes i d e start old new m lt here put seen before = λ q.
    let w = extent_without t q in
    let c = change_in (take i changes) q in
    let x = cond (eq_by_cmp nat_cmp q e.0) (Some e.1) None in
    put_last (noted_on start q) c x w (noted_on old q) (noted_on new q) (before q)
    (ap (option_map extent_seen) (put q) ∙ put_seen extent_seen (get nat_cmp old q) (eq_by_cmp nat_cmp e.0 q) m ∙ put_first (noted_on old q) (eq_by_cmp nat_cmp e.0 q) (extent_seen m)
    ∙ ap (λ (b : Bool). first_of (noted_on old q) (cond b (Some (extent_seen m)) None)) (either e.0 q (eq_by_cmp nat_cmp e.0 q) (eq_by_cmp nat_cmp q e.0) refl refl)
    ∙ ap (first_of (noted_on old q)) (put_without t q e m (eq_by_cmp nat_cmp q e.0) refl seen))
    ∙ ap (λ (o : Option Change). first_of (noted_on start q) (option_map w o))
    (sym (ap (λ (es : List (ℕ × Change)). change_in es q) (take_more changes i d lt ∙ ap (λ (y : ℕ × Change). take i changes ++ y ∷ []) (sym here)) ∙ later q (take i changes) e))

-- ---- the notes are through

ordered_since : (s t : State) (noted : BTreeMap ℕ Extent) → AreNotesSince s noted t → (q : ℕ) → unwrap_or (option_map extent_seen (find nat_cmp q noted.entries)) (extent_of t q) ≡ extent_of s q
ordered_since s t noted since q = sym (ap (λ (o : Option Extent). unwrap_or (option_map extent_seen o) (extent_of t q)) (found q noted.entries)) ∙ since q

pub all_added : (s t : State) (noted : BTreeMap ℕ Extent) (all : List (ℕ × List ℕ)) (left : Notes) → IsStrictlySortedBy nat_cmp (keys_of noted.entries) → AreNotesSince s noted t → left ≡ []
    → all ++ added_by t left ≡ added_by t noted.entries → all ≡ added s t
all_added s t noted all left ordered since none is =
    sym (append-nil all) ∙ ap (λ (es : Notes). all ++ added_by t es) (sym none) ∙ is ∙ added_by_notes s t noted.entries (sorted_notes noted.entries ordered) (ordered_since s t noted since)

pub all_ended : (s t : State) (noted : BTreeMap ℕ Extent) (all : List ℕ) (left : Notes) → IsStrictlySortedBy nat_cmp (keys_of noted.entries) → AreNotesSince s noted t → left ≡ []
    → all ++ ended_by t left ≡ ended_by t noted.entries → all ≡ ended_since s t
all_ended s t noted all left ordered since none is =
    sym (append-nil all) ∙ ap (λ (es : Notes). all ++ ended_by t es) (sym none) ∙ is ∙ ended_by_notes s t noted.entries (sorted_notes noted.entries ordered) (ordered_since s t noted since)
