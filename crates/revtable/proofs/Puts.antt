-- The rows once a change is written: the row that stood under its key ends, and one begins.
use Rattle.std.proofs.Common.{◌≡◌, ℕ, suc, ◌<◌, ◌≤◌, Bool, true, false, cond, not, ◌&&◌, ◌==◌, List, [], ◌∷◌, ◌++◌, map, filter, reverse, refl, sym, ap, ap₂, subst, ◌∙◌, Option, Some, None, arith, true≢false, slice_get, pos, ℤ, unwrap_or}
use Rattle.std.proofs.lemmas.List.{map-append}
use Rattle.std.proofs.lemmas.Bool.Decides.{nat_tests}
use Rattle.std.specs.Prelude.{is_none}
use Rattle.std.specs.Option.{option_to_list}
use Rattle.sqlite.specs.declared.types.Value.TheVariants.{Int}
use Rattle.sqlite.specs.Order.{Row, column}
use Rattle.std.specs.List.{AllByRecursion}
use Rattle.sqlite_keyed.proofs.ListLemmas.{all-filter, all-slice_get}
use Rattle.history.specs.History.{Key, Change, IsRising, is_same_key}
use Rattle.history.proofs.Keys.{tied}
use Rattle.history.proofs.Revisions.{all_above}
use Rattle.revtable.specs.Spans.{Span, end_at, ended_by, ended_from, last_span, next_of, span_until, spans_of, spans_until}
use Rattle.revtable.proofs.Lists.{all-reverse, reverse-cons}
use Rattle.revtable.proofs.Nexts.{all_begin, next-cons, same_key_symm}

-- ---- one more change

next_push : (k : Key) (cs : List Change) (d : Change) (o : Option Change) → next_of k cs ≡ o → next_of k (cs ++ d ∷ []) ≡ (elim o [ None ↦ cond (is_same_key k d.key) (Some d) None | Some n ↦ Some n ])
next_push k [] d o is = subst (λ o. next_of k (d ∷ []) ≡ (elim o [ None ↦ cond (is_same_key k d.key) (Some d) None | Some n ↦ Some n ])) is (next-cons k d [])
next_push k (c ∷ cs) d o is = next-cons k c (cs ++ d ∷ []) ∙ go (is_same_key k c.key) (sym (next-cons k c cs) ∙ is) (λ p e. next_push k cs d p e)
  where
    go : (b : Bool) → cond b (Some c) (next_of k cs) ≡ o
        → ((p : Option Change) → next_of k cs ≡ p → next_of k (cs ++ d ∷ []) ≡ (elim p [ None ↦ cond (is_same_key k d.key) (Some d) None | Some n ↦ Some n ]))
        → cond b (Some c) (next_of k (cs ++ d ∷ [])) ≡ (elim o [ None ↦ cond (is_same_key k d.key) (Some d) None | Some n ↦ Some n ])
    go true e more = subst (λ o. Some c ≡ (elim o [ None ↦ cond (is_same_key k d.key) (Some d) None | Some n ↦ Some n ])) e refl
    go false e more = more o e

and_false : (b : Bool) → (b && false) ≡ false
and_false true = refl
and_false false = refl

and_true : (b : Bool) → (b && true) ≡ b
and_true true = refl
and_true false = refl

one_push : (k : Key) (r : ℕ) (b : Option (List ℕ)) (cs : List Change) (d : Change)
    → spans_until k r b (next_of k (cs ++ d ∷ [])) ≡ ended_by d.key d.revision (is_none d.body) (spans_until k r b (next_of k cs))
one_push k r None cs d = refl
one_push k r (Some body) cs d = go (next_of k cs) (next_push k cs d (next_of k cs) refl)
  where
    living : (s : Bool) → is_same_key d.key k ≡ s → is_same_key k d.key ≡ s
        → span_until k r body (cond (is_same_key k d.key) (Some d) None) ∷ [] ≡ ended_by d.key d.revision (is_none d.body) (span_until k r body None ∷ [])
    living true a b = rw (a, b) refl
    living false a b = rw (a, b) refl

    go : (n : Option Change) → next_of k (cs ++ d ∷ []) ≡ (elim n [ None ↦ cond (is_same_key k d.key) (Some d) None | Some m ↦ Some m ])
        → span_until k r body (next_of k (cs ++ d ∷ [])) ∷ [] ≡ ended_by d.key d.revision (is_none d.body) (span_until k r body n ∷ [])
    go None is = ap (λ o. span_until k r body o ∷ []) is ∙ living (is_same_key d.key k) refl (same_key_symm k d.key)
    go (Some n) is =
        ap (λ o. span_until k r body o ∷ []) is
        ∙ ap (λ b. cond b (end_at d.revision (is_none d.body) (span_until k r body (Some n))) (span_until k r body (Some n)) ∷ []) (sym (and_false (is_same_key d.key k)))

pub spans_push : (cs : List Change) (d : Change) → spans_of (cs ++ d ∷ []) ≡ ended_by d.key d.revision (is_none d.body) (spans_of cs) ++ spans_until d.key d.revision d.body None
spans_push [] d = append-none (spans_until d.key d.revision d.body None)
  where
    append-none : (xs : List Span) → xs ++ [] ≡ xs
    append-none [] = refl
    append-none (x ∷ xs) = ap (λ l. x ∷ l) (append-none xs)
spans_push (c ∷ cs) d =
    ap₂ (λ a b. a ++ b) (one_push c.key c.revision c.body cs d) (spans_push cs d)
    ∙ sym (Rattle.std.proofs.Common.append_assoc (ended_by d.key d.revision (is_none d.body) (spans_until c.key c.revision c.body (next_of c.key cs))) (ended_by d.key d.revision (is_none d.body) (spans_of cs)) (spans_until d.key d.revision d.body None))
    ∙ ap (λ l. l ++ spans_until d.key d.revision d.body None) (sym (map-append _ (spans_until c.key c.revision c.body (next_of c.key cs)) (spans_of cs)))

-- ---- the row that stands is the last of its key

abbrev pub end_last : Option Span → ℕ → Bool → List Span → List Span
end_last None r gone spans = spans
end_last (Some s) r gone spans = ended_from s.first r gone spans

abbrev or_else : Option Span → Option Span → Option Span
or_else None o = o
or_else (Some s) o = Some s

last-cons : (k : Key) (x : Span) (xs : List Span) → last_span k (x ∷ xs) ≡ or_else (last_span k xs) (cond (is_same_key k x.key) (Some x) None)
last-cons k x xs = go (is_same_key k x.key)
  where
    first_push : (ys : List Span) → slice_get (ys ++ x ∷ []) 0 ≡ or_else (slice_get ys 0) (Some x)
    first_push [] = refl
    first_push (y ∷ ys) = refl

    none_else : (o : Option Span) → o ≡ or_else o None
    none_else None = refl
    none_else (Some s) = refl

    go : (b : Bool) → slice_get (reverse (cond b (x ∷ filter (λ s. is_same_key k s.key) xs) (filter (λ s. is_same_key k s.key) xs))) 0 ≡ or_else (last_span k xs) (cond b (Some x) None)
    go true = ap (λ l. slice_get l 0) (reverse-cons x (filter (λ s. is_same_key k s.key) xs)) ∙ first_push (reverse (filter (λ s. is_same_key k s.key) xs))
    go false = none_else (last_span k xs)

last_all : (P : Span → Type 0) (k : Key) (xs : List Span) (s : Span) → AllByRecursion P xs → last_span k xs ≡ Some s → P s
last_all P k xs s all is = all-slice_get P (reverse (filter (λ t. is_same_key k t.key) xs)) 0 s is (all-reverse P (filter (λ t. is_same_key k t.key) xs) (all-filter P (λ t. is_same_key k t.key) xs all))

-- where no later change is of the key, no row is
none_next : (k : Key) (cs : List Change) → next_of k cs ≡ None → AllByRecursion (λ s. is_same_key k s.key ≡ false) (spans_of cs)
none_next k [] e = tt
none_next k (c ∷ cs) e = go (is_same_key k c.key) refl (sym (next-cons k c cs) ∙ e) (none_next k cs) c.body (next_of c.key cs)
  where
    go : (b : Bool) → is_same_key k c.key ≡ b → cond b (Some c) (next_of k cs) ≡ None → (next_of k cs ≡ None → AllByRecursion (λ s. is_same_key k s.key ≡ false) (spans_of cs))
        → (o : Option (List ℕ)) (n : Option Change) → AllByRecursion (λ s. is_same_key k s.key ≡ false) (spans_until c.key c.revision o n ++ spans_of cs)
    go true is e more o n = absurd cc
    go false is e more None n = more e
    go false is e more (Some body) None = (is, more e)
    go false is e more (Some body) (Some n) = (is, more e)

none_last : (k : Key) (xs : List Span) → AllByRecursion (λ s. is_same_key k s.key ≡ false) xs → last_span k xs ≡ None
none_last k [] h = refl
none_last k (x ∷ xs) h = last-cons k x xs ∙ ap₂ (λ o b. or_else o (cond b (Some x) None)) (none_last k xs h.1) h.0

none_ended : (k : Key) (r : ℕ) (g : Bool) (xs : List Span) → AllByRecursion (λ s. is_same_key k s.key ≡ false) xs → ended_by k r g xs ≡ xs
none_ended k r g [] h = refl
none_ended k r g (x ∷ xs) h = ap₂ (λ b l. cond (b && is_none x.ended) (end_at r g x) x ∷ l) h.0 (none_ended k r g xs h.1)

later_stay : (n r : ℕ) (g : Bool) (xs : List Span) → AllByRecursion (λ s. n < s.first) xs → ended_from n r g xs ≡ xs
later_stay n r g [] h = refl
later_stay n r g (x ∷ xs) h = ap₂ (λ b l. cond (b && is_none x.ended) (end_at r g x) x ∷ l) (differ x.first h.0) (later_stay n r g xs h.1)
  where
    differ : (m : ℕ) → n < m → (m == n) ≡ false
    differ m lt = grind (arith, nat_tests)

earlier_differ : (n m : ℕ) → n < m → (n == m) ≡ false
earlier_differ n m lt = grind (arith, nat_tests)

itself : (n : ℕ) → (n == n) ≡ true
itself n = grind (arith, nat_tests)

module _ (k : Key) (r : ℕ) (g : Bool) where
  abbrev End : Span → Span
  End s = cond (is_same_key k s.key && is_none s.ended) (end_at r g s) s

  -- one row before others that began later
  stays_before : (x : Span) (xs : List Span) → AllByRecursion (λ s. x.first < s.first) xs → End x ≡ x → last_span k (x ∷ xs) ≡ last_span k xs
      → ended_by k r g xs ≡ end_last (last_span k xs) r g xs → x ∷ ended_by k r g xs ≡ end_last (last_span k (x ∷ xs)) r g (x ∷ xs)
  stays_before x xs later stays last more = go (last_span k xs) refl more ∙ ap (λ o. end_last o r g (x ∷ xs)) (sym last)
    where
      go : (o : Option Span) → last_span k xs ≡ o → ended_by k r g xs ≡ end_last o r g xs → x ∷ ended_by k r g xs ≡ end_last o r g (x ∷ xs)
      go None is more = ap (λ l. x ∷ l) more
      go (Some s) is more = ap₂ (λ b l. cond (b && is_none x.ended) (end_at r g x) x ∷ l) (sym (earlier_differ x.first s.first (last_all (λ t. x.first < t.first) k xs s later is))) more

  pub ends_last : (lo top : ℕ) (cs : List Change) → IsRising lo cs top → ended_by k r g (spans_of cs) ≡ end_last (last_span k (spans_of cs)) r g (spans_of cs)
  ends_last lo top [] rise = refl
  ends_last lo top (c ∷ cs) rise = go c.body (ends_last c.revision top cs rise.1)
    where
      later : AllByRecursion (λ s. c.revision < s.first) (spans_of cs)
      later = all_begin (λ n. c.revision < n) cs (all_above c.revision top cs rise.1)

      xs : List Span
      xs = spans_of cs

      of_other : (x : Span) → x.first ≡ c.revision → is_same_key k x.key ≡ false → ended_by k r g xs ≡ end_last (last_span k xs) r g xs → ended_by k r g (x ∷ xs) ≡ end_last (last_span k (x ∷ xs)) r g (x ∷ xs)
      of_other x first other more =
          let stays : End x ≡ x = ap (λ b. cond (b && is_none x.ended) (end_at r g x) x) other in
          ap (λ y. y ∷ ended_by k r g xs) stays
          ∙ stays_before x xs (subst (λ n. AllByRecursion (λ s. n < s.first) xs) (sym first) later) stays
          (last-cons k x xs ∙ ap (λ b. or_else (last_span k xs) (cond b (Some x) None)) other ∙ sym (none_else (last_span k xs))) more
        where
          none_else : (o : Option Span) → o ≡ or_else o None
          none_else None = refl
          none_else (Some s) = refl

      -- a row of the key that has ended
      ended : (x : Span) → x.first ≡ c.revision → is_same_key k x.key ≡ true → is_none x.ended ≡ false → ended_by k r g xs ≡ end_last (last_span k xs) r g xs → ended_by k r g (x ∷ xs) ≡ end_last (last_span k (x ∷ xs)) r g (x ∷ xs)
      ended x first mine over more =
          let stays : End x ≡ x = ap (λ b. cond (is_same_key k x.key && b) (end_at r g x) x) over ∙ ap (λ b. cond b (end_at r g x) x) (and_false (is_same_key k x.key)) in
          let after : AllByRecursion (λ s. x.first < s.first) xs = subst (λ n. AllByRecursion (λ s. n < s.first) xs) (sym first) later in
          ap (λ y. y ∷ ended_by k r g xs) stays ∙ by_last stays after (last_span k xs) refl more
        where
          by_last : End x ≡ x → AllByRecursion (λ s. x.first < s.first) xs → (o : Option Span) → last_span k xs ≡ o → ended_by k r g xs ≡ end_last o r g xs → x ∷ ended_by k r g xs ≡ end_last (last_span k (x ∷ xs)) r g (x ∷ xs)
          by_last stays after None is more =
              ap (λ l. x ∷ l) (more ∙ sym (later_stay x.first r g xs after))
              ∙ ap (λ b. cond b (end_at r g x) x ∷ ended_from x.first r g xs) (sym (ap (λ b. (x.first == x.first) && b) over ∙ and_false (x.first == x.first)))
              ∙ ap (λ o. end_last o r g (x ∷ xs)) (sym (last-cons k x xs ∙ ap₂ (λ o b. or_else o (cond b (Some x) None)) is mine))
          by_last stays after (Some s) is more = stays_before x xs after stays (last-cons k x xs ∙ ap (λ o. or_else o (cond (is_same_key k x.key) (Some x) None)) is ∙ sym is) (more ∙ ap (λ o. end_last o r g xs) (sym is))

      go : (b : Option (List ℕ)) → ended_by k r g xs ≡ end_last (last_span k xs) r g xs
          → ended_by k r g (spans_until c.key c.revision b (next_of c.key cs) ++ xs) ≡ end_last (last_span k (spans_until c.key c.revision b (next_of c.key cs) ++ xs)) r g (spans_until c.key c.revision b (next_of c.key cs) ++ xs)
      go None more = more
      go (Some body) more = by_next (next_of c.key cs) refl (is_same_key k c.key) refl
        where
          by_next : (n : Option Change) → next_of c.key cs ≡ n → (b : Bool) → is_same_key k c.key ≡ b
              → ended_by k r g (span_until c.key c.revision body n ∷ xs) ≡ end_last (last_span k (span_until c.key c.revision body n ∷ xs)) r g (span_until c.key c.revision body n ∷ xs)
          by_next None is false mine = of_other (span_until c.key c.revision body None) refl mine more
          by_next (Some n) is false mine = of_other (span_until c.key c.revision body (Some n)) refl mine more
          by_next (Some n) is true mine = ended (span_until c.key c.revision body (Some n)) refl mine refl more
          by_next None is true mine =
              let x = span_until c.key c.revision body None in
              let none = none_next k cs (ap (λ q. next_of q cs) (tied k c.key mine) ∙ is) in
              let last : last_span k (x ∷ xs) ≡ Some x = last-cons k x xs ∙ ap₂ (λ o b. or_else o (cond b (Some x) None)) (none_last k xs none) mine in
              ap₂ (λ b l. cond (b && true) (end_at r g x) x ∷ l) mine (none_ended k r g xs none)
              ∙ ap₂ (λ b l. cond (b && true) (end_at r g x) x ∷ l) (sym (itself c.revision)) (sym (later_stay c.revision r g xs later))
              ∙ ap (λ o. end_last o r g (x ∷ xs)) (sym last)

-- ---- what the last row of a key shows

pub none_shown : (k : Key) (r : ℕ) (g : Bool) (cs : List Change) (top : ℕ) (spans : List Span) (rows : List Row) → IsRising 0 cs top → spans ≡ spans_of cs
    → rows ≡ map (λ s. Int (pos s.first) ∷ []) (option_to_list (last_span k spans)) → None ≡ slice_get rows 0 → spans ≡ ended_by k r g spans
none_shown k r g cs top spans rows rise is found first =
    sym (subst (λ l. ended_by k r g l ≡ end_last (last_span k l) r g l) (sym is) (ends_last k r g 0 top cs rise) ∙ ap (λ o. end_last o r g spans) (go (last_span k spans) (first ∙ ap (λ l. slice_get l 0) found)))
  where
    go : (o : Option Span) → None ≡ slice_get (map (λ (s : Span). Int (pos s.first) ∷ []) (option_to_list o)) 0 → o ≡ None
    go None e = refl
    go (Some s) e = absurd cc

pub one_shown : (k : Key) (r : ℕ) (g : Bool) (cs : List Change) (top : ℕ) (spans : List Span) (rows : List Row) (row : Row) (z : ℤ) → IsRising 0 cs top → spans ≡ spans_of cs
    → rows ≡ map (λ s. Int (pos s.first) ∷ []) (option_to_list (last_span k spans)) → Some row ≡ slice_get rows 0 → column row 0 ≡ Int z
    → (n : ℕ) × (z ≡ pos n) × (ended_from n r g spans ≡ ended_by k r g spans)
one_shown k r g cs top spans rows row z rise is found first read = go (last_span k spans) refl (first ∙ ap (λ l. slice_get l 0) found)
  where
    ends : ended_by k r g spans ≡ end_last (last_span k spans) r g spans
    ends = subst (λ l. ended_by k r g l ≡ end_last (last_span k l) r g l) (sym is) (ends_last k r g 0 top cs rise)

    number : (n : ℕ) → column row 0 ≡ Int (pos n) → z ≡ pos n
    number n e = let both : Int z ≡ Int (pos n) = sym read ∙ e in cc

    go : (o : Option Span) → last_span k spans ≡ o → Some row ≡ slice_get (map (λ (s : Span). Int (pos s.first) ∷ []) (option_to_list o)) 0 → (n : ℕ) × (z ≡ pos n) × (ended_from n r g spans ≡ ended_by k r g spans)
    go None last e = absurd cc
    go (Some s) last e = (s.first, number s.first (ap (λ o. column (unwrap_or o []) 0) e), sym (ends ∙ ap (λ o. end_last o r g spans) last))
