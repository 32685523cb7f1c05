-- One change of the objects, and the counts.
use Rattle.std.proofs.Common.{◌≡◌, ℕ, ◌+◌, ◌-◌, Bool, true, false, cond, ◌&&◌, T, List, [], ◌∷◌, length, filter, Option, Some, None, Ordering, Less, Equal, Greater, is_eq, refl, sym, ap, ap₂, subst, ◌∙◌, arith}
use Rattle.std.specs.Ordering.{eq_by_cmp, is_lt, ordering_then}
use Rattle.std.specs.Cmp.{IsTotalOrder, tied_itself}
use Rattle.std.specs.Cmp.Lexicographic.{slice_cmp, nat_list_cmp_total}
use Rattle.std.specs.Ordering.{nat_cmp}
use Rattle.std.proofs.lemmas.Cmp.{then_total, on_total}
use Rattle.std.specs.FinMap as fin
use Rattle.std.specs.FinMap.{nat_cmp-IsAntisymmetric, slice_cmp-IsAntisymmetric}
use Rattle.std.specs.FinMap.Entries.{by_order, find, below_all, is_sorted, put}
use Rattle.indexer.specs.Objects.{Place, place_cmp, Stored}
use Rattle.reflector.specs.Client.{Objects, place_in, Notice, added, updated, deleted}
use Rattle.reflector.specs.ReplayLaws.{with_notice, replayed, OldSideMatches, OldSidesMatch}
use Rattle.summary.specs.Counts.{how_many, one_if, counted, counted_all}

abbrev Entries : Type 0
Entries = List (Place × Stored)

-- ---- the order of places

pub place_total : IsTotalOrder place_cmp
place_total = then_total (on_total (λ p. p.0) nat_list_cmp_total) (on_total (λ p. p.1) nat_list_cmp_total)

first_equal : (r s : Ordering) → ordering_then r s ≡ Equal → r ≡ Equal
first_equal Less s e = e
first_equal Equal s e = refl
first_equal Greater s e = e

second_equal : (r s : Ordering) → ordering_then r s ≡ Equal → s ≡ Equal
second_equal Less s e = absurd cc
second_equal Equal s e = e
second_equal Greater s e = absurd cc

place_antisymmetric : fin.IsAntisymmetric place_cmp
place_antisymmetric p q e =
    ap₂ (λ (x y : List ℕ). (x, y))
    (slice_cmp-IsAntisymmetric nat_cmp-IsAntisymmetric p.0 q.0 (first_equal (slice_cmp nat_cmp p.0 q.0) (slice_cmp nat_cmp p.1 q.1) e))
    (slice_cmp-IsAntisymmetric nat_cmp-IsAntisymmetric p.1 q.1 (second_equal (slice_cmp nat_cmp p.0 q.0) (slice_cmp nat_cmp p.1 q.1) e))

fst : (a b : Bool) → T (a && b) → T a
fst true b p = tt
fst false b p = p

snd : (a b : Bool) → T (a && b) → T b
snd true b p = p
snd false b p = absurd p

is_less : (o : Ordering) → T (is_lt o) → o ≡ Less
is_less Less p = refl
is_less Equal p = absurd p
is_less Greater p = absurd p

-- ---- lists

module _ (test : Stored → Bool) where
  abbrev among : Entries → ℕ
  among es = length (filter (λ e. test e.1) es)

  abbrev at_most_one : Option Stored → ℕ
  at_most_one None = 0
  at_most_one (Some s) = one_if (test s)

  among-cons : (e : Place × Stored) (es : Entries) → among (e ∷ es) ≡ one_if (test e.1) + among es
  among-cons e es = go (test e.1)
    where
      go : (b : Bool) → length (cond b (e ∷ filter (λ e. test e.1) es) (filter (λ e. test e.1) es)) ≡ one_if b + among es
      go true = omega arith
      go false = omega arith

  not_found : (k : Place) (es : Entries) → T (below_all place_cmp k es) → find place_cmp k es ≡ None
  not_found k [] h = refl
  not_found k (e ∷ es) h = ap (λ (r : Ordering). cond (is_eq r) (Some e.1) (find place_cmp k es)) (is_less _ (fst _ _ h)) ∙ not_found k es (snd _ _ h)

  below_lower : (p r : Place) (es : Entries) → place_cmp p r ≡ Less → T (below_all place_cmp r es) → T (below_all place_cmp p es)
  below_lower p r [] less h = tt
  below_lower p r (e ∷ es) less h =
      go (is_lt (place_cmp p e.0)) (subst (λ o. T (is_lt o)) (sym (place_total.trans p r e.0 less (is_less _ (fst _ _ h)))) tt) (below_lower p r es less (snd _ _ h))
    where
      go : (b : Bool) → T b → T (below_all place_cmp p es) → T (b && below_all place_cmp p es)
      go true x y = y
      go false x y = x

  put_counted : (k : Place) (v : Stored) (es : Entries) → T (is_sorted place_cmp es) → among (put place_cmp k v es) + at_most_one (find place_cmp k es) ≡ among es + one_if (test v)
  put_counted k v [] h = let a : among ((k, v) ∷ []) ≡ one_if (test v) + 0 = among-cons (k, v) [] in omega (arith, a)
  put_counted k v (e ∷ es) h = go (place_cmp k e.0) refl (put_counted k v es (snd _ _ h))
    where
      go : (o : Ordering) → place_cmp k e.0 ≡ o → among (put place_cmp k v es) + at_most_one (find place_cmp k es) ≡ among es + one_if (test v)
          → among (by_order o ((k, v) ∷ e ∷ es) ((e.0, v) ∷ es) (e ∷ put place_cmp k v es)) + at_most_one (cond (is_eq o) (Some e.1) (find place_cmp k es)) ≡ among (e ∷ es) + one_if (test v)
      go Less is more =
          let a : among ((k, v) ∷ e ∷ es) ≡ one_if (test v) + among (e ∷ es) = among-cons (k, v) (e ∷ es) in
          let b : at_most_one (find place_cmp k es) ≡ 0 = ap at_most_one (not_found k es (below_lower k e.0 es is (fst _ _ h))) in
          omega (arith, a, b)
      go Equal is more =
          let a : among ((e.0, v) ∷ es) ≡ one_if (test v) + among es = among-cons (e.0, v) es in
          let b : among (e ∷ es) ≡ one_if (test e.1) + among es = among-cons e es in
          omega (arith, a, b)
      go Greater is more =
          let a : among (e ∷ put place_cmp k v es) ≡ one_if (test e.1) + among (put place_cmp k v es) = among-cons e (put place_cmp k v es) in
          let b : among (e ∷ es) ≡ one_if (test e.1) + among es = among-cons e es in
          omega (arith, a, b, more)

  -- ---- objects

  insert_counted : (o : Objects) (k : Place) (v : Stored) (was : Option Stored) → fin.get o k ≡ was
      → how_many test (fin.insert o k v) + at_most_one was ≡ how_many test o + one_if (test v)
  insert_counted o k v was is =
      ap₂ (λ es s. among es + at_most_one s) (fin.entries-insert place_total o k v) (sym is ∙ fin.get-entries o k) ∙ put_counted k v (fin.entries o) (fin.entries_sorted o)

  put_back : (o : Objects) (k : Place) (old : Stored) → fin.get o k ≡ Some old → fin.insert (fin.remove o k) k old ≡ o
  put_back o k old is =
      fin.same_map place_total place_antisymmetric (fin.insert (fin.remove o k) k old) o (λ q.
      fin.get-insert place_total (fin.remove o k) k old q ∙ ap (cond (eq_by_cmp place_cmp q k) (Some old)) (fin.get-remove place_total o k q) ∙ go q (eq_by_cmp place_cmp q k) refl)
    where
      same : (r : Ordering) → is_eq r ≡ true → r ≡ Equal
      same Less e = absurd cc
      same Equal e = refl
      same Greater e = absurd cc

      go : (q : Place) (b : Bool) → eq_by_cmp place_cmp q k ≡ b → cond b (Some old) (cond b None (fin.get o q)) ≡ fin.get o q
      go q true e = sym (ap (fin.get o) (place_antisymmetric q k (same (place_cmp q k) e)) ∙ is)
      go q false e = refl

  remove_counted : (o : Objects) (k : Place) (old : Stored) → fin.get o k ≡ Some old → how_many test (fin.remove o k) ≡ how_many test o - one_if (test old)
  remove_counted o k old is =
      let gone : fin.get (fin.remove o k) k ≡ None = fin.get-remove place_total o k k ∙ ap (λ (r : Ordering). cond (is_eq r) None (fin.get o k)) (tied_itself place_total k) in
      let a : how_many test (fin.insert (fin.remove o k) k old) + 0 ≡ how_many test (fin.remove o k) + one_if (test old) = insert_counted (fin.remove o k) k old None gone in
      let b : how_many test (fin.insert (fin.remove o k) k old) ≡ how_many test o = ap (how_many test) (put_back o k old is) in
      omega (arith, a, b)

  pub none_counted : how_many test fin.empty ≡ 0
  none_counted =
      let none : fin.entries (fin.from_sorted {X = Stored} {R = place_cmp} []) ≡ [] = fin.entries-from_sorted place_cmp [] tt in
      let nothing : fin.from_sorted {X = Stored} {R = place_cmp} [] ≡ fin.empty = fin.empty_of_len (fin.from_sorted {X = Stored} {R = place_cmp} []) (fin.len-entries (fin.from_sorted {X = Stored} {R = place_cmp} []) ∙ ap length none) in
      ap (how_many test) (sym nothing) ∙ ap among none

  pub notice_counted : (o : Objects) (n : Notice) → OldSideMatches o n → how_many test (with_notice o n) ≡ counted test (how_many test o) n
  notice_counted o (added new) is =
      let a : how_many test (fin.insert o (place_in new) new) + 0 ≡ how_many test o + one_if (test new) = insert_counted o (place_in new) new None is in
      omega (arith, a)
  notice_counted o (updated old new) is =
      let a : how_many test (fin.insert o (place_in new) new) + one_if (test old) ≡ how_many test o + one_if (test new) = insert_counted o (place_in new) new (Some old) is in
      omega (arith, a)
  notice_counted o (deleted old) is = remove_counted o (place_in old) old is

  pub notices_counted : (o : Objects) (ns : List Notice) → OldSidesMatch o ns → counted_all test (how_many test o) ns ≡ how_many test (replayed o ns)
  notices_counted o [] old = refl
  notices_counted o (n ∷ ns) old = ap (λ k. counted_all test k ns) (sym (notice_counted o n old.0)) ∙ notices_counted (with_notice o n) ns old.1
