-- A page is what is left of one namespace and then what the namespaces after it have.
use Rattle.std.proofs.Common.{◌≡◌, ℕ, zero, suc, List, [], ◌∷◌, ◌++◌, Bool, true, false, cond, T, ◌&&◌, ◌||◌, Option, Some, None, is_some, unwrap_or, refl, sym, ap, subst, option_map, ◌∙◌, take, length, ◌-◌, Less, Equal, Greater, Ordering, filter, ◌==◌, is_eq, is_lt, arith}
use Rattle.std.proofs.Common.{eqb-true}
use Rattle.std.specs.Ordering.{is_gt, ordering_then}
use Rattle.std.specs.List.{AllByRecursion}
use Rattle.std.specs.FinMap as fin
use Rattle.sqlite.specs.Tree.{IsAscending}
use Rattle.sqlite_keyed.proofs.ListLemmas.{filter_same}
use Rattle.revtable.specs.Asked.{begins, begins_by, in_one, in_from, in_later, is_in_one, is_in_later, is_past_name}
use Rattle.history.specs.History.{Key, Objects, text_cmp, key_cmp}
use Rattle.history.specs.Page.{is_within, is_past, listed}
use Rattle.revtable.proofs.Entries.{Entry, entries_ascend}
use Rattle.history.proofs.Keys.{is_equal, text_cmp_antisymmetric}
use Rattle.revtable.proofs.Pages.{and_left, same_kind}
use Rattle.revtable.proofs.Where.{next_text}

and_right : (a b : Bool) → (a && b) ≡ true → b ≡ true
and_right true b e = e
and_right false b e = absurd (subst T (sym e) tt)

refuted : (b : Bool) → (b ≡ true → b ≡ false) → b ≡ false
refuted true f = f refl
refuted false f = refl

-- ---- two tests, of which the second holds of nothing before the first does

module _ {X : Type 0} (R : X → X → Type 0) (p q : X → Bool) where
  none_after : ((x y : X) → R x y → q x ≡ true → p y ≡ false) → (x : X) → q x ≡ true → (xs : List X) → AllByRecursion (R x) xs → filter p xs ≡ []
  none_after after x is [] all = refl
  none_after after x is (y ∷ ys) all = ap (λ b. cond b (y ∷ filter p ys) (filter p ys)) (after x y all.0 is) ∙ none_after after x is ys all.1

  in_halves : ((x y : X) → R x y → q x ≡ true → p y ≡ false) → ((x : X) → q x ≡ true → p x ≡ false) → (xs : List X) → IsAscending R xs → filter (λ x. p x || q x) xs ≡ filter p xs ++ filter q xs
  in_halves after apart [] up = refl
  in_halves after apart (x ∷ xs) up = go (p x) (q x) refl refl (in_halves after apart xs up.1)
    where
      go : (a b : Bool) → p x ≡ a → q x ≡ b → filter (λ y. p y || q y) xs ≡ filter p xs ++ filter q xs
          → cond (a || b) (x ∷ filter (λ y. p y || q y) xs) (filter (λ y. p y || q y) xs) ≡ cond a (x ∷ filter p xs) (filter p xs) ++ cond b (x ∷ filter q xs) (filter q xs)
      go true true is_p is_q more = absurd (subst T (sym is_p ∙ apart x is_q) tt)
      go true false is_p is_q more = ap (λ l. x ∷ l) more
      go false true is_p is_q more =
          let none = none_after after x is_q xs up.0 in
          ap (λ l. x ∷ l) (more ∙ ap (λ l. l ++ filter q xs) none) ∙ sym (ap (λ l. l ++ x ∷ filter q xs) none)
      go false false is_p is_q more = more

less_nothing : (n : ℕ) → n ≡ n - 0
less_nothing n = omega (arith)

less_both : (n m : ℕ) → n - m ≡ suc n - suc m
less_both n m = omega (arith)

pub take_both : {X : Type 0} (n : ℕ) (xs ys : List X) → take n (xs ++ ys) ≡ take n xs ++ take (n - length (take n xs)) ys
take_both zero xs ys = refl
take_both (suc n) [] ys = ap (λ m. take m ys) (less_nothing (suc n))
take_both (suc n) (x ∷ xs) ys = ap (λ l. x ∷ l) (take_both n xs ys ∙ ap (λ m. take n xs ++ take m ys) (less_both n (length (take n xs))))

-- ---- the objects of a type in the order of keys

module _ (kind : ℕ) (ns : List ℕ) (name : Option (List ℕ)) where
  apart : (k : Key) → is_in_later kind ns k ≡ true → is_in_one kind ns name k ≡ false
  apart k late = go (k.kind == kind) (text_cmp k.namespace ns) (is_past_name name k.name) late
    where
      go : (a : Bool) (o : Ordering) (b : Bool) → (a && is_gt o) ≡ true → ((a && is_eq o) && b) ≡ false
      go true Less b e = refl
      go true Equal b e = absurd (subst T (sym e) tt)
      go true Greater b e = refl
      go false o b e = refl

  greater : (o : Ordering) → is_gt o ≡ true → o ≡ Greater
  greater Less e = absurd (subst T (sym e) tt)
  greater Equal e = absurd (subst T (sym e) tt)
  greater Greater e = refl

  never_back : (x y : Key) → key_cmp x y ≡ Less → is_in_later kind ns x ≡ true → is_in_one kind ns name y ≡ false
  never_back x y less late = refuted (is_in_one kind ns name y) (λ here.
      let of_type = and_left ((y.kind == kind) && is_eq (text_cmp y.namespace ns)) _ here in
      let same_type : x.kind ≡ y.kind = eqb-true _ _ (and_left (x.kind == kind) _ late) ∙ sym (eqb-true _ _ (and_left (y.kind == kind) _ of_type)) in
      let same_space : y.namespace ≡ ns = text_cmp_antisymmetric y.namespace ns (is_equal (text_cmp y.namespace ns) (and_right (y.kind == kind) _ of_type)) in
      let above : text_cmp x.namespace y.namespace ≡ Greater = ap (text_cmp x.namespace) same_space ∙ greater (text_cmp x.namespace ns) (and_right (x.kind == kind) _ late) in
      absurd (subst (λ o. T (is_lt o)) (sym less ∙ same_kind x y same_type ∙ ap (λ o. ordering_then o (text_cmp x.name y.name)) above) tt))

  both_halves : (s : Objects) → filter (λ (e : Entry). is_in_one kind ns name e.0 || is_in_later kind ns e.0) (fin.entries s) ≡ in_one kind ns name s ++ in_later kind ns s
  both_halves s = in_halves (λ (e f : Entry). key_cmp e.0 f.0 ≡ Less) (λ (e : Entry). is_in_one kind ns name e.0) (λ (e : Entry). is_in_later kind ns e.0)
      (λ e f. never_back e.0 f.0) (λ e. apart e.0) (fin.entries s) (entries_ascend (fin.entries s) (fin.entries_sorted s))

-- ---- where a page begins

from_prefix : (a : Bool) (n : List ℕ) → ((a && true) && true) ≡ (((a && is_eq (text_cmp n [])) && true) || (a && is_gt (text_cmp n [])))
from_prefix true [] = refl
from_prefix true (x ∷ n) = refl
from_prefix false n = refl

from_place : (a : Bool) (o p : Ordering) → ((a && true) && is_gt (ordering_then o p)) ≡ (((a && is_eq o) && is_gt p) || (a && is_gt o))
from_place true Less p = refl
from_place true Equal Less = refl
from_place true Equal Equal = refl
from_place true Equal Greater = refl
from_place true Greater p = refl
from_place false o p = refl

-- of all namespaces
pub begins_all : (kind : ℕ) (after : Option (List ℕ × List ℕ)) (s : Objects) (ns : List ℕ) (name : Option (List ℕ)) → begins None after ≡ Some (ns, name)
    → listed kind None after s ≡ in_one kind ns name s ++ in_later kind ns s
begins_all kind None s ns name e = subst (λ (b : List ℕ × Option (List ℕ)). listed kind None None s ≡ in_one kind b.0 b.1 s ++ in_later kind b.0 s) (ap (λ o. unwrap_or o (ns, name)) e)
    (filter_same _ _ (λ (e : Entry). from_prefix (e.0.kind == kind) e.0.namespace) (fin.entries s) ∙ both_halves kind [] None s)
begins_all kind (Some after) s ns name e = subst (λ (b : List ℕ × Option (List ℕ)). listed kind None (Some after) s ≡ in_one kind b.0 b.1 s ++ in_later kind b.0 s) (ap (λ o. unwrap_or o (ns, name)) e)
    (filter_same _ _ (λ (e : Entry). from_place (e.0.kind == kind) (text_cmp e.0.namespace after.0) (text_cmp e.0.name after.1)) (fin.entries s) ∙ both_halves kind after.0 (Some after.1) s)

-- of one
abbrev from_one : Option (List ℕ × Option (List ℕ)) → ℕ → Objects → List Entry
from_one None kind s = []
from_one (Some place) kind s = in_one kind place.0 place.1 s

no_entry : {X : Type 0} (xs : List X) → filter (λ x. false) xs ≡ []
no_entry [] = refl
no_entry (x ∷ xs) = no_entry xs

in_space : (ns : List ℕ) (after : List ℕ × List ℕ) (k : Key) (a : Bool) (o : Ordering) → text_cmp ns after.0 ≡ o → is_eq (text_cmp k.namespace ns) ≡ true
    → (a && is_gt (ordering_then (text_cmp k.namespace after.0) (text_cmp k.name after.1))) ≡ (a && is_gt (ordering_then o (text_cmp k.name after.1)))
in_space ns after k a o e same = ap (λ p. a && is_gt (ordering_then p (text_cmp k.name after.1))) (ap (λ n. text_cmp n after.0) (text_cmp_antisymmetric k.namespace ns (is_equal (text_cmp k.namespace ns) same)) ∙ e)

-- the test of the namespace decides, or the second test may be taken there
when_here : (a b : Bool) (c d : Bool) → (b ≡ true → (a && c) ≡ (a && d)) → ((a && b) && c) ≡ ((a && b) && d)
when_here true true c d f = f refl
when_here true false c d f = refl
when_here false b c d f = refl

listed_by : (kind : ℕ) (ns : List ℕ) (after : List ℕ × List ℕ) (s : Objects) (o : Ordering) → text_cmp ns after.0 ≡ o → listed kind (Some ns) (Some after) s ≡ from_one (begins_by o ns after.1) kind s
listed_by kind ns after s o e =
    filter_same (λ (f : Entry). is_within kind (Some ns) f.0 && is_past (Some after) f.0) (λ (f : Entry). is_within kind (Some ns) f.0 && is_gt (ordering_then o (text_cmp f.0.name after.1)))
    (λ (f : Entry). when_here (f.0.kind == kind) (is_eq (text_cmp f.0.namespace ns)) _ _ (in_space ns after f.0 (f.0.kind == kind) o e)) (fin.entries s)
    ∙ go o
  where
    never : (a : Bool) → (a && false) ≡ false
    never true = refl
    never false = refl

    go : (o : Ordering) → filter (λ (f : Entry). is_within kind (Some ns) f.0 && is_gt (ordering_then o (text_cmp f.0.name after.1))) (fin.entries s) ≡ from_one (begins_by o ns after.1) kind s
    go Less = filter_same _ _ (λ (f : Entry). never (is_within kind (Some ns) f.0)) (fin.entries s) ∙ no_entry (fin.entries s)
    go Equal = refl
    go Greater = refl

listed_one : (kind : ℕ) (ns : List ℕ) (after : Option (List ℕ × List ℕ)) (s : Objects) → listed kind (Some ns) after s ≡ from_one (begins (Some ns) after) kind s
listed_one kind ns None s = refl
listed_one kind ns (Some after) s = listed_by kind ns after s (text_cmp ns after.0) refl

pub begins_one : (kind : ℕ) (ns : List ℕ) (after : Option (List ℕ × List ℕ)) (s : Objects) (first : List ℕ) (name : Option (List ℕ)) → begins (Some ns) after ≡ Some (first, name)
    → listed kind (Some ns) after s ≡ in_one kind first name s
begins_one kind ns after s first name e = listed_one kind ns after s ∙ ap (λ b. from_one b kind s) e

never_none : (after : Option (List ℕ × List ℕ)) → is_some (begins None after) ≡ true
never_none None = refl
never_none (Some after) = refl

pub begins_none : (kind : ℕ) (ns : Option (List ℕ)) (after : Option (List ℕ × List ℕ)) (s : Objects) → begins ns after ≡ None → listed kind ns after s ≡ []
begins_none kind None after s e = absurd (subst (λ (o : Option (List ℕ × Option (List ℕ))). T (is_some o)) e (subst T (sym (never_none after)) tt))
begins_none kind (Some ns) after s e = listed_one kind ns after s ∙ ap (λ b. from_one b kind s) e

-- ---- the text after a namespace

pub from_next : (kind : ℕ) (ns : List ℕ) (s : Objects) → in_from kind (ns ++ 0 ∷ []) s ≡ in_later kind ns s
from_next kind ns s = filter_same _ _ (λ (e : Entry). ap (λ b. (e.0.kind == kind) && b) (next_text e.0.namespace ns)) (fin.entries s)

-- ---- whether a namespace is named

pub still_some : {X Y : Type 0} (f : X → Y) (o : Option X) → is_some (option_map f o) ≡ is_some o
still_some f None = refl
still_some f (Some x) = refl
