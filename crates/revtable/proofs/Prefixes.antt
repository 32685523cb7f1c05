-- The first changes, merged of the first that left an object and the first deletions.
use Rattle.std.proofs.Common.{◌≡◌, ℕ, zero, suc, ◌<◌, ◌≤◌, Bool, true, false, cond, List, [], ◌∷◌, ◌++◌, map, take, length, refl, sym, ap, ap₂, subst, ◌∙◌, Option, Some, None, arith, is_some, IsPermutation, IsSorted}
use Rattle.std.proofs.Common.{add-one}
use Rattle.std.proofs.Common.{le-leb, min, ◌-◌, pos, get_or, slice_get}
use Rattle.std.specs.Prelude.{is_none, nat_le}
use Rattle.std.specs.Ordering.{nat_cmp}
use Rattle.std.specs.List.{AllByRecursion}
use Rattle.std.specs.List.Sorted.{IsSortedByKey}
use Rattle.std.proofs.lemmas.List.{map-append}
use Rattle.std.proofs.lemmas.List.Sorted.{IsPermutation-refl, IsPermutation-sym, IsPermutation-trans, IsPermutation-cons, IsPermutation-middle, IsPermutation-map}
use Rattle.sqlite.specs.Tree.{IsAscending}
use Rattle.sqlite.specs.Order.{Row, column}
use Rattle.sqlite.specs.declared.types.Value.TheVariants.{Int}
use Rattle.sqlite_keyed.proofs.ListLemmas.{map_back, all-filter, all-slice_get}
use Rattle.sqlite_keyed.proofs.SortLemmas.{sorted_unique}
use Rattle.history.specs.History.{Change, IsRising, up_to}
use Rattle.history.specs.Kept.{with_body}
use Rattle.history.specs.Page.{changes_within, picked}
use Rattle.history.proofs.Revisions.{all_within, up_to-all}
use Rattle.history.specs.declared.change.Change.{Change as TheChange}
use Rattle.revtable.specs.Asked.{deletions}
use Rattle.revtable.specs.Decoded.{change_shown}
use Rattle.history.specs.Read.{change_of}
use Rattle.revtable.specs.Rows.{body_in, body_value, number_in, shown}
use Rattle.revtable.specs.Spans.{by_revision}
use Rattle.revtable.proofs.Made.{take-map}
use Rattle.revtable.proofs.Merged.{by_revision_total, rising_up}
use Rattle.revtable.proofs.Numbers.{span_part, span_parts}

-- ---- the changes of which so many left an object and so many are deletions

abbrev first_of : ℕ → Change → (ℕ → List Change) → List Change
first_of zero c rest = rest zero
first_of (suc n) c rest = c ∷ rest n

abbrev some_of : ℕ → ℕ → List Change → List Change
some_of a b [] = []
some_of a b (c ∷ cs) = cond (is_some c.body) (first_of a c (λ n. some_of n b cs)) (first_of b c (λ n. some_of a n cs))

some_are : (a b : ℕ) (cs : List Change) → IsPermutation (take a (with_body cs) ++ take b (deletions cs)) (some_of a b cs)
some_are zero zero [] = IsPermutation-refl []
some_are zero (suc b) [] = IsPermutation-refl []
some_are (suc a) zero [] = IsPermutation-refl []
some_are (suc a) (suc b) [] = IsPermutation-refl []
some_are a b (c ∷ cs) = go a b c.body (λ n m. some_are n m cs)
  where
    go : (a b : ℕ) (o : Option (List ℕ)) → ((n m : ℕ) → IsPermutation (take n (with_body cs) ++ take m (deletions cs)) (some_of n m cs))
        → IsPermutation (take a (cond (is_some o) (c ∷ with_body cs) (with_body cs)) ++ take b (cond (is_none o) (c ∷ deletions cs) (deletions cs))) (cond (is_some o) (first_of a c (λ n. some_of n b cs)) (first_of b c (λ n. some_of a n cs)))
    go zero b (Some t) more = more zero b
    go (suc a) b (Some t) more = IsPermutation-cons c _ _ (more a b)
    go a zero None more = more a zero
    go a (suc b) None more = IsPermutation-trans _ _ _ (IsPermutation-middle (take a (with_body cs)) c (take b (deletions cs))) (IsPermutation-cons c _ _ (more a b))

all_some : (P : Change → Type 0) (a b : ℕ) (cs : List Change) → AllByRecursion P cs → AllByRecursion P (some_of a b cs)
all_some P a b [] all = tt
all_some P a b (c ∷ cs) all = go a b (is_some c.body) (λ n m. all_some P n m cs all.1)
  where
    go : (a b : ℕ) (t : Bool) → ((n m : ℕ) → AllByRecursion P (some_of n m cs)) → AllByRecursion P (cond t (first_of a c (λ n. some_of n b cs)) (first_of b c (λ n. some_of a n cs)))
    go zero b true more = more zero b
    go (suc a) b true more = (all.0, more a b)
    go a zero false more = more a zero
    go a (suc b) false more = (all.0, more a b)

up_some : (R : Change → Change → Type 0) (a b : ℕ) (cs : List Change) → IsAscending R cs → IsAscending R (some_of a b cs)
up_some R a b [] up = tt
up_some R a b (c ∷ cs) up = go a b (is_some c.body) (λ n m. up_some R n m cs up.1)
  where
    go : (a b : ℕ) (t : Bool) → ((n m : ℕ) → IsAscending R (some_of n m cs)) → IsAscending R (cond t (first_of a c (λ n. some_of n b cs)) (first_of b c (λ n. some_of a n cs)))
    go zero b true more = more zero b
    go (suc a) b true more = (all_some (R c) a b cs up.0, more a b)
    go a zero false more = more a zero
    go a (suc b) false more = (all_some (R c) a b cs up.0, more a b)

first_some : (m a b : ℕ) (cs : List Change) → m ≤ a → m ≤ b → take m (some_of a b cs) ≡ take m cs
first_some zero a b cs p q = refl
first_some (suc m) a b [] p q = refl
first_some (suc m) a b (c ∷ cs) p q = go a b (is_some c.body) p q (λ n o p q. first_some m n o cs p q)
  where
    go : (a b : ℕ) (t : Bool) → suc m ≤ a → suc m ≤ b → ((n o : ℕ) → m ≤ n → m ≤ o → take m (some_of n o cs) ≡ take m cs)
        → take (suc m) (cond t (first_of a c (λ n. some_of n b cs)) (first_of b c (λ n. some_of a n cs))) ≡ c ∷ take m cs
    go zero b true p q more = absurd (omega arith)
    go (suc a) b true p q more = ap (λ l. c ∷ l) (more a b (omega arith) (omega arith))
    go a zero false p q more = absurd (omega arith)
    go a (suc b) false p q more = ap (λ l. c ∷ l) (more a b (omega arith) (omega arith))

-- ---- where the objects' part ends

take_fewer : (m : ℕ) (xs ys : List Change) → take (suc m) xs ≡ take (suc m) ys → take m xs ≡ take m ys
take_fewer m xs ys e = again m xs ∙ ap (take m) e ∙ sym (again m ys)
  where
    again : (m : ℕ) (xs : List Change) → take m xs ≡ take m (take (suc m) xs)
    again zero xs = refl
    again (suc m) [] = refl
    again (suc m) (x ∷ xs) = ap (λ l. x ∷ l) (again m xs)

cut_at : (m lo top : ℕ) (cs : List Change) (f : Change) → IsRising lo cs top → slice_get (with_body cs) m ≡ Some f
    → (lo < f.revision) × (take (suc m) (up_to f.revision cs) ≡ take (suc m) cs) × (take (suc m) (with_body (up_to f.revision cs)) ≡ take (suc m) (with_body cs))
cut_at m lo top [] f rise e = absurd cc
cut_at m lo top (c ∷ cs) f rise e = go c.body refl m e (λ n. cut_at n c.revision top cs f rise.1)
  where
    same_change : ◌≡◌ {A = Option Change} (Some c) (Some f) → c ≡ f
    same_change e = cc

    go : (o : Option (List ℕ)) → c.body ≡ o → (m : ℕ) → slice_get (cond (is_some o) (c ∷ with_body cs) (with_body cs)) m ≡ Some f
        → ((n : ℕ) → slice_get (with_body cs) n ≡ Some f → (c.revision < f.revision) × (take (suc n) (up_to f.revision cs) ≡ take (suc n) cs) × (take (suc n) (with_body (up_to f.revision cs)) ≡ take (suc n) (with_body cs)))
        → (lo < f.revision) × (take (suc m) (up_to f.revision (c ∷ cs)) ≡ c ∷ take m cs) × (take (suc m) (with_body (up_to f.revision (c ∷ cs))) ≡ take (suc m) (cond (is_some o) (c ∷ with_body cs) (with_body cs)))
    go None is m e more =
        let rest = more m e in
        let above : c.revision < f.revision = rest.0 in
        let low : lo < c.revision = rise.0 in
        let le : nat_le c.revision f.revision ≡ true = le-leb c.revision f.revision (omega arith) in (
          omega arith,
          ap (λ b. take (suc m) (cond b (c ∷ up_to f.revision cs) (up_to f.revision cs))) le ∙ ap (λ l. c ∷ l) (take_fewer m (up_to f.revision cs) cs rest.1),
          ap (λ b. take (suc m) (with_body (cond b (c ∷ up_to f.revision cs) (up_to f.revision cs)))) le ∙ ap (λ o. take (suc m) (cond (is_some o) (c ∷ with_body (up_to f.revision cs)) (with_body (up_to f.revision cs)))) is ∙ rest.2,
        )
    go (Some b) is zero e more =
        let same : c.revision ≡ f.revision = ap (λ (x : Change). x.revision) (same_change e) in
        let low : lo < c.revision = rise.0 in
        let le : nat_le c.revision f.revision ≡ true = le-leb c.revision f.revision (omega arith) in (
          omega arith,
          ap (λ b. take 1 (cond b (c ∷ up_to f.revision cs) (up_to f.revision cs))) le,
          ap (λ b. take 1 (with_body (cond b (c ∷ up_to f.revision cs) (up_to f.revision cs)))) le ∙ ap (λ o. take 1 (cond (is_some o) (c ∷ with_body (up_to f.revision cs)) (with_body (up_to f.revision cs)))) is,
        )
    go (Some b) is (suc n) e more =
        let rest = more n e in
        let above : c.revision < f.revision = rest.0 in
        let low : lo < c.revision = rise.0 in
        let le : nat_le c.revision f.revision ≡ true = le-leb c.revision f.revision (omega arith) in (
          omega arith,
          ap (λ b. take (suc (suc n)) (cond b (c ∷ up_to f.revision cs) (up_to f.revision cs))) le ∙ ap (λ l. c ∷ l) rest.1,
          ap (λ b. take (suc (suc n)) (with_body (cond b (c ∷ up_to f.revision cs) (up_to f.revision cs)))) le
              ∙ ap (λ o. take (suc (suc n)) (cond (is_some o) (c ∷ with_body (up_to f.revision cs)) (with_body (up_to f.revision cs)))) is ∙ ap (λ l. c ∷ l) rest.2,
        )

-- the row at the end of the part, and its revision
shown_at : (m n : ℕ) (cs : List Change) (row : Row) → Some row ≡ slice_get (map shown (take m cs)) n → (f : Change) × (slice_get cs n ≡ Some f) × (row ≡ shown f) × (n < m)
shown_at zero n cs row e = absurd cc
shown_at (suc m) n [] row e = absurd cc
shown_at (suc m) zero (c ∷ cs) row e = (c, refl, cc, omega arith)
shown_at (suc m) (suc n) (c ∷ cs) row e = let more = shown_at m n cs row e in (more.0, more.1, more.2, let a : n < m = more.3 in omega arith)

pub got_at : {X : Type 0} (xs : List X) (n : ℕ) (x : X) → n < length xs → x ≡ get_or xs n x → Some x ≡ slice_get xs n
got_at [] n x lt e = absurd (omega arith)
got_at (y ∷ ys) zero x lt e = ap Some e
got_at (y ∷ ys) (suc n) x lt e = got_at ys n x (omega arith) e

abbrev pub IsCut : ℕ → ℕ → List Change → Type 0
IsCut max t cs = (take max (up_to t cs) ≡ take max cs) × (take max (with_body (up_to t cs)) ≡ take max (with_body cs))

pub cut_all : (max to : ℕ) (cs : List Change) → IsRising 0 cs to → IsCut max to cs
cut_all max to cs rise = let all = up_to-all 0 to to cs (omega arith) rise in (ap (take max) all, ap (λ l. take max (with_body l)) all)

pub cut_is : (max at to t last : ℕ) (cs : List Change) (rows : List Row) (row : Row) → IsRising 0 cs to → rows ≡ map shown (take max (with_body cs)) → at ≡ max - 1 → Some row ≡ slice_get rows at → column row 0 ≡ Int (pos last)
    → t ≡ min last to → IsCut max t cs
cut_is max at to t last cs rows row rise found at_is first read t_is =
    let it = shown_at max at (with_body cs) row (first ∙ ap (λ l. slice_get l at) found) in
    let f = it.0 in
    let inside : at < max = it.3 in
    let next : suc at ≡ max = omega arith in
    let number : last ≡ f.revision = ap number_in (sym read ∙ ap (λ r. column r 0) it.2) in
    let cut = cut_at at 0 to cs f rise it.1 in
    let top : f.revision ≤ to = all_at at (with_body cs) f (all-filter (λ c. c.revision ≤ to) (λ c. is_some c.body) cs (all_within 0 to cs rise)) it.1 in
    let same : t ≡ f.revision = omega arith in
    subst (λ n. IsCut n t cs) next (subst (λ n. IsCut (suc at) n cs) (sym same) (cut.1, cut.2))
  where
    all_at : (n : ℕ) (xs : List Change) (f : Change) → AllByRecursion (λ c. c.revision ≤ to) xs → slice_get xs n ≡ Some f → f.revision ≤ to
    all_at n xs f all e = all-slice_get (λ (c : Change). c.revision ≤ to) xs n f e all

-- ---- what the rows are read as

body_back : (b : Option (List ℕ)) → body_in (body_value b) ≡ b
body_back None = refl
body_back (Some t) = refl

pub shown_back : (c : Change) → change_shown (shown c) ≡ c
shown_back c = rw (body_back c.body) refl

sorted_read : (xs : List TheChange) → IsSortedByKey (λ (c : TheChange). c.revision) nat_cmp xs → IsSorted by_revision (map change_of xs)
sorted_read [] h k d low high = absurd (omega arith)
sorted_read (x ∷ []) h k d low high = absurd (omega arith)
sorted_read (x ∷ y ∷ ys) h zero d low high = h zero x (omega arith) (omega arith)
sorted_read (x ∷ y ∷ ys) h (suc k) d low high =
    rw add-one (rw add-one at (sorted_read (y ∷ ys) (λ j e p q. rw add-one (rw add-one at (h (suc j) e (omega arith) (omega arith)))) k d (omega arith) (omega arith)))

pub merged_is : (cs : List Change) (top max : ℕ) (made deleted olds news : List TheChange) → IsRising 0 cs top → map change_of made ≡ take max (with_body cs) → map change_of deleted ≡ take max (deletions cs)
    → olds ≡ made ++ deleted → IsPermutation olds news → IsSortedByKey (λ (c : TheChange). c.revision) nat_cmp news → map change_of (take max news) ≡ take max cs
merged_is cs top max made deleted olds news rise is_made is_deleted is_olds same sorted =
    let all : map change_of olds ≡ take max (with_body cs) ++ take max (deletions cs) = ap (map change_of) is_olds ∙ map-append change_of made deleted ∙ ap₂ (λ a b. a ++ b) is_made is_deleted in
    let perm : IsPermutation (some_of max max cs) (map change_of news) =
    IsPermutation-trans _ _ _ (IsPermutation-sym _ _ (some_are max max cs)) (subst (λ l. IsPermutation l (map change_of news)) all (IsPermutation-map change_of _ _ same)) in
    let these : map change_of news ≡ some_of max max cs =
    sorted_unique by_revision by_revision_total (some_of max max cs) (map change_of news) (up_some _ max max cs (rising_up 0 top cs rise)) perm (sorted_read news sorted) in
    sym (take-map change_of max news) ∙ ap (take max) these ∙ first_some max max max cs (omega arith) (omega arith)

pub read_back : (n : ℕ) (cs : List Change) (rows : List Row) (xs : List TheChange) → map change_of xs ≡ map change_shown rows → rows ≡ map shown (take n cs) → map change_of xs ≡ take n cs
read_back n cs rows xs read is = read ∙ ap (map change_shown) is ∙ map_back shown change_shown shown_back (take n cs)

-- ---- the parts of a span

-- the part that left an object
pub part_made : (kind : ℕ) (ns : Option (List ℕ)) (max to : ℕ) (cs : List Change) → changes_within kind ns max (with_body (up_to to cs)) ≡ take max (with_body (picked kind ns (up_to to cs)))
part_made kind ns max to cs = ap (take max) (span_part (λ c. is_some c.body) kind ns to cs)

-- the deletions up to where that part is whole
pub part_deleted : (kind : ℕ) (ns : Option (List ℕ)) (max t to : ℕ) (cs : List Change) → t ≤ to → changes_within kind ns max (deletions (up_to t cs)) ≡ take max (deletions (up_to t (picked kind ns (up_to to cs))))
part_deleted kind ns max t to cs le = ap (take max) (span_parts (λ c. is_none c.body) kind ns t to cs le)
