-- Postings, index by index.
use Rattle.std.proofs.Common.{◌≡◌, ◌≢◌, ℕ, zero, suc, ◌+◌, ◌<◌, ◌≤◌, Bool, true, false, ◌&&◌, ◌||◌, inl, inr, Option, Some, None, Bor, ap₂, add-one, List, [], ◌∷◌, ◌++◌, length, get_or, set, take, refl, sym, ap, ◌∙◌, arith}
use Rattle.std.specs.Prelude.{MatchOption, option_copied}
use Rattle.std.proofs.lemmas.Bool.Decides.{eqb_tells}
use Rattle.indexer.specs.declared.object.ObjectKey.{ObjectKey}
use Rattle.indexer.specs.declared.texts.Texts.{Texts}
use Rattle.indexer.specs.Objects.{is_among, texts_at, under_at}
use Rattle.indexer.specs.Texts.{bytes_in}
use Rattle.indexer.specs.Postings.{Postings, under, under_in}
use Rattle.indexer.proofs.Flags.{some_of}

pub under_at-is : (ps : List Postings) (i : ℕ) (d : Postings) (k : List ℕ) (q : ObjectKey) → i < length ps → under_at ps i k q ≡ under (get_or ps i d) k q
under_at-is [] i d k q lt = absurd (omega arith)
under_at-is (p ∷ ps) zero d k q lt = refl
under_at-is (p ∷ ps) (suc i) d k q lt = under_at-is ps i d k q (omega arith)

pub under_at-set_same : (ps : List Postings) (i : ℕ) (p : Postings) (k : List ℕ) (q : ObjectKey) → i < length ps → under_at (set ps i p) i k q ≡ under p k q
under_at-set_same [] i p k q lt = absurd (omega arith)
under_at-set_same (x ∷ ps) zero p k q lt = refl
under_at-set_same (x ∷ ps) (suc i) p k q lt = under_at-set_same ps i p k q (omega arith)

pub under_at-set_other : (ps : List Postings) (i j : ℕ) (p : Postings) (k : List ℕ) (q : ObjectKey) → j ≢ i → under_at (set ps i p) j k q ≡ under_at ps j k q
under_at-set_other [] i j p k q ne = refl
under_at-set_other (x ∷ ps) zero zero p k q ne = absurd (ne refl)
under_at-set_other (x ∷ ps) zero (suc j) p k q ne = refl
under_at-set_other (x ∷ ps) (suc i) zero p k q ne = refl
under_at-set_other (x ∷ ps) (suc i) (suc j) p k q ne = under_at-set_other ps i j p k q (λ e. ne (ap suc e))

pub under_at-push : (ps : List Postings) (p : Postings) (j : ℕ) (k : List ℕ) (q : ObjectKey) → under p k q ≡ false → under_at (ps ++ p ∷ []) j k q ≡ under_at ps j k q
under_at-push [] p zero k q h = h
under_at-push [] p (suc j) k q h = refl
under_at-push (x ∷ ps) p zero k q h = refl
under_at-push (x ∷ ps) p (suc j) k q h = under_at-push ps p j k q h

pub texts_at-some : (keys : List Texts) (i : ℕ) (v : Texts) → i < length keys → v ≡ get_or keys i v → bytes_in v ≡ texts_at keys i
texts_at-some [] i v lt is = absurd (omega arith)
texts_at-some (x ∷ keys) zero v lt is = ap bytes_in is
texts_at-some (x ∷ keys) (suc i) v lt is = texts_at-some keys i v (omega arith) is

pub texts_at-none : (keys : List Texts) (i : ℕ) → length keys ≤ i → [] ≡ texts_at keys i
texts_at-none [] i le = refl
texts_at-none (x ∷ keys) zero le = absurd (omega arith)
texts_at-none (x ∷ keys) (suc i) le = texts_at-none keys i (omega arith)

pub under_at-past : (ps : List Postings) (i : ℕ) (k : List ℕ) (q : ObjectKey) → length ps ≤ i → under_at ps i k q ≡ false
under_at-past [] i k q le = refl
under_at-past (p ∷ ps) zero k q le = absurd (omega arith)
under_at-past (p ∷ ps) (suc i) k q le = under_at-past ps i k q (omega arith)

-- ---- the keys of the first indexes

texts_at-take_same : (keys : List Texts) (i : ℕ) (v : Texts) → i < length keys → v ≡ get_or keys i v → bytes_in v ≡ texts_at (take (suc i) keys) i
texts_at-take_same [] i v lt is = absurd (omega arith)
texts_at-take_same (x ∷ keys) zero v lt is = ap bytes_in is
texts_at-take_same (x ∷ keys) (suc i) v lt is = texts_at-take_same keys i v (omega arith) is

texts_at-take_here : (keys : List Texts) (i : ℕ) → texts_at (take i keys) i ≡ []
texts_at-take_here [] zero = refl
texts_at-take_here [] (suc i) = refl
texts_at-take_here (x ∷ keys) zero = refl
texts_at-take_here (x ∷ keys) (suc i) = texts_at-take_here keys i

texts_at-take_other : (keys : List Texts) (i j : ℕ) → j ≢ i → texts_at (take i keys) j ≡ texts_at (take (suc i) keys) j
texts_at-take_other [] zero j ne = refl
texts_at-take_other [] (suc i) j ne = refl
texts_at-take_other (x ∷ keys) zero zero ne = absurd (ne refl)
texts_at-take_other (x ∷ []) zero (suc j) ne = refl
texts_at-take_other (x ∷ y ∷ keys) zero (suc j) ne = refl
texts_at-take_other (x ∷ keys) (suc i) zero ne = refl
texts_at-take_other (x ∷ keys) (suc i) (suc j) ne = texts_at-take_other keys i j (λ e. ne (ap suc e))

and_never : (a : Bool) → false ≡ (a && false)
and_never true = refl
and_never false = refl

and_itself : (a : Bool) → a ≡ (a && a)
and_itself true = refl
and_itself false = refl

-- a key by one of the first indexes is a key
pub among_first : (keys : List Texts) (i j : ℕ) (k : List ℕ) → is_among (texts_at (take i keys) j) k ≡ (is_among (texts_at keys j) k && is_among (texts_at (take i keys) j) k)
among_first [] zero j k = refl
among_first [] (suc i) j k = refl
among_first (x ∷ keys) zero j k = and_never (is_among (texts_at (x ∷ keys) j) k)
among_first (x ∷ keys) (suc i) zero k = and_itself (is_among (bytes_in x) k)
among_first (x ∷ keys) (suc i) (suc j) k = among_first keys i j k

-- ---- one index after another

-- n says which keys are to be added in each index
pub added_some : (old ps : List Postings) (i : ℕ) (keys : List Texts) (n : ℕ → List ℕ → Bool) (s : ObjectKey → Bool)
    → ((j : ℕ) (k : List ℕ) (q : ObjectKey) → under_at ps j k q ≡ (under_at old j k q || ((is_among (texts_at (take i keys) j) k && n j k) && s q)))
    → (j : ℕ) (k : List ℕ) (q : ObjectKey) → under_at ps j k q ≡ (under_at old j k q || (((is_among (texts_at keys j) k && n j k) && is_among (texts_at (take i keys) j) k) && s q))
added_some old ps i keys n s so j k q =
    so j k q ∙ ap (λ b. under_at old j k q || (b && s q)) (some_of (is_among (texts_at keys j) k) (is_among (texts_at (take i keys) j) k) (n j k) (among_first keys i j k))

module _ (old ps : List Postings) (i : ℕ) (before after : Postings) (keys : List Texts) (v : Texts) (n : ℕ → List ℕ → Bool) (s : ObjectKey → Bool) where
  abbrev pub AddedSo : Type 0
  AddedSo = (j : ℕ) (k : List ℕ) (q : ObjectKey) → under_at ps j k q ≡ (under_at old j k q || ((is_among (texts_at (take i keys) j) k && n j k) && s q))

  -- at index number i nothing was added yet
  not_yet : AddedSo → i < length ps → before ≡ get_or ps i before → (k : List ℕ) (q : ObjectKey) → under before k q ≡ under_at old i k q
  not_yet so lt is k q =
      ap (λ (p : Postings). under p k q) is ∙ sym (under_at-is ps i before k q lt) ∙ so i k q
      ∙ ap (λ (t : List (List ℕ)). under_at old i k q || ((is_among t k && n i k) && s q)) (texts_at-take_here keys i) ∙ none (under_at old i k q)
    where
      none : (b : Bool) → (b || false) ≡ b
      none true = refl
      none false = refl

  pub added : AddedSo → i < length ps → before ≡ get_or ps i before → i < length keys → v ≡ get_or keys i v
      → ((k : List ℕ) (q : ObjectKey) → under after k q ≡ (under before k q || ((is_among (bytes_in v) k && n i k) && s q)))
      → (j : ℕ) (k : List ℕ) (q : ObjectKey) → under_at (set ps i after) j k q ≡ (under_at old j k q || ((is_among (texts_at (take (i + 1) keys) j) k && n j k) && s q))
  added so lt is within v-is adds j k q =
      rw add-one (elim (eqb_tells j i) [
        | inl e ↦ rw e.1 (under_at-set_same ps i after k q lt ∙ adds k q ∙ ap₂ (λ b (t : List (List ℕ)). b || ((is_among t k && n i k) && s q)) (not_yet so lt is k q) (texts_at-take_same keys i v within v-is))
        | inr e ↦ under_at-set_other ps i j after k q e.1 ∙ so j k q ∙ ap (λ (t : List (List ℕ)). under_at old j k q || ((is_among t k && n j k) && s q)) (texts_at-take_other keys i j e.1)
      ])

  pub failed : AddedSo → i < length ps → before ≡ get_or ps i before → i < length keys → v ≡ get_or keys i v
      → ((k : List ℕ) (q : ObjectKey) → (part : Bool) × (under after k q ≡ (under before k q || (((is_among (bytes_in v) k && n i k) && part) && s q))))
      → (j : ℕ) (k : List ℕ) (q : ObjectKey) → (part : Bool) × (under_at (set ps i after) j k q ≡ (under_at old j k q || (((is_among (texts_at keys j) k && n j k) && part) && s q)))
  failed so lt is within v-is adds j k q =
      elim (eqb_tells j i) [
        | inl e ↦ (
          (adds k q).0,
          rw e.1 (under_at-set_same ps i after k q lt ∙ (adds k q).1 ∙ ap₂ (λ b (t : List (List ℕ)). b || (((is_among t k && n i k) && (adds k q).0) && s q)) (not_yet so lt is k q) (texts_at-some keys i v within v-is)),
        )
        | inr e ↦ (is_among (texts_at (take i keys) j) k, under_at-set_other ps i j after k q e.1 ∙ added_some old ps i keys n s so j k q)
      ]

-- what `get` finds of the postings
pub under_got : (ps : List Postings) (i : ℕ) (r : Option (Bor Postings)) (k : List ℕ) (q : ObjectKey) → MatchOption r (length ps ≤ i) (λ x. (i < length ps) × ((d : Postings) → x.now ≡ get_or ps i d))
    → under_in (option_copied r) k q ≡ under_at ps i k q
under_got ps i None k q h = sym (under_at-past ps i k q h)
under_got ps i (Some x) k q h = ap (λ (p : Postings). under p k q) (h.1 x.now) ∙ sym (under_at-is ps i x.now k q h.0)
