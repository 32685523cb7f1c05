-- What is seen between two revisions, from one seen change to the next.
use Rattle.std.proofs.Common.{◌≡◌, ℕ, zero, suc, ◌<◌, ◌≤◌, take, drop, List, [], ◌∷◌, ◌++◌, refl, sym, ap, ◌∙◌, Option, Some, None, arith, zero-le, ◌⊎◌, inl, inr}
use Rattle.std.specs.Prelude.{nat_le, nat_lt, option_map}
use Rattle.std.specs.FinMap as fin
use Rattle.history.specs.History.{Objects, Key, Change, left_by, put_or_remove, changed, up_to, later, state_at, IsRising, History, IsHistory}
use Rattle.history.specs.Kept.{kept}
use Rattle.history.specs.Seen.{Selection, SeenChange, if_wanted, seen_by, seen_of, seen_among, seen_changes, seen_at, selected, put_all_seen, reached, seen_in, IsNextSeen}
use Rattle.history.specs.View.{view}
use Rattle.history.proofs.Revisions.{rising_ends, rising-later, up_to-below, later-below, up_to-all, up_to-keeps, later-drops, later-later, state_at-push, up_to-push}
use Rattle.history.proofs.Selecting.{changes_apply}
use Rattle.history.proofs.Lists.{filter_turned}
use Rattle.history.proofs.Views.{kept_states, kept_later, state_in_is, view_states}

pub between : (wanted : Selection) (cs : List Change) (top r q : ℕ) → IsRising 0 cs top → r ≤ q
    → put_all_seen (seen_at wanted cs r) (seen_changes wanted cs r q) ≡ seen_at wanted cs q
between wanted cs top r q rise h = changes_apply wanted (state_at cs r) (up_to q (later r cs)) ∙ ap (selected wanted) (state_in_is r q top cs rise h)

-- a change is seen once or not at all, at its revision
once : (r : ℕ) (k : Key) (before after : Option (List ℕ)) → (seen_by r k before after ≡ []) ⊎ ((x : SeenChange) × (seen_by r k before after ≡ x ∷ []) × (x.object.revision ≡ r))
once r k None None = inl refl
once r k None (Some b) = inr (_, refl, refl)
once r k (Some a) (Some b) = inr (_, refl, refl)
once r k (Some a) None = inr (_, refl, refl)

-- x is the first seen of these changes: alone up to its revision, and the others come after it
record IsFirst (wanted : Selection) (lo top : ℕ) (s : Objects) (cs : List Change) (x : SeenChange) (xs : List SeenChange) : Type 0 where
  above : lo < x.object.revision
  within : x.object.revision ≤ top
  alone : seen_among wanted s (up_to x.object.revision cs) ≡ x ∷ []
  others : seen_among wanted (changed s (up_to x.object.revision cs)) (later x.object.revision cs) ≡ xs

first_unseen : (wanted : Selection) (lo top : ℕ) (s : Objects) (c : Change) (cs : List Change) (x : SeenChange) (xs : List SeenChange) → lo < c.revision → seen_of wanted s c ≡ []
    → IsFirst wanted c.revision top (put_or_remove s c.key (left_by c)) cs x xs → IsFirst wanted lo top s (c ∷ cs) x xs
first_unseen wanted lo top s c cs x xs low none is =
    let a : c.revision < x.object.revision = is.above in
    let b : c.revision ≤ x.object.revision = omega arith in
    record {
      above = omega arith;
      within = is.within;
      alone = ap (seen_among wanted s) (up_to-keeps x.object.revision c cs b) ∙ ap (λ ys. ys ++ seen_among wanted (put_or_remove s c.key (left_by c)) (up_to x.object.revision cs)) none ∙ is.alone;
      others = ap (λ ds. seen_among wanted (changed s ds) (later x.object.revision (c ∷ cs))) (up_to-keeps x.object.revision c cs b)
          ∙ ap (seen_among wanted (changed (put_or_remove s c.key (left_by c)) (up_to x.object.revision cs))) (later-drops x.object.revision c cs b) ∙ is.others;
    }

first_seen : (wanted : Selection) (lo top : ℕ) (s : Objects) (c : Change) (cs : List Change) (x : SeenChange) (xs : List SeenChange) → lo < c.revision → IsRising c.revision cs top
    → seen_of wanted s c ≡ x ∷ [] → x.object.revision ≡ c.revision → seen_among wanted (put_or_remove s c.key (left_by c)) cs ≡ xs → IsFirst wanted lo top s (c ∷ cs) x xs
first_seen wanted lo top s c cs x xs low rise one same others =
    let b : c.revision ≤ x.object.revision = omega arith in
    let e : x.object.revision ≤ c.revision = omega arith in
    let top_is : c.revision ≤ top = rising_ends c.revision top cs rise in
    let cut : up_to x.object.revision (c ∷ cs) ≡ c ∷ [] = up_to-keeps x.object.revision c cs b ∙ ap (λ ds. c ∷ ds) (up_to-below c.revision x.object.revision top cs e rise) in
    record {
      above = omega arith;
      within = omega arith;
      alone = ap (seen_among wanted s) cut ∙ ap (λ ys. ys ++ []) one;
      others = ap (λ ds. seen_among wanted (changed s ds) (later x.object.revision (c ∷ cs))) cut
          ∙ ap (seen_among wanted (put_or_remove s c.key (left_by c))) (later-drops x.object.revision c cs b ∙ later-below c.revision x.object.revision top cs e rise) ∙ others;
    }

heads : {A : Type 0} (x y : A) (xs ys : List A) → x ∷ xs ≡ y ∷ ys → (x ≡ y) × (xs ≡ ys)
heads x y xs ys is = (cc, cc)

first_of : (wanted : Selection) (lo top : ℕ) (s : Objects) (cs : List Change) (x : SeenChange) (xs : List SeenChange) → IsRising lo cs top → seen_among wanted s cs ≡ x ∷ xs
    → IsFirst wanted lo top s cs x xs
first_of wanted lo top s [] x xs rise is = absurd cc
first_of wanted lo top s (c ∷ cs) x xs rise is =
    go (once c.revision c.key (if_wanted wanted c.key (option_map (λ o. o.body) (fin.get s c.key))) (if_wanted wanted c.key c.body)) (first_of wanted c.revision top (put_or_remove s c.key (left_by c)) cs x xs rise.1)
  where
    go : (seen_of wanted s c ≡ []) ⊎ ((y : SeenChange) × (seen_of wanted s c ≡ y ∷ []) × (y.object.revision ≡ c.revision))
        → (seen_among wanted (put_or_remove s c.key (left_by c)) cs ≡ x ∷ xs → IsFirst wanted c.revision top (put_or_remove s c.key (left_by c)) cs x xs) → IsFirst wanted lo top s (c ∷ cs) x xs
    go (inl none) below = first_unseen wanted lo top s c cs x xs rise.0 none (below (sym (ap (λ ys. ys ++ seen_among wanted (put_or_remove s c.key (left_by c)) cs) none) ∙ is))
    go (inr one) below =
        let parts : (one.0 ≡ x) × (seen_among wanted (put_or_remove s c.key (left_by c)) cs ≡ xs) = heads _ _ _ _ (sym (ap (λ ys. ys ++ seen_among wanted (put_or_remove s c.key (left_by c)) cs) one.1) ∙ is) in
        first_seen wanted lo top s c cs x xs rise.0 rise.1 (one.1 ∙ ap (λ y. y ∷ []) parts.0) (ap (λ y. y.object.revision) (sym parts.0) ∙ one.2) parts.1

pub next_seen : (wanted : Selection) (cs : List Change) (top p : ℕ) (x : SeenChange) (xs : List SeenChange) → IsRising 0 cs top → p ≤ top → seen_changes wanted cs p top ≡ x ∷ xs
    → IsNextSeen wanted cs top p x xs
next_seen wanted cs top p x xs rise h is =
    let rise_p : IsRising p (later p cs) top = rising-later 0 p top cs zero-le h rise in
    let all : up_to top (later p cs) ≡ later p cs = up_to-all p top top (later p cs) (omega arith) rise_p in
    let first : IsFirst wanted p top (state_at cs p) (later p cs) x xs = first_of wanted p top (state_at cs p) (later p cs) x xs rise_p (sym (ap (seen_among wanted (state_at cs p)) all) ∙ is) in
    let a : p < x.object.revision = first.above in
    let b : p ≤ x.object.revision = omega arith in
    let state : changed (state_at cs p) (up_to x.object.revision (later p cs)) ≡ state_at cs x.object.revision = state_in_is p x.object.revision top cs rise b in
    let rise_x : IsRising x.object.revision (later x.object.revision cs) top = rising-later 0 x.object.revision top cs zero-le first.within rise in
    record {
      above = first.above;
      within = first.within;
      applies = sym (ap (put_all_seen (seen_at wanted cs p)) first.alone) ∙ between wanted cs top p x.object.revision rise b;
      rest = ap (seen_among wanted (state_at cs x.object.revision)) (up_to-all x.object.revision top top (later x.object.revision cs) (omega arith) rise_x ∙ sym (later-later p x.object.revision cs b))
          ∙ ap (λ s. seen_among wanted s (later x.object.revision (later p cs))) (sym state) ∙ first.others;
    }

-- a prefix of what is seen after p leads to where a watch then stands, and the others are what is seen after that
pub record IsPrefixSeen (wanted : Selection) (cs : List Change) (top p n : ℕ) (xs : List SeenChange) : Type 0 where
  pub reaches : put_all_seen (seen_at wanted cs p) (take n xs) ≡ seen_at wanted cs (reached p (take n xs))
  pub left : seen_changes wanted cs (reached p (take n xs)) top ≡ drop n xs
  pub low : p ≤ reached p (take n xs)
  pub high : reached p (take n xs) ≤ top

pub prefix_seen : (wanted : Selection) (cs : List Change) (top n p : ℕ) (xs : List SeenChange) → IsRising 0 cs top → p ≤ top → seen_changes wanted cs p top ≡ xs → IsPrefixSeen wanted cs top p n xs
prefix_seen wanted cs top zero p xs rise h is = record { reaches = refl; left = is; low = omega arith; high = h }
prefix_seen wanted cs top (suc n) p [] rise h is = record { reaches = refl; left = is; low = omega arith; high = h }
prefix_seen wanted cs top (suc n) p (x ∷ xs) rise h is =
    let next : IsNextSeen wanted cs top p x xs = next_seen wanted cs top p x xs rise h is in
    let others : IsPrefixSeen wanted cs top x.object.revision n xs = prefix_seen wanted cs top n x.object.revision xs rise next.within next.rest in
    let a : p < x.object.revision = next.above in
    let b : x.object.revision ≤ reached x.object.revision (take n xs) = others.low in
    record { reaches = ap (λ s. put_all_seen s (take n xs)) next.applies ∙ others.reaches; left = others.left; low = omega arith; high = others.high }

pub none_seen : (wanted : Selection) (cs : List Change) (top r q : ℕ) → IsRising 0 cs top → r ≤ q → seen_changes wanted cs r q ≡ [] → seen_at wanted cs q ≡ seen_at wanted cs r
none_seen wanted cs top r q rise h none = sym (between wanted cs top r q rise h) ∙ ap (put_all_seen (seen_at wanted cs r)) none

-- ---- a later change, and what a compaction keeps

pub seen_at-push : (wanted : Selection) (cs : List Change) (c : Change) (r : ℕ) → r < c.revision → seen_at wanted (cs ++ c ∷ []) r ≡ seen_at wanted cs r
seen_at-push wanted cs c r h = ap (selected wanted) (state_at-push cs r c h)

pub seen_at-kept : (wanted : Selection) (cs : List Change) (c r top : ℕ) → IsRising 0 cs top → c ≤ r → seen_at wanted (kept c cs) r ≡ seen_at wanted cs r
seen_at-kept wanted cs c r top rise h = ap (selected wanted) (kept_states c r top cs rise h)

pub seen_changes-kept : (wanted : Selection) (cs : List Change) (c r q top : ℕ) → IsRising 0 cs top → c ≤ r → seen_changes wanted (kept c cs) r q ≡ seen_changes wanted cs r q
seen_changes-kept wanted cs c r q top rise h =
    ap (λ s. seen_among wanted s (up_to q (later r (kept c cs)))) (kept_states c r top cs rise h) ∙ ap (λ ds. seen_among wanted (state_at cs r) (up_to q ds)) (kept_later c r top cs rise h)

pub seen_changes-push : (wanted : Selection) (cs : List Change) (c : Change) (r q : ℕ) → r < c.revision → q < c.revision → seen_changes wanted (cs ++ c ∷ []) r q ≡ seen_changes wanted cs r q
seen_changes-push wanted cs c r q low high =
    ap (λ s. seen_among wanted s (up_to q (later r (cs ++ c ∷ [])))) (state_at-push cs r c low)
    ∙ ap (seen_among wanted (state_at cs r)) (filter_turned (λ d. nat_le d.revision q) (λ d. nat_lt r d.revision) (cs ++ c ∷ [])
    ∙ ap (later r) (up_to-push q cs c high) ∙ filter_turned (λ d. nat_lt r d.revision) (λ d. nat_le d.revision q) cs)

-- ---- a view

pub seen_in_view : (wanted : Selection) (h : History) (r q : ℕ) → IsHistory h → h.compacted ≤ r → seen_in wanted (view h) r q ≡ seen_changes wanted h.changes r q
seen_in_view wanted h r q is above =
    ap (λ s. seen_among wanted s (up_to q (later r (later h.compacted h.changes)))) (view_states h r is above)
    ∙ ap (λ ds. seen_among wanted (state_at h.changes r) (up_to q ds)) (later-later h.compacted r h.changes above)
