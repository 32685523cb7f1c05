-- What is seen, change by change: each by what stood just before its revision.
use Rattle.std.proofs.Common.{◌≡◌, ℕ, ◌-◌, ◌<◌, ◌≤◌, Bool, true, false, cond, List, [], ◌∷◌, ◌++◌, refl, sym, ap, ap₂, ◌∙◌, Option, Some, None, arith, append_assoc, filter, subst, true≢false}
use Rattle.std.proofs.Common.{leb-true, leb-false, lt-ltb}
use Rattle.std.proofs.lemmas.Bool.{lt-leb}
use Rattle.std.specs.Prelude.{nat_le}
use Rattle.std.specs.List.{flat_map}
use Rattle.std.specs.FinMap as fin
use Rattle.history.specs.History.{Key, Objects, Change, changed, up_to, later, state_at, IsRising}
use Rattle.history.specs.Seen.{Selection, if_wanted, seen_by, seen_of, seen_among, seen_changes, seen_in}
use Rattle.history.specs.View.{IsView, View, state_in}
use Rattle.history.proofs.Lists.{flat_map-filter}
use Rattle.history.proofs.Revisions.{rising-filter, up_to-below, later-below, up_to-keeps, later-drops, changed-append}

-- changes that rise are those up to a revision and then those after it
pub cut_at : (lo r top : ℕ) (cs : List Change) → IsRising lo cs top → cs ≡ up_to r cs ++ later r cs
cut_at lo r top [] rise = refl
cut_at lo r top (c ∷ cs) rise = go (nat_le c.revision r) refl (cut_at c.revision r top cs rise.1)
  where
    go : (b : Bool) → nat_le c.revision r ≡ b → cs ≡ up_to r cs ++ later r cs → c ∷ cs ≡ up_to r (c ∷ cs) ++ later r (c ∷ cs)
    go true is below =
        let a : c.revision ≤ r = leb-true _ _ is in
        ap (λ ds. c ∷ ds) below ∙ sym (ap₂ (λ xs ys. xs ++ ys) (up_to-keeps r c cs a) (later-drops r c cs a))
    go false is below =
        let a : r < c.revision = leb-false _ _ is in
        let b : r ≤ c.revision = omega arith in
        sym (ap₂ (λ xs ys. xs ++ ys)
        (ap (λ t. cond t (c ∷ up_to r cs) (up_to r cs)) (lt-leb c.revision r a) ∙ up_to-below c.revision r top cs b rise.1)
        (ap (λ t. cond t (c ∷ later r cs) (later r cs)) (lt-ltb r c.revision a) ∙ ap (λ ds. c ∷ ds) (later-below c.revision r top cs b rise.1)))

rising_to : (lo top : ℕ) (xs ys : List Change) (c : Change) → IsRising lo (xs ++ c ∷ ys) top → lo < c.revision
rising_to lo top [] ys c rise = rise.0
rising_to lo top (d ∷ xs) ys c rise =
    let a : lo < d.revision = rise.0 in
    let b : d.revision < c.revision = rising_to d.revision top xs ys c rise.1 in
    omega arith

up_to_before : (lo top : ℕ) (xs ys : List Change) (c : Change) → IsRising lo (xs ++ c ∷ ys) top → up_to (c.revision - 1) (xs ++ c ∷ ys) ≡ xs
up_to_before lo top [] ys c rise =
    let a : lo < c.revision = rise.0 in
    ap (λ t. cond t (c ∷ up_to (c.revision - 1) ys) (up_to (c.revision - 1) ys)) (lt-leb c.revision (c.revision - 1) (omega arith)) ∙ up_to-below c.revision (c.revision - 1) top ys (omega arith) rise.1
up_to_before lo top (d ∷ xs) ys c rise =
    let a : d.revision < c.revision = rising_to d.revision top xs ys c rise.1 in
    up_to-keeps (c.revision - 1) d (xs ++ c ∷ ys) (omega arith) ∙ ap (λ ds. d ∷ ds) (up_to_before d.revision top xs ys c rise.1)

-- from any objects, as those at a view's compacted number
by_befores : (wanted : Selection) (s : Objects) (lo top : ℕ) (cs xs ds ys : List Change) → cs ≡ xs ++ (ds ++ ys) → IsRising lo cs top
    → seen_among wanted (changed s xs) ds ≡ flat_map (λ c. seen_of wanted (changed s (up_to (c.revision - 1) cs)) c) ds
by_befores wanted s lo top cs xs [] ys is rise = refl
by_befores wanted s lo top cs xs (c ∷ ds) ys is rise =
    let before : changed s (up_to (c.revision - 1) cs) ≡ changed s xs =
    ap (λ l. changed s (up_to (c.revision - 1) l)) is ∙ ap (changed s) (up_to_before lo top xs (ds ++ ys) c (subst (λ l. IsRising lo l top) is rise)) in
    ap₂ (λ a b. a ++ b) (ap (λ t. seen_of wanted t c) (sym before))
    (ap (λ t. seen_among wanted t ds) (sym (changed-append s xs (c ∷ []))) ∙ by_befores wanted s lo top cs (xs ++ c ∷ []) ds ys (is ∙ sym (append_assoc xs (c ∷ []) (ds ++ ys))) rise)

one_by_one : (wanted : Selection) (s : Objects) (lo top : ℕ) (cs : List Change) (r q : ℕ) → IsRising lo cs top
    → seen_among wanted (changed s (up_to r cs)) (up_to q (later r cs)) ≡ flat_map (λ c. seen_of wanted (changed s (up_to (c.revision - 1) cs)) c) (up_to q (later r cs))
one_by_one wanted s lo top cs r q rise =
    by_befores wanted s lo top cs (up_to r cs) (up_to q (later r cs)) (later q (later r cs))
    (cut_at lo r top cs rise ∙ ap (λ l. up_to r cs ++ l) (cut_at lo q top (later r cs) (rising-filter _ lo top cs rise))) rise

pub seen_one_by_one : (wanted : Selection) (cs : List Change) (top r q : ℕ) → IsRising 0 cs top
    → seen_changes wanted cs r q ≡ flat_map (λ c. seen_of wanted (state_at cs (c.revision - 1)) c) (up_to q (later r cs))
seen_one_by_one wanted cs top r q rise = one_by_one wanted fin.empty 0 top cs r q rise

-- ---- of some keys alone

abbrev pub Within : Selection → (Key → Bool) → Type 0
Within wanted own = (k : Key) (b : List ℕ) → wanted k b ≡ true → own k ≡ true

unwanted : (wanted : Selection) (own : Key → Bool) → Within wanted own → (k : Key) → own k ≡ false → (body : Option (List ℕ)) → if_wanted wanted k body ≡ None
unwanted wanted own within k none None = refl
unwanted wanted own within k none (Some b) = go (wanted k b) refl
  where
    go : (t : Bool) → wanted k b ≡ t → cond t (Some b) None ≡ None
    go true is = absurd (true≢false (sym (within k b is) ∙ none))
    go false is = refl

pub unseen : (wanted : Selection) (own : Key → Bool) → Within wanted own → (s : Objects) (c : Change) → own c.key ≡ false → seen_of wanted s c ≡ []
unseen wanted own within s c none = ap₂ (λ a b. seen_by c.revision c.key a b) (unwanted wanted own within c.key none _) (unwanted wanted own within c.key none c.body)

own_alone : (wanted : Selection) (own : Key → Bool) → Within wanted own → (before : Change → Objects) (cs : List Change)
    → flat_map (λ c. seen_of wanted (before c) c) cs ≡ flat_map (λ c. seen_of wanted (before c) c) (filter (λ c. own c.key) cs)
own_alone wanted own within before cs =
    sym (flat_map-filter (λ c. seen_of wanted (before c) c) (λ c. seen_of wanted (before c) c) (λ c. own c.key) (λ c _. refl) (λ c none. unseen wanted own within (before c) c none) cs)

pub seen_of_own : (wanted : Selection) (own : Key → Bool) (cs : List Change) (top r q : ℕ) → Within wanted own → IsRising 0 cs top
    → seen_changes wanted cs r q ≡ flat_map (λ c. seen_of wanted (state_at cs (c.revision - 1)) c) (filter (λ c. own c.key) (up_to q (later r cs)))
seen_of_own wanted own cs top r q within rise =
    seen_one_by_one wanted cs top r q rise ∙ own_alone wanted own within (λ c. state_at cs (c.revision - 1)) (up_to q (later r cs))

-- ---- the same, of a view

pub view_one_by_one : (wanted : Selection) (own : Key → Bool) (v : View) (r q : ℕ) → Within wanted own → IsView v
    → seen_in wanted v r q ≡ flat_map (λ c. seen_of wanted (state_in v (c.revision - 1)) c) (filter (λ c. own c.key) (up_to q (later r v.changes)))
view_one_by_one wanted own v r q within is =
    one_by_one wanted v.base v.compacted v.current v.changes r q is.rising ∙ own_alone wanted own within (λ c. state_in v (c.revision - 1)) (up_to q (later r v.changes))
