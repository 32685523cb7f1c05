-- The standing and the kept changes of rising ones, change by change.
use Rattle.std.proofs.Common.{◌≡◌, ℕ, ◌<◌, ◌≤◌, Bool, true, false, cond, not, ◌&&◌, ◌||◌, List, [], ◌∷◌, refl, ap, ◌∙◌, arith, is_some, filter}
use Rattle.std.proofs.Common.{lt-ltb, le-ltb, le-leb, ltb-false}
use Rattle.std.specs.Prelude.{nat_le, nat_lt}
use Rattle.std.specs.List.{list_any, AllByRecursion}
use Rattle.history.proofs.Lists.{all_weaker}
use Rattle.history.specs.History.{Key, Change, is_same_key, IsRising}
use Rattle.history.specs.Kept.{replaces, is_last_up_to, kept}
use Rattle.history.proofs.Revisions.{all_above}

-- whether one of these changes is of the key, up to c
abbrev pub has_later : ℕ → Key → List Change → Bool
has_later c k = list_any (λ d. nat_le d.revision c && is_same_key k d.key)

-- what `kept` is where revisions rise: only the changes behind can replace one
abbrev pub kept_by : ℕ → List Change → List Change
kept_by c [] = []
kept_by c (d ∷ cs) = cond (nat_lt c d.revision || (is_some d.body && not (has_later c d.key cs))) (d ∷ kept_by c cs) (kept_by c cs)

abbrev pub current_objects_by : ℕ → List Change → List Change
current_objects_by r [] = []
current_objects_by r (d ∷ cs) = cond (nat_le d.revision r && (is_some d.body && not (has_later r d.key cs))) (d ∷ current_objects_by r cs) (current_objects_by r cs)

pub filter_same_on : {X : Type 0} (p q : X → Bool) (xs : List X) → AllByRecursion (λ x. p x ≡ q x) xs → filter p xs ≡ filter q xs
filter_same_on p q [] h = refl
filter_same_on p q (x ∷ xs) h = rw (h.0, filter_same_on p q xs h.1) refl

turned : (a b : Bool) → (a && (true && b)) ≡ (b && a)
turned true true = refl
turned true false = refl
turned false true = refl
turned false false = refl

replaced_behind : (c : ℕ) (it : Change) (cs : List Change) → AllByRecursion (λ d. it.revision < d.revision) cs → list_any (replaces c it) cs ≡ has_later c it.key cs
replaced_behind c it [] up = refl
replaced_behind c it (d ∷ cs) up =
    rw (lt-ltb it.revision d.revision up.0, turned (is_same_key it.key d.key) (nat_le d.revision c), replaced_behind c it cs up.1) refl

not_before : (a b : Bool) → (a && (false && b)) ≡ false
not_before true b = refl
not_before false b = refl

-- a change replaces none that is not older
keeps_newer : (c : ℕ) (old it : Change) → old.revision ≤ it.revision → replaces c it old ≡ false
keeps_newer c old it le = ap (λ b. is_same_key it.key old.key && (b && nat_le old.revision c)) (le-ltb it.revision old.revision le) ∙ not_before (is_same_key it.key old.key) (nat_le old.revision c)

pub stands_behind : (r : ℕ) (old it : Change) (cs : List Change) → old.revision ≤ it.revision → is_last_up_to r (old ∷ cs) it ≡ is_last_up_to r cs it
stands_behind r old it cs le = ap (λ b. nat_le it.revision r && (is_some it.body && not (b || list_any (replaces r it) cs))) (keeps_newer r old it le)

stands_here : (r : ℕ) (it : Change) (cs : List Change) → AllByRecursion (λ d. it.revision < d.revision) cs
    → is_last_up_to r (it ∷ cs) it ≡ (nat_le it.revision r && (is_some it.body && not (has_later r it.key cs)))
stands_here r it cs up = stands_behind r it it cs (omega arith) ∙ ap (λ b. nat_le it.revision r && (is_some it.body && not b)) (replaced_behind r it cs up)

pub current_objects_is : (r lo top : ℕ) (cs : List Change) → IsRising lo cs top → filter (is_last_up_to r cs) cs ≡ current_objects_by r cs
current_objects_is r lo top [] rise = refl
current_objects_is r lo top (d ∷ cs) rise =
    let up : AllByRecursion (λ e. d.revision < e.revision) cs = all_above d.revision top cs rise.1 in
    let rest : filter (is_last_up_to r (d ∷ cs)) cs ≡ current_objects_by r cs =
    filter_same_on (is_last_up_to r (d ∷ cs)) (is_last_up_to r cs) cs (all_weaker (λ e. d.revision < e.revision) (λ e. is_last_up_to r (d ∷ cs) e ≡ is_last_up_to r cs e) (λ e (h : d.revision < e.revision). stands_behind r d e cs (omega arith)) cs up)
    ∙ current_objects_is r d.revision top cs rise.1 in
    ap (λ b. cond b (d ∷ filter (is_last_up_to r (d ∷ cs)) cs) (filter (is_last_up_to r (d ∷ cs)) cs)) (stands_here r d cs up)
    ∙ ap (λ ds. cond (nat_le d.revision r && (is_some d.body && not (has_later r d.key cs))) (d ∷ ds) ds) rest

not_needed : (c n : ℕ) (b : Bool) → (nat_lt c n || (nat_le n c && b)) ≡ (nat_lt c n || b)
not_needed c n b = go (nat_lt c n) refl
  where
    go : (t : Bool) → nat_lt c n ≡ t → (t || (nat_le n c && b)) ≡ (t || b)
    go true e = refl
    go false e = ap (λ u. u && b) (le-leb n c (ltb-false _ _ e))

pub kept_is : (c lo top : ℕ) (cs : List Change) → IsRising lo cs top → kept c cs ≡ kept_by c cs
kept_is c lo top [] rise = refl
kept_is c lo top (d ∷ cs) rise =
    let up : AllByRecursion (λ e. d.revision < e.revision) cs = all_above d.revision top cs rise.1 in
    let rest : filter (λ it. nat_lt c it.revision || is_last_up_to c (d ∷ cs) it) cs ≡ kept_by c cs =
    filter_same_on (λ it. nat_lt c it.revision || is_last_up_to c (d ∷ cs) it) (λ it. nat_lt c it.revision || is_last_up_to c cs it) cs
    (all_weaker (λ e. d.revision < e.revision) (λ e. (nat_lt c e.revision || is_last_up_to c (d ∷ cs) e) ≡ (nat_lt c e.revision || is_last_up_to c cs e)) (λ e (h : d.revision < e.revision). ap (λ b. nat_lt c e.revision || b) (stands_behind c d e cs (omega arith))) cs up)
    ∙ kept_is c d.revision top cs rise.1 in
    ap (λ b. cond b (d ∷ filter (λ it. nat_lt c it.revision || is_last_up_to c (d ∷ cs) it) cs) (filter (λ it. nat_lt c it.revision || is_last_up_to c (d ∷ cs) it) cs))
    (ap (λ b. nat_lt c d.revision || b) (stands_here c d cs up) ∙ not_needed c d.revision (is_some d.body && not (has_later c d.key cs)))
    ∙ ap (λ ds. cond (nat_lt c d.revision || (is_some d.body && not (has_later c d.key cs))) (d ∷ ds) ds) rest
