-- Changes, a few at a time, and what a watch sees of them.
use Rattle.std.proofs.Common.{◌≡◌, ℕ, zero, suc, ◌+◌, ◌-◌, ◌<◌, ◌≤◌, Bool, true, false, cond, List, [], ◌∷◌, ◌++◌, length, take, drop, map, filter, refl, sym, ap, ap₂, subst, ◌∙◌, Option, Some, None, option_map, arith, append_assoc, append-nil, length-append}
use Rattle.std.proofs.Common.{ltb-true, take-append-drop}
use Rattle.std.specs.Prelude.{◌&&◌, nat_lt, slice_get}
use Rattle.std.specs.Option.{unwrap_or}
use Rattle.std.specs.List.{AllByRecursion, flat_map}
use Rattle.std.proofs.lemmas.Grind.{flat_map-append}
use Rattle.selector.specs.Requirement.{Requirement, selects}
use Rattle.history.specs.History.{Key, Objects, Change, IsRising, later, up_to}
use Rattle.history.specs.Page.{is_within, picked}
use Rattle.history.specs.Seen.{SeenChange, if_wanted, reached, seen_by, seen_in, seen_of}
use Rattle.history.specs.View.{IsView, View, state_in}
use Rattle.history.proofs.Lists.{filter_turned}
use Rattle.history.proofs.Revisions.{later-below, later-drops, later-later, rising-filter, rising_ends, up_to-all}
use Rattle.history.proofs.Befores.{view_one_by_one}
use Rattle.history.specs.declared.change.Change.{Change as TheChange}
use Rattle.history.specs.Read.{change_of}
use Rattle.lists.specs.Labels.{attributes_of, selection_of}
use Rattle.watchline.specs.declared.seen.Seen.{Seen as TheSeen}
use Rattle.watchline.specs.Views.{seen_change_of}
use Rattle.watchline.proofs.Putting.{enough}
use Rattle.watchline.specs.BatchViews.{AreBetween, IsNotBelow, changes_past, body_if_selected, revision_of_last, seen_each, seen_by_labels, to_read}

-- ---- the last revision

pub last_slot : (xs : List TheChange) → option_map (λ c. c.revision) (slice_get xs (length xs - 1)) ≡ revision_of_last (map change_of xs)
last_slot [] = refl
last_slot (x ∷ []) = refl
last_slot (x ∷ y ∷ ys) =
    let n : length (x ∷ y ∷ ys) - 1 ≡ suc (length (y ∷ ys) - 1) = omega arith in
    ap (λ i. option_map (λ c. c.revision) (slice_get (x ∷ y ∷ ys) i)) n ∙ last_slot (y ∷ ys)

-- ---- rising changes, cut behind so many

last_above : (lo top n r : ℕ) (cs : List Change) → IsRising lo cs top → revision_of_last (take n cs) ≡ Some r → lo < r
last_above lo top zero r cs rise is = absurd cc
last_above lo top (suc n) r [] rise is = absurd cc
last_above lo top (suc zero) r (c ∷ cs) rise is = let same : c.revision ≡ r = cc in subst (λ q. lo < q) same rise.0
last_above lo top (suc (suc n)) r (c ∷ []) rise is = let same : c.revision ≡ r = cc in subst (λ q. lo < q) same rise.0
last_above lo top (suc (suc n)) r (c ∷ d ∷ cs) rise is =
    let a : lo < c.revision = rise.0 in
    let b : c.revision < r = last_above c.revision top (suc n) r (d ∷ cs) rise.1 is in
    omega arith

-- what comes after the last of them is what was not taken
pub later_last : (lo top n r : ℕ) (cs : List Change) → IsRising lo cs top → revision_of_last (take n cs) ≡ Some r → later r cs ≡ drop n cs
later_last lo top zero r cs rise is = absurd cc
later_last lo top (suc n) r [] rise is = absurd cc
later_last lo top (suc zero) r (c ∷ cs) rise is =
    let same : c.revision ≡ r = cc in
    later-drops r c cs (subst (λ q. c.revision ≤ q) same (omega arith)) ∙ later-below c.revision r top cs (subst (λ q. q ≤ c.revision) same (omega arith)) rise.1
later_last lo top (suc (suc n)) r (c ∷ []) rise is =
    let same : c.revision ≡ r = cc in
    later-drops r c [] (subst (λ q. c.revision ≤ q) same (omega arith))
later_last lo top (suc (suc n)) r (c ∷ d ∷ cs) rise is =
    let b : c.revision < r = last_above c.revision top (suc n) r (d ∷ cs) rise.1 is in
    later-drops r c (d ∷ cs) (omega arith) ∙ later_last c.revision top (suc n) r (d ∷ cs) rise.1 is

pub taken_between : (low lo top n : ℕ) (cs : List Change) → low ≤ lo → IsRising lo cs top → AreBetween low top (take n cs)
taken_between low lo top zero cs h rise = tt
taken_between low lo top (suc n) [] h rise = tt
taken_between low lo top (suc n) (c ∷ cs) h rise =
    let a : lo < c.revision = rise.0 in
    let b : low < c.revision = omega arith in
    let d : low ≤ c.revision = omega arith in
    ((b, rising_ends c.revision top cs rise.1), taken_between low c.revision top n cs d rise.1)

not_none : (r : ℕ) (cs : List Change) → revision_of_last cs ≡ Some r → 0 < length cs
not_none r [] h = absurd cc
not_none r (c ∷ cs) h = omega arith

none_last : (cs : List Change) → revision_of_last cs ≡ None → cs ≡ []
none_last [] h = refl
none_last (c ∷ []) h = absurd cc
none_last (c ∷ d ∷ cs) h = let none : (d ∷ cs) ≡ [] = none_last (d ∷ cs) h in absurd cc

-- ---- what is read, and what is left

few_taken : {A : Type 0} (n : ℕ) (xs : List A) → length (take n xs) < n → take n xs ≡ xs
few_taken zero xs h = absurd (omega (arith, h))
few_taken (suc n) [] h = refl
few_taken (suc n) (x ∷ xs) h = ap (λ l. x ∷ l) (few_taken n xs (omega (arith, h)))

all_later : (r : ℕ) (cs : List Change) → AllByRecursion (λ c. r < c.revision) (later r cs)
all_later r [] = tt
all_later r (c ∷ cs) = go (nat_lt r c.revision) refl (all_later r cs)
  where
    go : (b : Bool) → nat_lt r c.revision ≡ b → AllByRecursion (λ c. r < c.revision) (later r cs) → AllByRecursion (λ c. r < c.revision) (cond b (c ∷ later r cs) (later r cs))
    go true is rest = (ltb-true r c.revision is, rest)
    go false is rest = rest

last_past : (after n r : ℕ) (cs : List Change) → AllByRecursion (λ c. after < c.revision) cs → revision_of_last (take n cs) ≡ Some r → after < r
last_past after zero r cs above is = absurd cc
last_past after (suc n) r [] above is = absurd cc
last_past after (suc zero) r (c ∷ cs) above is = let same : c.revision ≡ r = cc in subst (λ q. after < q) same above.0
last_past after (suc (suc n)) r (c ∷ []) above is = let same : c.revision ≡ r = cc in subst (λ q. after < q) same above.0
last_past after (suc (suc n)) r (c ∷ d ∷ cs) above is = last_past after (suc n) r (d ∷ cs) above.1 is

module _ (kind : ℕ) (namespace : Option (List ℕ)) (v : View) (sound : IsView v) (after : ℕ) (low : v.compacted ≤ after) (max : ℕ) (rows : List Change)
    (is : rows ≡ take max (picked kind namespace (later after v.changes))) where
  rising : IsRising v.compacted (picked kind namespace (later after v.changes)) v.current
  rising = rising-filter (λ c. is_within kind namespace c.key) v.compacted v.current (later after v.changes) (rising-filter (λ c. nat_lt after c.revision) v.compacted v.current v.changes sound.rising)

  above : AllByRecursion (λ c. after < c.revision) (picked kind namespace (later after v.changes))
  above = subst (AllByRecursion (λ c. after < c.revision)) (filter_turned (λ c. nat_lt after c.revision) (λ c. is_within kind namespace c.key) v.changes) (all_later after (picked kind namespace v.changes))

  pub all_between : AreBetween v.compacted v.current rows
  all_between = subst (AreBetween v.compacted v.current) (sym is) (taken_between v.compacted v.compacted v.current max (picked kind namespace (later after v.changes)) (omega arith) rising)

  -- fewer than asked for are the last
  pub ends_here : length rows < max → changes_past kind namespace v (Some after) ≡ rows ++ changes_past kind namespace v None
  ends_here few = sym (append-nil rows ∙ is ∙ few_taken max (picked kind namespace (later after v.changes)) (subst (λ xs. length xs < max) is few))

  pub ends_lower : to_read kind namespace v None < to_read kind namespace v (Some after)
  ends_lower = omega arith

  module _ (r : ℕ) (last : revision_of_last rows ≡ Some r) where
    last_taken : revision_of_last (take max (picked kind namespace (later after v.changes))) ≡ Some r
    last_taken = ap revision_of_last (sym is) ∙ last

    past : after < r
    past = last_past after max r (picked kind namespace (later after v.changes)) above last_taken

    others : drop max (picked kind namespace (later after v.changes)) ≡ picked kind namespace (later r v.changes)
    others =
        let h : after ≤ r = omega (arith, past) in
        sym (later_last v.compacted v.current max r (picked kind namespace (later after v.changes)) rising last_taken)
        ∙ filter_turned (λ c. nat_lt r c.revision) (λ c. is_within kind namespace c.key) (later after v.changes)
        ∙ ap (picked kind namespace) (later-later after r v.changes h)

    goes_on : changes_past kind namespace v (Some after) ≡ rows ++ changes_past kind namespace v (Some r)
    goes_on = sym (take-append-drop max (picked kind namespace (later after v.changes))) ∙ ap₂ (λ xs ys. xs ++ ys) (sym is) others

    goes_lower : to_read kind namespace v (Some r) < to_read kind namespace v (Some after)
    goes_lower =
        let some : 0 < length rows = not_none r rows last in
        let whole : length (picked kind namespace (later after v.changes)) ≡ length rows + length (picked kind namespace (later r v.changes)) = ap length goes_on ∙ length-append rows (picked kind namespace (later r v.changes)) in
        omega arith

    goes_low : v.compacted ≤ r
    goes_low = let h : after < r = past in omega arith

  module _ (some : 0 < max) (enough : max ≤ length rows) (next : Option ℕ) (next_is : next ≡ revision_of_last rows) where
    nothing_here : revision_of_last rows ≡ None → Unit {0} → max ≤ 0
    nothing_here h u = let none : length rows ≡ 0 = ap length (none_last rows h) in omega arith

    pub leads_on : changes_past kind namespace v (Some after) ≡ rows ++ changes_past kind namespace v next
    leads_on = go (revision_of_last rows) refl
      where
        go : (o : Option ℕ) → revision_of_last rows ≡ o → changes_past kind namespace v (Some after) ≡ rows ++ changes_past kind namespace v next
        go None h = absurd (let no : max ≤ 0 = nothing_here h tt in omega arith)
        go (Some r) h = goes_on r h ∙ ap (λ o. rows ++ changes_past kind namespace v o) (sym (next_is ∙ h))

    pub leads_lower : to_read kind namespace v next < to_read kind namespace v (Some after)
    leads_lower = go (revision_of_last rows) refl
      where
        go : (o : Option ℕ) → revision_of_last rows ≡ o → to_read kind namespace v next < to_read kind namespace v (Some after)
        go None h = absurd (let no : max ≤ 0 = nothing_here h tt in omega arith)
        go (Some r) h = subst (λ o. to_read kind namespace v o < to_read kind namespace v (Some after)) (sym (next_is ∙ h)) (goes_lower r h)

    pub leads_low : IsNotBelow v.compacted next
    leads_low = go (revision_of_last rows) refl
      where
        go : (o : Option ℕ) → revision_of_last rows ≡ o → IsNotBelow v.compacted next
        go None h = subst (IsNotBelow v.compacted) (sym (next_is ∙ h)) tt
        go (Some r) h = subst (IsNotBelow v.compacted) (sym (next_is ∙ h)) (goes_low r h)

-- ---- what is seen of them

left_true : (a b : Bool) → a && b ≡ true → a ≡ true
left_true true b h = refl
left_true false b h = h

within : (kind : ℕ) (namespace : Option (List ℕ)) (requirements : List Requirement) (k : Key) (b : List ℕ) → selection_of kind namespace requirements k b ≡ true → is_within kind namespace k ≡ true
within kind namespace requirements k b h = left_true (is_within kind namespace k) (selects requirements (attributes_of k b)) h

same_body : (kind : ℕ) (namespace : Option (List ℕ)) (requirements : List Requirement) (k : Key) → is_within kind namespace k ≡ true → (b : Option (List ℕ))
    → if_wanted (selection_of kind namespace requirements) k b ≡ body_if_selected requirements k b
same_body kind namespace requirements k own None = refl
same_body kind namespace requirements k own (Some b) = ap (λ t. cond (t && selects requirements (attributes_of k b)) (Some b) None) own

same_seen : (kind : ℕ) (namespace : Option (List ℕ)) (requirements : List Requirement) (s : Objects) (c : Change) → is_within kind namespace c.key ≡ true
    → seen_of (selection_of kind namespace requirements) s c ≡ seen_by_labels requirements s c
same_seen kind namespace requirements s c own = ap₂ (λ a b. seen_by c.revision c.key a b) (same_body kind namespace requirements c.key own _) (same_body kind namespace requirements c.key own c.body)

same_each : {A B : Type 0} (f g : A → List B) (p : A → Bool) → ((x : A) → p x ≡ true → f x ≡ g x) → (xs : List A) → flat_map f (filter p xs) ≡ flat_map g (filter p xs)
same_each f g p same [] = refl
same_each f g p same (x ∷ xs) = go (p x) refl (same_each f g p same xs)
  where
    go : (b : Bool) → p x ≡ b → flat_map f (filter p xs) ≡ flat_map g (filter p xs) → flat_map f (cond b (x ∷ filter p xs) (filter p xs)) ≡ flat_map g (cond b (x ∷ filter p xs) (filter p xs))
    go true is rest = ap₂ (λ a b. a ++ b) (same x is) rest
    go false is rest = rest

-- all that is seen after a revision
pub seen_is : (kind : ℕ) (namespace : Option (List ℕ)) (requirements : List Requirement) (v : View) (after : ℕ) → IsView v
    → seen_each requirements v (picked kind namespace (later after v.changes)) ≡ seen_in (selection_of kind namespace requirements) v after v.current
seen_is kind namespace requirements v after sound =
    let all : up_to v.current (later after v.changes) ≡ later after v.changes = up_to-all v.compacted v.current v.current (later after v.changes) (omega arith) (rising-filter (λ c. nat_lt after c.revision) v.compacted v.current v.changes sound.rising) in
    sym (
    view_one_by_one (selection_of kind namespace requirements) (λ k. is_within kind namespace k) v after v.current (within kind namespace requirements) sound
    ∙ ap (λ cs. flat_map (λ c. seen_of (selection_of kind namespace requirements) (state_in v (c.revision - 1)) c) (picked kind namespace cs)) all
    ∙ same_each (λ c. seen_of (selection_of kind namespace requirements) (state_in v (c.revision - 1)) c) (λ c. seen_by_labels requirements (state_in v (c.revision - 1)) c) (λ c. is_within kind namespace c.key)
    (λ c own. same_seen kind namespace requirements (state_in v (c.revision - 1)) c own) (later after v.changes)
    )

-- ---- as far as the loop has come

abbrev pub IsSeenSoFar : List Requirement → View → List Change → List SeenChange → List Change → Type 0
IsSeenSoFar requirements v all found left = seen_each requirements v all ≡ found ++ seen_each requirements v left

pub seen_more : (requirements : List Requirement) (v : View) (all : List Change) (found new : List SeenChange) (left rows rest : List Change) → IsSeenSoFar requirements v all found left → left ≡ rows ++ rest
    → new ≡ found ++ seen_each requirements v rows → IsSeenSoFar requirements v all new rest
seen_more requirements v all found new left rows rest so_far reads is =
    so_far ∙ ap (λ cs. found ++ seen_each requirements v cs) reads
    ∙ ap (λ xs. found ++ xs) (flat_map-append (λ c. seen_by_labels requirements (state_in v (c.revision - 1)) c) rows rest)
    ∙ sym (append_assoc found (seen_each requirements v rows) (seen_each requirements v rest)) ∙ ap (λ xs. xs ++ seen_each requirements v rest) (sym is)

-- enough were found, or nothing is left
pub seen_enough : (requirements : List Requirement) (v : View) (all : List Change) (found : List SeenChange) (left : List Change) (max : ℕ) → IsSeenSoFar requirements v all found left → max ≤ length found
    → take max found ≡ take max (seen_each requirements v all)
seen_enough requirements v all found left max so_far h = enough max found (seen_each requirements v left) h ∙ ap (take max) (sym so_far)

pub seen_all : (requirements : List Requirement) (v : View) (all : List Change) (found : List SeenChange) (left : List Change) → IsSeenSoFar requirements v all found left → left ≡ [] → found ≡ seen_each requirements v all
seen_all requirements v all found left so_far none = sym (so_far ∙ ap (λ cs. found ++ seen_each requirements v cs) none ∙ append-nil found)

pub each_more : (requirements : List Requirement) (v : View) (whole found new : List SeenChange) (cs rest : List Change) (c : Change) → found ++ seen_each requirements v cs ≡ whole → cs ≡ c ∷ rest
    → new ≡ found ++ seen_by_labels requirements (state_in v (c.revision - 1)) c → new ++ seen_each requirements v rest ≡ whole
each_more requirements v whole found new cs rest c so_far reads is =
    ap (λ xs. xs ++ seen_each requirements v rest) is ∙ append_assoc found (seen_by_labels requirements (state_in v (c.revision - 1)) c) (seen_each requirements v rest)
    ∙ ap (λ xs. found ++ xs) (sym (ap (seen_each requirements v) reads)) ∙ so_far

-- ---- where a watch then stands

pub reached_last : (from : ℕ) (xs : List TheSeen) → unwrap_or (option_map (λ s. s.object.revision) (slice_get xs (length xs - 1))) from ≡ reached from (map seen_change_of xs)
reached_last from [] = refl
reached_last from (x ∷ []) = refl
reached_last from (x ∷ y ∷ ys) =
    let n : length (x ∷ y ∷ ys) - 1 ≡ suc (length (y ∷ ys) - 1) = omega arith in
    ap (λ i. unwrap_or (option_map (λ s. s.object.revision) (slice_get (x ∷ y ∷ ys) i)) from) n ∙ reached_last from (y ∷ ys)
