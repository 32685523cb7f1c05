-- What is left to be sent after a turn, and what its position passes.
use Rattle.std.proofs.Common.{◌≡◌, ◌⊎◌, inl, inr, ℕ, zero, suc, ◌+◌, ◌-◌, ◌<◌, ◌≤◌, max, Bool, true, false, cond, List, [], ◌∷◌, ◌++◌, length, take, drop, map, filter, Option, Some, None, option_map, refl, sym, ap, ap₂, subst, ◌∙◌, arith, append_assoc, leb-true, leb-false, le-ltb, ltb-true, ltb-false, length-append, zero-le, drop_of_length-le, take-append-drop}
use Rattle.std.specs.Prelude.{nat_le, nat_lt, ◌&&◌, ◌==◌}
use Rattle.std.proofs.lemmas.Bool.{lt-leb}
use Rattle.std.proofs.lemmas.List.{append_cancel_left, append_cancel_right, drop-map, length-map, map-append, take_all}
use Rattle.std.proofs.Math.Seq.{take-add}
use Rattle.std.specs.FinMap as fin
use Rattle.selector.specs.Requirement.{Requirement, selects}
use Rattle.history.specs.History.{Change, History, IsHistory, IsRising, Key, Object, Objects, changed, later, left_by, put_or_remove, state_at, up_to, written}
use Rattle.history.specs.Page.{is_in_namespace, is_within, listed}
use Rattle.history.specs.Seen.{SeenChange, Selection, left_after, reached, seen_among, seen_changes, seen_of, selected, last_key, past}
use Rattle.history.proofs.Following.{prefix_seen, seen_changes-push}
use Rattle.history.proofs.Leading.{more}
use Rattle.history.proofs.Lists.{filter_both, filter_like}
use Rattle.history.proofs.Paging.{listed_first, listed_past}
use Rattle.history.proofs.Revisions.{later-drops, later-later, rising-filter, rising_ends, up_to-split}
use Rattle.history.proofs.Selecting.{entries-selected}
use Rattle.history.proofs.Views.{state_in_is}
use Rattle.lists.specs.Labels.{attributes_of, selection_of}
use Rattle.lists.specs.Rows.{Start}
use Rattle.answers.specs.WatchFrom.{WatchFrom}
use Rattle.answers.specs.declared.watch_from.InitialEvents.{InitialEvents}
use Rattle.answers.specs.declared.watch_from.InitialEvents.TheVariants.{Changes, NoneSelected, Objects as SomeObjects}
use Rattle.watchline.specs.Lines.{added, bookmark_line, line_of}
use Rattle.watchline.specs.Opening.{first_cursor, sent_of}
use Rattle.watchline.specs.TurnLaws.{SkipsNothing, after_turns, lines_by, room_of}
use Rattle.watchline.specs.Watches.{Cursor, InitialLeft, BookmarkTurn, Turn, bookmarked, changes_left, changes_sent, coming, entries_left, expiring, from_history, is_bookmark_due, key_at, initial_left_by_next, initial_left_from, initial_left_after_count, moved, no_initial_left, objects_left, position_by, position_past, pumped, sending, wanted}
use Rattle.watchline.proofs.Coming.{Entries}
use Rattle.watchline.proofs.Putting.{drop-add, drop-behind}

-- ---- objects

absorbs : (a b c : Bool) → (((a && b) && c) && (a && true)) ≡ ((a && b) && c)
absorbs true true true = refl
absorbs true true false = refl
absorbs true false c = refl
absorbs false b c = refl

-- what is selected is of the one type
same_kind : (kind : ℕ) (namespace : Option (List ℕ)) (requirements : List Requirement) (s : Objects)
    → fin.entries (selected (λ k _. is_within kind None k) (selected (selection_of kind namespace requirements) s)) ≡ fin.entries (selected (selection_of kind namespace requirements) s)
same_kind kind namespace requirements s =
    entries-selected (λ k _. is_within kind None k) (selected (selection_of kind namespace requirements) s)
    ∙ ap (filter (λ e. is_within kind None e.0)) (entries-selected (selection_of kind namespace requirements) s)
    ∙ filter_both (λ e. is_within kind None e.0) (λ e. selection_of kind namespace requirements e.0 e.1.body) (fin.entries s)
    ∙ filter_like (λ e. selection_of kind namespace requirements e.0 e.1.body && is_within kind None e.0) (λ e. selection_of kind namespace requirements e.0 e.1.body)
    (λ e. absorbs (e.0.kind == kind) (is_in_namespace namespace e.0) (selects requirements (attributes_of e.0 e.1.body))) (fin.entries s)
    ∙ sym (entries-selected (selection_of kind namespace requirements) s)

rows_are : (kind : ℕ) (namespace : Option (List ℕ)) (requirements : List Requirement) (start : Start) (s : Objects)
    → listed kind None start (selected (selection_of kind namespace requirements) s) ≡ left_after (option_map (key_at kind) start) (fin.entries (selected (selection_of kind namespace requirements) s))
rows_are kind namespace requirements None s = listed_first kind None (selected (selection_of kind namespace requirements) s) ∙ same_kind kind namespace requirements s
rows_are kind namespace requirements (Some place) s =
    listed_past None (key_at kind place) (selected (selection_of kind namespace requirements) s) ∙ ap (past (key_at kind place)) (same_kind kind namespace requirements s)

some_last : (f : Key × Object) (fs : Entries) → last_key (f ∷ fs) ≡ None → ⊥
some_last f [] is = absurd cc
some_last f (g ∷ gs) is = some_last g gs is

not_empty : (n : ℕ) (es : Entries) → 0 < n → 0 < length es → last_key (take n es) ≡ None → ⊥
not_empty zero es h lots is = omega (arith, h)
not_empty (suc n) [] h lots is = omega (arith, lots)
not_empty (suc n) (e ∷ es) h lots is = some_last e (take n es) is

by_last : (kind n : ℕ) (all es : Entries) → suc n < length es → ((k : Key) → last_key (take (suc n) es) ≡ Some k → past (key_at kind (k.namespace, k.name)) all ≡ drop (suc n) es)
    → (o : Option Key) → last_key (take (suc n) es) ≡ o → entries_left kind (initial_left_by_next o) all ≡ drop (suc n) es
by_last kind n all es lots on None is = absurd (not_empty (suc n) es (omega arith) (omega (arith, lots)) is)
by_last kind n all es lots on (Some k) is = on k is

by_more : (kind n : ℕ) (all es : Entries) → ((k : Key) → last_key (take (suc n) es) ≡ Some k → past (key_at kind (k.namespace, k.name)) all ≡ drop (suc n) es)
    → (b : Bool) → nat_lt (suc n) (length es) ≡ b → entries_left kind (initial_left_by_next (cond b (last_key (take (suc n) es)) None)) all ≡ drop (suc n) es
by_more kind n all es on true lots = by_last kind n all es (ltb-true (suc n) (length es) lots) on (last_key (take (suc n) es)) refl
by_more kind n all es on false few = sym (drop_of_length-le es (ltb-false (suc n) (length es) few))

left_is : (kind room : ℕ) (all es : Entries) (left : InitialLeft) → 0 < room → ((k : Key) → last_key (take room es) ≡ Some k → past (key_at kind (k.namespace, k.name)) all ≡ drop room es)
    → entries_left kind (initial_left_after_count room es left) all ≡ drop room es
left_is kind zero all es left some on = absurd (omega (arith, some))
left_is kind (suc n) all es left some on = by_more kind n all es on (nat_lt (suc n) (length es)) refl

abbrev Selected : ℕ → Option (List ℕ) → List Requirement → Objects → Objects
Selected kind namespace requirements s = selected (selection_of kind namespace requirements) s

-- after the last that was sent there are those that weren't
goes_on : (kind : ℕ) (namespace : Option (List ℕ)) (requirements : List Requirement) (start : Start) (s : Objects) (room : ℕ) (k : Key)
    → last_key (take room (left_after (option_map (key_at kind) start) (fin.entries (Selected kind namespace requirements s)))) ≡ Some k
    → past (key_at kind (k.namespace, k.name)) (fin.entries (Selected kind namespace requirements s)) ≡ drop room (left_after (option_map (key_at kind) start) (fin.entries (Selected kind namespace requirements s)))
goes_on kind namespace requirements start s room k is =
    let es = left_after (option_map (key_at kind) start) (fin.entries (Selected kind namespace requirements s)) in
    let rows : listed kind None start (Selected kind namespace requirements s) ≡ es = rows_are kind namespace requirements start s in
    let whole : listed kind None start (Selected kind namespace requirements s)
    ≡ take room (listed kind None start (Selected kind namespace requirements s)) ++ listed kind None (Some (k.namespace, k.name)) (Selected kind namespace requirements s)
    = more kind None start room (Selected kind namespace requirements s) k (ap (λ xs. last_key (take room xs)) rows ∙ is) in
    append_cancel_left (take room es) (past (key_at kind (k.namespace, k.name)) (fin.entries (Selected kind namespace requirements s))) (drop room es) (
    ap (λ xs. take room es ++ xs) (sym (rows_are kind namespace requirements (Some (k.namespace, k.name)) s))
    ∙ ap (λ xs. take room xs ++ listed kind None (Some (k.namespace, k.name)) (Selected kind namespace requirements s)) (sym rows)
    ∙ sym whole ∙ rows ∙ sym (take-append-drop room es)
    )

-- what is left of the objects after a turn that has room
objects_on : (kind : ℕ) (namespace : Option (List ℕ)) (requirements : List Requirement) (left : InitialLeft) (s : Objects) (room : ℕ) → 0 < room
    → entries_left kind (initial_left_after_count room (entries_left kind left (fin.entries (Selected kind namespace requirements s))) left) (fin.entries (Selected kind namespace requirements s))
    ≡ drop room (entries_left kind left (fin.entries (Selected kind namespace requirements s)))
objects_on kind namespace requirements no_initial_left s room some =
    left_is kind room (fin.entries (Selected kind namespace requirements s)) [] no_initial_left some (λ k is. absurd (no_last room k is))
  where
    no_last : (n : ℕ) (k : Key) → last_key (take n []) ≡ Some k → ⊥
    no_last zero k is = absurd cc
    no_last (suc n) k is = absurd cc
objects_on kind namespace requirements (initial_left_from start) s room some =
    left_is kind room (fin.entries (Selected kind namespace requirements s)) (left_after (option_map (key_at kind) start) (fin.entries (Selected kind namespace requirements s))) (initial_left_from start) some
    (λ k is. goes_on kind namespace requirements start s room k is)

-- where all of them were sent none is left
none_on : (kind room : ℕ) (es all : Entries) (left : InitialLeft) → 0 < room → length es ≤ room → entries_left kind (initial_left_after_count room es left) all ≡ []
none_on kind zero es all left some few = absurd (omega (arith, some))
none_on kind (suc n) es all left some few = by_few (nat_lt (suc n) (length es)) refl
  where
    by_few : (b : Bool) → nat_lt (suc n) (length es) ≡ b → entries_left kind (initial_left_by_next (cond b (last_key (take (suc n) es)) None)) all ≡ []
    by_few true lots = absurd (let h : suc n < length es = ltb-true (suc n) (length es) lots in omega arith)
    by_few false t = refl

-- ---- changes

later_none : (lo r top : ℕ) (cs : List Change) → top ≤ r → IsRising lo cs top → later r cs ≡ []
later_none lo r top [] h rise = refl
later_none lo r top (c ∷ cs) h rise =
    let a : c.revision ≤ top = rising_ends c.revision top cs rise.1 in
    let b : c.revision ≤ r = omega arith in
    later-drops r c cs b ∙ later_none c.revision r top cs h rise.1

-- past the current number nothing is seen
none_past : (seen : Selection) (cs : List Change) (r top q : ℕ) → top ≤ r → IsRising 0 cs top → seen_changes seen cs r q ≡ []
none_past seen cs r top q h rise = ap (λ ds. seen_among seen (state_at cs r) (up_to q ds)) (later_none 0 r top cs h rise)

seen_append : (seen : Selection) (s : Objects) (xs ys : List Change) → seen_among seen s (xs ++ ys) ≡ seen_among seen s xs ++ seen_among seen (changed s xs) ys
seen_append seen s [] ys = refl
seen_append seen s (x ∷ xs) ys =
    ap (λ l. seen_of seen s x ++ l) (seen_append seen (put_or_remove s x.key (left_by x)) xs ys)
    ∙ sym (append_assoc (seen_of seen s x) (seen_among seen (put_or_remove s x.key (left_by x)) xs) (seen_among seen (changed (put_or_remove s x.key (left_by x)) xs) ys))

-- what is seen up to a revision, and then after it
pub seen_split : (seen : Selection) (cs : List Change) (p q r top : ℕ) → p ≤ q → q ≤ r → IsRising 0 cs top → seen_changes seen cs p r ≡ seen_changes seen cs p q ++ seen_changes seen cs q r
seen_split seen cs p q r top low high rise =
    let rise_p : IsRising 0 (later p cs) top = rising-filter (λ c. nat_lt p c.revision) 0 top cs rise in
    ap (seen_among seen (state_at cs p)) (up_to-split 0 q r top (later p cs) high rise_p)
    ∙ seen_append seen (state_at cs p) (up_to q (later p cs)) (up_to r (later q (later p cs)))
    ∙ ap₂ (λ s ds. seen_changes seen cs p q ++ seen_among seen s (up_to r ds)) (state_in_is p q top cs rise low) (later-later p q cs low)

none_after : (q : ℕ) (cs : List Change) → up_to q (later q cs) ≡ []
none_after q [] = refl
none_after q (c ∷ cs) = go (nat_lt q c.revision) refl (none_after q cs)
  where
    go : (b : Bool) → nat_lt q c.revision ≡ b → up_to q (later q cs) ≡ [] → up_to q (cond b (c ∷ later q cs) (later q cs)) ≡ []
    go true above none = ap (λ b. cond b (c ∷ up_to q (later q cs)) (up_to q (later q cs))) (lt-leb c.revision q (ltb-true q c.revision above)) ∙ none
    go false below none = none

pub none_between : (seen : Selection) (cs : List Change) (q : ℕ) → seen_changes seen cs q q ≡ []
none_between seen cs q = ap (seen_among seen (state_at cs q)) (none_after q cs)

-- ---- where a turn of changes leads to: those of the prefix are sent, and where room is left nothing else is to be seen

abbrev PositionAfter : Selection → List Change → ℕ → ℕ → ℕ → Bool → ℕ
PositionAfter seen cs p n top b = position_by b top (reached p (take n (seen_changes seen cs p top)))

none_taken : {A : Type 0} (n : ℕ) (xs : List A) → xs ≡ [] → take n xs ≡ []
none_taken n xs is = ap (take n) is ∙ take_all n [] zero-le

none_dropped : {A : Type 0} (n : ℕ) (xs : List A) → xs ≡ [] → drop n xs ≡ []
none_dropped n xs is = ap (drop n) is ∙ drop_of_length-le [] zero-le

-- past the current number a watch stays where it stands
over_stays : (seen : Selection) (cs : List Change) (p n top : ℕ) (b : Bool) → IsRising 0 cs top → top ≤ p → PositionAfter seen cs p n top b ≡ p
over_stays seen cs p n top b rise h =
    ap (λ xs. position_by b top (reached p xs)) (none_taken n (seen_changes seen cs p top) (none_past seen cs p top top h rise)) ∙ stays b
  where
    stays : (c : Bool) → position_by c top p ≡ p
    stays true = omega (arith, h)
    stays false = refl

-- what is left is what there was no room for
left_below : (seen : Selection) (cs : List Change) (p n top : ℕ) (b : Bool) → IsRising 0 cs top → p ≤ top → (b ≡ true → length (seen_changes seen cs p top) < n)
    → seen_changes seen cs (PositionAfter seen cs p n top b) top ≡ drop n (seen_changes seen cs p top)
left_below seen cs p n top true rise h few =
    let xs = seen_changes seen cs p top in
    let q = reached p (take n xs) in
    let short : length xs < n = few refl in
    let past_it : top ≤ max q top = omega arith in
    none_past seen cs (max q top) top top past_it rise ∙ sym (drop_of_length-le xs (omega (arith, short)))
left_below seen cs p n top false rise h few = (prefix_seen seen cs top n p (seen_changes seen cs p top) rise h refl).left

left_over : (seen : Selection) (cs : List Change) (p n top : ℕ) (b : Bool) → IsRising 0 cs top → top ≤ p → seen_changes seen cs (PositionAfter seen cs p n top b) top ≡ drop n (seen_changes seen cs p top)
left_over seen cs p n top b rise h =
    let none : seen_changes seen cs p top ≡ [] = none_past seen cs p top top h rise in
    ap (λ q. seen_changes seen cs q top) (over_stays seen cs p n top b rise h) ∙ none ∙ sym (none_dropped n (seen_changes seen cs p top) none)

left_on : (seen : Selection) (cs : List Change) (p n top : ℕ) (b : Bool) → IsRising 0 cs top → (b ≡ true → length (seen_changes seen cs p top) < n)
    → seen_changes seen cs (PositionAfter seen cs p n top b) top ≡ drop n (seen_changes seen cs p top)
left_on seen cs p n top b rise few = by_high (nat_le p top) refl
  where
    by_high : (c : Bool) → nat_le p top ≡ c → seen_changes seen cs (PositionAfter seen cs p n top b) top ≡ drop n (seen_changes seen cs p top)
    by_high true is = left_below seen cs p n top b rise (leb-true p top is) few
    by_high false is = let h : top < p = leb-false p top is in left_over seen cs p n top b rise (omega (arith, h))

-- what the position passes was sent
passed_below : (seen : Selection) (cs : List Change) (p n top : ℕ) (b : Bool) → IsRising 0 cs top → p ≤ top → (b ≡ true → length (seen_changes seen cs p top) < n)
    → seen_changes seen cs p (PositionAfter seen cs p n top b) ≡ take n (seen_changes seen cs p top)
passed_below seen cs p n top true rise h few =
    let xs = seen_changes seen cs p top in
    let prefix = prefix_seen seen cs top n p xs rise h refl in
    let short : length xs < n = few refl in
    let high : reached p (take n xs) ≤ top = prefix.high in
    let same : max (reached p (take n xs)) top ≡ top = omega (arith, high) in
    ap (seen_changes seen cs p) same ∙ sym (take_all n xs (omega (arith, short)))
passed_below seen cs p n top false rise h few =
    let xs = seen_changes seen cs p top in
    let prefix = prefix_seen seen cs top n p xs rise h refl in
    let q = reached p (take n xs) in
    append_cancel_right (seen_changes seen cs p q) (take n xs) (drop n xs) (
    ap (λ ys. seen_changes seen cs p q ++ ys) (sym prefix.left) ∙ sym (seen_split seen cs p q top top prefix.low prefix.high rise) ∙ sym (take-append-drop n xs)
    )

passed_on : (seen : Selection) (cs : List Change) (p n top : ℕ) (b : Bool) → IsRising 0 cs top → (b ≡ true → length (seen_changes seen cs p top) < n)
    → seen_changes seen cs p (PositionAfter seen cs p n top b) ≡ take n (seen_changes seen cs p top)
passed_on seen cs p n top b rise few = by_high (nat_le p top) refl
  where
    by_high : (c : Bool) → nat_le p top ≡ c → seen_changes seen cs p (PositionAfter seen cs p n top b) ≡ take n (seen_changes seen cs p top)
    by_high true is = passed_below seen cs p n top b rise (leb-true p top is) few
    by_high false is =
        let h : top < p = leb-false p top is in
        let over : top ≤ p = omega (arith, h) in
        none_past seen cs p top (PositionAfter seen cs p n top b) over rise ∙ sym (none_taken n (seen_changes seen cs p top) (none_past seen cs p top top over rise))

-- nothing is seen between the last that was sent and the position
behind_below : (seen : Selection) (cs : List Change) (p n top : ℕ) (b : Bool) → IsRising 0 cs top → p ≤ top → (b ≡ true → length (seen_changes seen cs p top) < n)
    → seen_changes seen cs (reached p (take n (seen_changes seen cs p top))) (PositionAfter seen cs p n top b) ≡ []
behind_below seen cs p n top true rise h few =
    let xs = seen_changes seen cs p top in
    let prefix = prefix_seen seen cs top n p xs rise h refl in
    let short : length xs < n = few refl in
    let high : reached p (take n xs) ≤ top = prefix.high in
    let same : max (reached p (take n xs)) top ≡ top = omega (arith, high) in
    ap (seen_changes seen cs (reached p (take n xs))) same ∙ prefix.left ∙ drop_of_length-le xs (omega (arith, short))
behind_below seen cs p n top false rise h few = none_between seen cs (reached p (take n (seen_changes seen cs p top)))

behind_on : (seen : Selection) (cs : List Change) (p n top : ℕ) (b : Bool) → IsRising 0 cs top → (b ≡ true → length (seen_changes seen cs p top) < n)
    → seen_changes seen cs (reached p (take n (seen_changes seen cs p top))) (PositionAfter seen cs p n top b) ≡ []
behind_on seen cs p n top b rise few = by_high (nat_le p top) refl
  where
    by_high : (c : Bool) → nat_le p top ≡ c → seen_changes seen cs (reached p (take n (seen_changes seen cs p top))) (PositionAfter seen cs p n top b) ≡ []
    by_high true is = behind_below seen cs p n top b rise (leb-true p top is) few
    by_high false is =
        let h : top < p = leb-false p top is in
        let over : top ≤ p = omega (arith, h) in
        ap (λ xs. seen_changes seen cs (reached p xs) (PositionAfter seen cs p n top b)) (none_taken n (seen_changes seen cs p top) (none_past seen cs p top top over rise))
        ∙ none_past seen cs p top (PositionAfter seen cs p n top b) over rise

stands_above : (top q : ℕ) (b : Bool) → q ≤ position_by b top q
stands_above top q true = omega arith
stands_above top q false = omega arith

rises_on : (seen : Selection) (cs : List Change) (p n top : ℕ) (b : Bool) → IsRising 0 cs top → p ≤ PositionAfter seen cs p n top b
rises_on seen cs p n top b rise = by_high (nat_le p top) refl
  where
    by_high : (c : Bool) → nat_le p top ≡ c → p ≤ PositionAfter seen cs p n top b
    by_high true is =
        let xs = seen_changes seen cs p top in
        let low : p ≤ reached p (take n xs) = (prefix_seen seen cs top n p xs rise (leb-true p top is) refl).low in
        let up : reached p (take n xs) ≤ position_by b top (reached p (take n xs)) = stands_above top (reached p (take n xs)) b in
        omega (arith, low, up)
    by_high false is =
        let h : top < p = leb-false p top is in
        subst (λ q. p ≤ q) (sym (over_stays seen cs p n top b rise (omega (arith, h)))) (omega arith)

-- ---- a turn

objects_after : (kind : ℕ) (namespace : Option (List ℕ)) (requirements : List Requirement) (left : InitialLeft) (s : Objects) (room : ℕ)
    → entries_left kind (initial_left_after_count room (entries_left kind left (fin.entries (Selected kind namespace requirements s))) left) (fin.entries (Selected kind namespace requirements s))
    ≡ drop room (entries_left kind left (fin.entries (Selected kind namespace requirements s)))
objects_after kind namespace requirements left s zero = refl
objects_after kind namespace requirements left s (suc n) = objects_on kind namespace requirements left s (suc n) (omega arith)

pub sent_low : (h : History) (room : ℕ) (w : Cursor) → h.compacted ≤ w.position → pumped (from_history h) room w ≡ sending (from_history h) room w
sent_low h room w low = ap (λ b. cond b (expiring (from_history h) w) (sending (from_history h) room w)) (le-ltb w.position h.compacted low)

module _ (h : History) (room : ℕ) (w : Cursor) (is : IsHistory h) where
  has_room : Bool
  has_room = nat_lt (length (coming (from_history h) w)) room

  in_all : length (coming (from_history h) w) ≡ length (objects_left (from_history h) w) + length (changes_left (from_history h) w)
  in_all = length-append (map added (objects_left (from_history h) w)) (changes_left (from_history h) w)
      ∙ ap (λ n. n + length (changes_left (from_history h) w)) (length-map (objects_left (from_history h) w) added)

  fits : nat_lt (length (coming (from_history h) w)) room ≡ true → length (changes_left (from_history h) w) < room - length (objects_left (from_history h) w)
  fits t =
      let few : length (coming (from_history h) w) < room = ltb-true (length (coming (from_history h) w)) room t in
      let all : length (coming (from_history h) w) ≡ length (objects_left (from_history h) w) + length (changes_left (from_history h) w) = in_all in
      omega (arith, few, all)

  -- where there is no room behind the objects the position stays
  stays_put : room ≤ length (objects_left (from_history h) w) → position_past (from_history h) room w ≡ w.position
  stays_put lots =
      let all : length (coming (from_history h) w) ≡ length (objects_left (from_history h) w) + length (changes_left (from_history h) w) = in_all in
      let no_room : nat_lt (length (coming (from_history h) w)) room ≡ false = le-ltb (length (coming (from_history h) w)) room (omega (arith, lots, all)) in
      let none : room - length (objects_left (from_history h) w) ≡ 0 = omega (arith, lots) in
      ap₂ (λ b n. position_by b h.current (reached w.position (take n (changes_left (from_history h) w)))) no_room none

  objects_next : objects_left (from_history h) (sending (from_history h) room w).next ≡ drop room (objects_left (from_history h) w)
  objects_next = by_room (nat_lt (length (objects_left (from_history h) w)) room) refl
    where
      by_room : (b : Bool) → nat_lt (length (objects_left (from_history h) w)) room ≡ b → objects_left (from_history h) (sending (from_history h) room w).next ≡ drop room (objects_left (from_history h) w)
      by_room true t =
          let few : length (objects_left (from_history h) w) < room = ltb-true (length (objects_left (from_history h) w)) room t in
          none_on w.kind room (objects_left (from_history h) w) (fin.entries (selected (wanted w) (state_at h.changes (position_past (from_history h) room w)))) w.left (omega (arith, few)) (omega (arith, few))
          ∙ sym (drop_of_length-le (objects_left (from_history h) w) (omega (arith, few)))
      by_room false t =
          ap (λ p. entries_left w.kind (initial_left_after_count room (objects_left (from_history h) w) w.left) (fin.entries (selected (wanted w) (state_at h.changes p))))
          (stays_put (ltb-false (length (objects_left (from_history h) w)) room t))
          ∙ objects_after w.kind w.namespace w.requirements w.left (state_at h.changes w.position) room

  changes_next : changes_left (from_history h) (sending (from_history h) room w).next ≡ drop (room - length (objects_left (from_history h) w)) (changes_left (from_history h) w)
  changes_next = left_on (wanted w) h.changes w.position (room - length (objects_left (from_history h) w)) h.current (nat_lt (length (coming (from_history h) w)) room) is.rising fits

  left_next : coming (from_history h) (sending (from_history h) room w).next ≡ drop room (coming (from_history h) w)
  left_next =
      ap₂ (λ es xs. map added es ++ xs) objects_next changes_next
      ∙ ap₂ (λ es n. es ++ drop n (changes_left (from_history h) w)) (sym (drop-map added room (objects_left (from_history h) w))) (ap (λ n. room - n) (sym (length-map (objects_left (from_history h) w) added)))
      ∙ sym (drop-behind room (map added (objects_left (from_history h) w)) (changes_left (from_history h) w))

  passes_sent : seen_changes (wanted w) h.changes w.position (position_past (from_history h) room w) ≡ changes_sent (from_history h) room w
  passes_sent = passed_on (wanted w) h.changes w.position (room - length (objects_left (from_history h) w)) h.current (nat_lt (length (coming (from_history h) w)) room) is.rising fits

  rises : w.position ≤ position_past (from_history h) room w
  rises = rises_on (wanted w) h.changes w.position (room - length (objects_left (from_history h) w)) h.current (nat_lt (length (coming (from_history h) w)) room) is.rising

  -- what was sent last, or where it stood
  nothing_behind : seen_changes (wanted w) h.changes (reached w.position (changes_sent (from_history h) room w)) (position_past (from_history h) room w) ≡ []
  nothing_behind = behind_on (wanted w) h.changes w.position (room - length (objects_left (from_history h) w)) h.current (nat_lt (length (coming (from_history h) w)) room) is.rising fits

  telling_passes : SkipsNothing h w → SkipsNothing h (sending (from_history h) room w).next
  telling_passes before = by_sent (changes_sent (from_history h) room w) refl
    where
      by_sent : (xs : List SeenChange) → changes_sent (from_history h) room w ≡ xs → SkipsNothing h (sending (from_history h) room w).next
      by_sent [] none =
          let same : reached w.sent (changes_sent (from_history h) room w) ≡ w.sent = ap (reached w.sent) none in
          let low : w.sent ≤ w.position = before.behind in
          let up : w.position ≤ position_past (from_history h) room w = rises in
          let high : w.sent ≤ position_past (from_history h) room w = omega (arith, low, up) in
          record {
            behind = subst (λ t. t ≤ position_past (from_history h) room w) (sym same) high;
            none = λ some.
                ap (λ t. seen_changes (wanted w) h.changes t (position_past (from_history h) room w)) same
                ∙ seen_split (wanted w) h.changes w.sent w.position (position_past (from_history h) room w) h.current low up is.rising
                ∙ ap₂ (λ xs ys. xs ++ ys) (before.none (subst (λ t. 0 < t) same some)) (passes_sent ∙ none);
          }
      by_sent (x ∷ xs) some =
          let same : reached w.sent (changes_sent (from_history h) room w) ≡ reached w.position (changes_sent (from_history h) room w) = ap (reached w.sent) some ∙ sym (ap (reached w.position) some) in
          let up : reached w.position (changes_sent (from_history h) room w) ≤ position_past (from_history h) room w
          = stands_above h.current (reached w.position (changes_sent (from_history h) room w)) (nat_lt (length (coming (from_history h) w)) room) in
          record {
            behind = subst (λ t. t ≤ position_past (from_history h) room w) (sym same) up;
            none = λ _. ap (λ t. seen_changes (wanted w) h.changes t (position_past (from_history h) room w)) same ∙ nothing_behind;
          }

-- ---- the laws of a turn

pub sends : (h : History) (room : ℕ) (w : Cursor) → IsHistory h → h.compacted ≤ w.position → (pumped (from_history h) room w).lines ≡ map line_of (take room (coming (from_history h) w))
sends h room w is low = ap (λ (t : Turn). t.lines) (sent_low h room w low)

pub leads_on : (h : History) (room : ℕ) (w : Cursor) → IsHistory h → h.compacted ≤ w.position → coming (from_history h) (pumped (from_history h) room w).next ≡ drop room (coming (from_history h) w)
leads_on h room w is low = ap (λ (t : Turn). coming (from_history h) t.next) (sent_low h room w low) ∙ left_next h room w is

pub stays_low : (h : History) (room : ℕ) (w : Cursor) → IsHistory h → h.compacted ≤ w.position → h.compacted ≤ (pumped (from_history h) room w).next.position
stays_low h room w is low =
    let up : w.position ≤ position_past (from_history h) room w = rises h room w is in
    subst (λ (t : Turn). h.compacted ≤ t.next.position) (sym (sent_low h room w low)) (omega (arith, low, up))

pub sends_passed : (h : History) (room : ℕ) (w : Cursor) → IsHistory h → h.compacted ≤ w.position
    → seen_changes (wanted w) h.changes w.position (pumped (from_history h) room w).next.position ≡ changes_sent (from_history h) room w
sends_passed h room w is low = ap (λ (t : Turn). seen_changes (wanted w) h.changes w.position t.next.position) (sent_low h room w low) ∙ passes_sent h room w is

-- ---- turns

pub send_in_order : (h : History) (rooms : List ℕ) (w : Cursor) → IsHistory h → h.compacted ≤ w.position
    → lines_by (from_history h) rooms w ≡ map line_of (take (room_of rooms) (coming (from_history h) w))
send_in_order h [] w is low = refl
send_in_order h (room ∷ rooms) w is low =
    let all = coming (from_history h) w in
    let next = (pumped (from_history h) room w).next in
    ap₂ (λ xs ys. xs ++ ys) (sends h room w is low)
    (send_in_order h rooms next is (stays_low h room w is low) ∙ ap (λ xs. map line_of (take (room_of rooms) xs)) (leads_on h room w is low))
    ∙ sym (map-append line_of (take room all) (take (room_of rooms) (drop room all))) ∙ ap (map line_of) (sym (take-add room (room_of rooms) all))

pub left_in_order : (h : History) (rooms : List ℕ) (w : Cursor) → IsHistory h → h.compacted ≤ w.position
    → coming (from_history h) (after_turns (from_history h) rooms w) ≡ drop (room_of rooms) (coming (from_history h) w)
left_in_order h [] w is low = refl
left_in_order h (room ∷ rooms) w is low =
    left_in_order h rooms (pumped (from_history h) room w).next is (stays_low h room w is low)
    ∙ ap (drop (room_of rooms)) (leads_on h room w is low) ∙ sym (drop-add room (room_of rooms) (coming (from_history h) w))

-- ---- positions

pub begins_passing : (h : History) (from : WatchFrom) → IsHistory h → SkipsNothing h (first_cursor from)
begins_passing h from is = by_initial from.initial refl
  where
    by_initial : (i : InitialEvents) → from.initial ≡ i → SkipsNothing h (first_cursor from)
    by_initial Changes t =
        let same : sent_of from.initial from.position ≡ from.position = ap (λ i. sent_of i from.position) t in
        record {
          behind = subst (λ n. n ≤ from.position) (sym same) (omega arith);
          none = λ _. ap (λ n. seen_changes (wanted (first_cursor from)) h.changes n from.position) same ∙ none_between (wanted (first_cursor from)) h.changes from.position;
        }
    by_initial SomeObjects t =
        let same : sent_of from.initial from.position ≡ 0 = ap (λ i. sent_of i from.position) t in
        record { behind = subst (λ n. n ≤ from.position) (sym same) zero-le; none = λ some. absurd (omega (arith, some, same)) }
    by_initial NoneSelected t =
        let same : sent_of from.initial from.position ≡ 0 = ap (λ i. sent_of i from.position) t in
        record { behind = subst (λ n. n ≤ from.position) (sym same) zero-le; none = λ some. absurd (omega (arith, some, same)) }

pub pumped_passes : (h : History) (room : ℕ) (w : Cursor) → IsHistory h → SkipsNothing h w → SkipsNothing h (pumped (from_history h) room w).next
pumped_passes h room w is before = by_low (nat_lt w.position h.compacted)
  where
    by_low : (b : Bool) → SkipsNothing h (cond b (expiring (from_history h) w) (sending (from_history h) room w)).next
    by_low true = before
    by_low false = telling_passes h room w is before

abbrev marked_line : List ℕ → List ℕ → Cursor → BookmarkTurn
marked_line api_version kind w = record { line = Some (bookmark_line api_version kind w.position); next = moved w w.position w.position w.left }

abbrev unmarked : Cursor → BookmarkTurn
unmarked w = record { line = None; next = w }

pub marked_passes : (h : History) (api_version kind : List ℕ) (w : Cursor) → IsHistory h → SkipsNothing h w → SkipsNothing h (bookmarked api_version kind w).next
marked_passes h api_version kind w is before = by_due (is_bookmark_due w)
  where
    by_due : (b : Bool) → SkipsNothing h (cond b (marked_line api_version kind w) (unmarked w)).next
    by_due true = record { behind = omega arith; none = λ _. none_between (wanted w) h.changes w.position }
    by_due false = before

below_passes : (h : History) (k : Key) (body : Option (List ℕ)) (w : Cursor) → w.position ≤ h.current → SkipsNothing h w → SkipsNothing (written h k body) w
below_passes h k body w high before =
    let low : w.sent ≤ w.position = before.behind in
    let above : w.position < suc h.current = omega (arith, high) in
    let beyond : w.sent < suc h.current = omega (arith, high, low) in
    record {
      behind = before.behind;
      none = λ some. seen_changes-push (wanted w) h.changes (record { revision = suc h.current; key = k; body = body }) w.sent w.position beyond above ∙ before.none some;
    }

-- between a revision and itself nothing stands, whatever is written
level_passes : (h : History) (w : Cursor) → w.sent ≡ w.position → SkipsNothing h w
level_passes h w level = record {
  behind = subst (λ t. t ≤ w.position) (sym level) (omega arith);
  none = λ _. ap (λ t. seen_changes (wanted w) h.changes t w.position) level ∙ none_between (wanted w) h.changes w.position;
}

pub written_passes : (h : History) (k : Key) (body : Option (List ℕ)) (w : Cursor) → (w.position ≤ h.current) ⊎ (w.sent ≡ w.position) → SkipsNothing h w → SkipsNothing (written h k body) w
written_passes h k body w (inl high) before = below_passes h k body w high before
written_passes h k body w (inr level) before = level_passes (written h k body) w level
