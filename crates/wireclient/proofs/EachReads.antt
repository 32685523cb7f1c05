-- Bytes hold items, where of each prefix of them it is said what it is as a head.
use Rattle.std.proofs.Common.{◌≡◌, ◌∙◌, ◌⊎◌, inl, inr, ◌<◌, ◌≤◌, ◌+◌, ℕ, zero, suc, Bool, true, false, cond, List, [], ◌∷◌, ◌++◌, length, take, Option, Some, None, refl, sym, ap, subst, append_assoc, arith}
use Rattle.std.specs.Char.{digit_value, is_ascii_hexdigit}
use Rattle.std.specs.Prelude.{◌==◌, ◌&&◌, ◌-◌, nat_le, nat_lt}
use Rattle.std.proofs.lemmas.Bool.{cases_lt}
use Rattle.wire.specs.declared.place.ScanState.{ScanState}
use Rattle.wire.specs.Heads.{max_head, place_after}
use Rattle.wireclient.specs.Reads.{Checked, CheckedAt, CheckedWhereEnded, Items, Reaches, start}
use Rattle.wireclient.specs.Reply.{HeadCheck, Next, State, ReplyItem, begun, body, broken, by_chunks, by_length, data_after, data_cr, data_in, data_lf, digit_onto, end, ended, fails, goes_to, head, headed, heading, last_cr, last_lf, line, max_line, size, size_lf, step, whole}

abbrev pub AreChecked : List ℕ → List ℕ → Type 0
AreChecked prefix bytes = (n : ℕ) → n < length bytes → (j : HeadCheck) × Checked (prefix ++ take (suc n) bytes) j

-- what is needed to read these bytes from a state on
abbrev IsReady : List ℕ → State → Type 0
IsReady bytes (heading prefix p) = AreChecked prefix bytes
IsReady bytes _ = Unit {0}

either : (bytes : List ℕ) (c : Bool) (x y : Next) → IsReady bytes x.0 → IsReady bytes y.0 → IsReady bytes (cond c x y).0
either bytes true x y a b = a
either bytes false x y a b = b

one_of : (bytes : List ℕ) (c : Bool) (x y : State) → IsReady bytes x → IsReady bytes y → IsReady bytes (cond c x y)
one_of bytes true x y a b = a
one_of bytes false x y a b = b

begun_ready : (bytes : List ℕ) (j : HeadCheck) → IsReady bytes (begun j).0
begun_ready bytes None = tt
begun_ready bytes (Some (status, by_length n)) = either bytes (n == 0) (ended, head status ∷ whole [] ∷ end ∷ []) (body n [], head status ∷ []) tt tt
begun_ready bytes (Some (status, by_chunks)) = tt

headed_ready : (bytes prefix : List ℕ) (j : HeadCheck) (o : Option ScanState) → AreChecked prefix bytes → IsReady bytes (headed j prefix o).0
headed_ready bytes prefix j None checked = begun_ready bytes j
headed_ready bytes prefix j (Some p) checked = checked

later : (prefix : List ℕ) (b : ℕ) (bytes : List ℕ) → AreChecked prefix (b ∷ bytes) → AreChecked (prefix ++ b ∷ []) bytes
later prefix b bytes checked n within =
    let one = checked (suc n) (omega (arith, within)) in
    (one.0, subst (λ xs. Checked xs one.0) (sym (append_assoc prefix (b ∷ []) (take (suc n) bytes))) one.1)

checked_at : (c : Bool) (bytes : List ℕ) (o : Option ScanState) (j : HeadCheck) → Checked bytes j → CheckedWhereEnded c bytes o j
checked_at true bytes o j is = tt
checked_at false bytes (Some p) j is = tt
checked_at false bytes None j is = is

-- they lead somewhere
abbrev ReachesFrom : State → List ℕ → Type 0
ReachesFrom s bytes = (t : State) × (items : List ReplyItem) × Reaches s bytes t items

onto : (s : State) (b : ℕ) (bytes : List ℕ) (j : HeadCheck) → CheckedAt s b j → ReachesFrom (step j s b).0 bytes → ReachesFrom s (b ∷ bytes)
onto s b bytes j at (t, rest, reaches) = (t, (step j s b).1 ++ rest, (j, rest, at, reaches, refl))

reads : (bytes : List ℕ) (s : State) → IsReady bytes s → ReachesFrom s bytes
reads [] s ready = (s, [], (refl, refl))
reads (b ∷ bytes) (heading prefix p) ready =
    let one = ready zero (omega arith) in
    onto (heading prefix p) b bytes one.0 (checked_at (nat_le max_head (length prefix)) (prefix ++ b ∷ []) (place_after p b) one.0 one.1)
    (reads bytes _ (either bytes (nat_le max_head (length prefix)) fails (headed one.0 (prefix ++ b ∷ []) (place_after p b)) tt (headed_ready bytes (prefix ++ b ∷ []) one.0 (place_after p b) (later prefix b bytes ready))))
reads (b ∷ bytes) (body left text) ready = onto (body left text) b bytes None tt (reads bytes _ (either bytes (nat_le left 1) (ended, whole (text ++ b ∷ []) ∷ end ∷ []) (goes_to (body (left - 1) (text ++ b ∷ []))) tt tt))
reads (b ∷ bytes) (size count value text) ready =
    let more = goes_to (size (count + 1) (digit_onto value (digit_value b)) text) in
    let over = goes_to (size_lf value text) in
    onto (size count value text) b bytes None tt
    (reads bytes _ (either bytes (is_ascii_hexdigit b && nat_lt count 16) more (cond (b == 13 && nat_lt 0 count) over fails) tt (either bytes (b == 13 && nat_lt 0 count) over fails tt tt)))
reads (b ∷ bytes) (size_lf value text) ready = onto (size_lf value text) b bytes None tt (reads bytes _ (either bytes (b == 10) (goes_to (cond (value == 0) (last_cr text) (data_in value text))) fails (one_of bytes (value == 0) (last_cr text) (data_in value text) tt tt) tt))
reads (b ∷ bytes) (data_in left text) ready =
    let whole_line : Next = (data_after (left - 1) [], line text ∷ []) in
    let more : Next = goes_to (data_after (left - 1) (text ++ b ∷ [])) in
    onto (data_in left text) b bytes None tt
    (reads bytes _ (either bytes (nat_le max_line (length text)) fails (cond (b == 10) whole_line more) tt (either bytes (b == 10) whole_line more (one_of bytes (left - 1 == 0) (data_cr []) (data_in (left - 1) []) tt tt)
    (one_of bytes (left - 1 == 0) (data_cr (text ++ b ∷ [])) (data_in (left - 1) (text ++ b ∷ [])) tt tt))))
reads (b ∷ bytes) (data_cr text) ready = onto (data_cr text) b bytes None tt (reads bytes _ (either bytes (b == 13) (goes_to (data_lf text)) fails tt tt))
reads (b ∷ bytes) (data_lf text) ready = onto (data_lf text) b bytes None tt (reads bytes _ (either bytes (b == 10) (goes_to (size 0 0 text)) fails tt tt))
reads (b ∷ bytes) (last_cr text) ready = onto (last_cr text) b bytes None tt (reads bytes _ (either bytes (b == 13) (goes_to (last_lf text)) fails tt tt))
reads (b ∷ bytes) (last_lf text) ready = onto (last_lf text) b bytes None tt (reads bytes _ (either bytes (b == 10 && length text == 0) (ended, end ∷ []) fails tt tt))
reads (b ∷ bytes) ended ready = onto ended b bytes None tt (reads bytes ended tt)
reads (b ∷ bytes) broken ready = onto broken b bytes None tt (reads bytes broken tt)

pub items_there : (bytes : List ℕ) → AreChecked [] bytes → (items : List ReplyItem) × Items bytes items
items_there bytes checked = let all = reads bytes start checked in (all.1, (all.0, all.2))

-- a prefix that is one byte longer is checked, too
pub one_more : (bytes prefix : List ℕ) (i next : ℕ) (j : HeadCheck) → next ≡ i + 1 → prefix ≡ take next bytes → Checked prefix j → ((n : ℕ) → n < i → (j : HeadCheck) × Checked (take (suc n) bytes) j) → (n : ℕ) → n < next
    → (j : HeadCheck) × Checked (take (suc n) bytes) j
one_more bytes prefix i next j is_next is_prefix checked before n low = by_place (cases_lt n i)
  where
    by_place : (n < i) ⊎ (i ≤ n) → (j : HeadCheck) × Checked (take (suc n) bytes) j
    by_place (inl below) = before n below
    by_place (inr above) = let same : next ≡ suc n = omega (arith, is_next, low, above) in (j, subst (λ xs. Checked xs j) (is_prefix ∙ ap (λ m. take m bytes) same) checked)
