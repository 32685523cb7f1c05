-- Rows, a few at a time, and the page that they make.
use Rattle.std.proofs.Common.{◌≡◌, ℕ, zero, suc, ◌+◌, ◌-◌, ◌<◌, ◌≤◌, Bool, true, false, cond, List, [], ◌∷◌, ◌++◌, length, take, map, min, ◌==◌, refl, sym, ap, subst, ◌∙◌, Option, Some, None, Ok, Err, Result, IfOk, option_map, arith, append_assoc, append-nil, length-append}
use Rattle.std.proofs.Common.{le-ltb, ltb-false, ltb-true, lt-ltb, true≢false}
use Rattle.std.specs.Prelude.{nat_lt, slice_get}
use Rattle.std.proofs.lemmas.List.{length-map, length-take, map-append, take-map}
use Rattle.std.proofs.lemmas.List.Elements.{filter-append}
use Rattle.history.specs.History.{Key, Object, Objects, last_revision}
use Rattle.history.specs.Read.{entry_of, key_of}
use Rattle.history.specs.Page.{listed, page}
use Rattle.history.specs.Seen.{SeenPage, limited, seen_page, last_key}
use Rattle.history.proofs.Leading.{ended, more}
use Rattle.history.proofs.Lists.{filter_like}
use Rattle.history.proofs.Paging.{wanted_first, wanted_past}
use Rattle.history.specs.declared.object.Entry.{Entry}
use Rattle.revtable.specs.Kept.{kept_among}
use Rattle.selector.specs.Fields.{LabelsDecide}
use Rattle.selector.specs.Requirement.{Requirement, selects}
use Rattle.params.specs.Values.{Token}
use Rattle.lists.specs.Labels.{attributes_of, labels_of, selection_of}
use Rattle.lists.specs.Lists.{key_after, max_page, page_limit}
use Rattle.lists.specs.Rows.{Start, asked_for, is_over, matching, place_of, rows_left, to_read}

abbrev pub Entries : Type 0
Entries = List (Key × Object)

-- ---- the last key

abbrev pub keyed : Option Entry → Option Key
keyed = option_map (λ e. key_of e.key)

pub last_slot : (xs : List Entry) → keyed (slice_get xs (length xs - 1)) ≡ last_key (map entry_of xs)
last_slot [] = refl
last_slot (x ∷ []) = refl
last_slot (x ∷ y ∷ ys) =
    let n : length (x ∷ y ∷ ys) - 1 ≡ suc (length (y ∷ ys) - 1) = omega arith in
    ap (λ i. keyed (slice_get (x ∷ y ∷ ys) i)) n ∙ last_slot (y ∷ ys)

-- ---- what is read, and what is left

module _ (kind : ℕ) (namespace : Option (List ℕ)) (s : Objects) (start : Start) (max : ℕ) (rows : Entries) (is : rows ≡ page kind namespace start max s) where
  -- fewer than asked for are the last
  pub ends_here : length rows < max → listed kind namespace start s ≡ rows ++ rows_left kind namespace s None
  ends_here few = ended kind namespace start max s (subst (λ xs. length xs < max) is few) ∙ sym is ∙ sym (append-nil rows)

  pub ends_lower : to_read kind namespace s None < to_read kind namespace s (Some start)
  ends_lower = omega arith

  module _ (k : Key) (last : last_key rows ≡ Some k) where
    goes_on : listed kind namespace start s ≡ rows ++ rows_left kind namespace s (Some (place_of k))
    goes_on = more kind namespace start max s k (ap last_key (sym is) ∙ last) ∙ ap (λ xs. xs ++ listed kind namespace (place_of k) s) (sym is)

    not_none : (xs : Entries) → last_key xs ≡ Some k → 0 < length xs
    not_none [] h = absurd cc
    not_none (x ∷ xs) h = omega arith

    goes_lower : to_read kind namespace s (Some (place_of k)) < to_read kind namespace s (Some start)
    goes_lower =
        let some : 0 < length rows = not_none rows last in
        let whole : length (listed kind namespace start s) ≡ length rows + length (listed kind namespace (place_of k) s) = ap length goes_on ∙ length-append rows (listed kind namespace (place_of k) s) in
        omega arith

  none_last : (xs : Entries) → last_key xs ≡ None → xs ≡ []
  none_last [] h = refl
  none_last (x ∷ []) h = absurd cc
  none_last (x ∷ y ∷ xs) h = let none : (y ∷ xs) ≡ [] = none_last (y ∷ xs) h in absurd cc

  module _ (some : 0 < max) (enough : max ≤ length rows) (next : Option Start) (after : next ≡ option_map place_of (last_key rows)) where
    nothing_here : last_key rows ≡ None → Unit {0} → max ≤ 0
    nothing_here h u = let none : length rows ≡ 0 = ap length (none_last rows h) in omega arith

    pub reaches_on : listed kind namespace start s ≡ rows ++ rows_left kind namespace s next
    reaches_on = go (last_key rows) refl
      where
        go : (o : Option Key) → last_key rows ≡ o → listed kind namespace start s ≡ rows ++ rows_left kind namespace s next
        go None h = absurd (let no : max ≤ 0 = nothing_here h tt in omega arith)
        go (Some k) h = goes_on k h ∙ ap (λ o. rows ++ rows_left kind namespace s o) (sym (after ∙ ap (option_map place_of) h))

    pub reaches_lower : to_read kind namespace s next < to_read kind namespace s (Some start)
    reaches_lower = go (last_key rows) refl
      where
        go : (o : Option Key) → last_key rows ≡ o → to_read kind namespace s next < to_read kind namespace s (Some start)
        go None h = absurd (let no : max ≤ 0 = nothing_here h tt in omega arith)
        go (Some k) h = subst (λ o. to_read kind namespace s o < to_read kind namespace s (Some start)) (sym (after ∙ ap (option_map place_of) h)) (goes_lower k h)

-- ---- those that match

pub matched_more : (requirements : List Requirement) (whole found new rows rest : Entries) (e : Key × Object) → found ++ matching requirements rows ≡ whole → rows ≡ e ∷ rest
    → new ≡ found ++ matching requirements (e ∷ []) → new ++ matching requirements rest ≡ whole
matched_more requirements whole found new rows rest e so_far is more =
    ap (λ xs. xs ++ matching requirements rest) more ∙ append_assoc found (matching requirements (e ∷ [])) (matching requirements rest)
    ∙ ap (λ xs. found ++ xs) (sym (filter-append (λ e. selects requirements (attributes_of e.0 e.1.body)) (e ∷ []) rest) ∙ ap (matching requirements) (sym is)) ∙ so_far

pub pushed_if : (b : Bool) (row : Entry) (found : List Entry) → b ≡ true → map entry_of (found ++ row ∷ []) ≡ map entry_of found ++ cond b (entry_of row ∷ []) []
pushed_if b row found is = rw is (map-append entry_of found (row ∷ []))

pub not_pushed : (b : Bool) (row : Entry) (found : List Entry) → b ≡ false → map entry_of found ≡ map entry_of found ++ cond b (entry_of row ∷ []) []
not_pushed b row found is = rw is (sym (append-nil (map entry_of found)))

-- where the labels decide, those that are kept by them
pub by_labels : (requirements : List Requirement) → LabelsDecide requirements → (es : Entries) → kept_among (λ text. selects requirements (labels_of text)) es ≡ matching requirements es
by_labels requirements decide es =
    filter_like (λ e. selects requirements (labels_of e.1.body)) (λ e. selects requirements (attributes_of e.0 e.1.body)) (λ e. sym (decide (Some e.0.name) (labels_of e.1.body))) es

pub both_ok : {A E : Type 0} (r : Result A E) (P Q : A → Type 0) (L : Type 0) → IfOk r P → (L → IfOk r Q) → IfOk r (λ v. P v × (L → Q v))
both_ok (Ok v) P Q L p q = (p, q)
both_ok (Err e) P Q L p q = tt

-- ---- as far as the loop has come

abbrev pub IsFoundSoFar : List Requirement → Entries → Entries → Entries → Type 0
IsFoundSoFar requirements all found left = matching requirements all ≡ found ++ matching requirements left

pub found_more : (requirements : List Requirement) (all found left rows rest new : Entries) → IsFoundSoFar requirements all found left → left ≡ rows ++ rest
    → new ≡ found ++ matching requirements rows → IsFoundSoFar requirements all new rest
found_more requirements all found left rows rest new so_far reads is =
    so_far ∙ ap (λ xs. found ++ matching requirements xs) reads ∙ ap (λ xs. found ++ xs) (filter-append (λ e. selects requirements (attributes_of e.0 e.1.body)) rows rest)
    ∙ sym (append_assoc found (matching requirements rows) (matching requirements rest)) ∙ ap (λ xs. xs ++ matching requirements rest) (sym is)

pub found_all : (limit : Option ℕ) (requirements : List Requirement) (all found left : Entries) → IsFoundSoFar requirements all found left → left ≡ [] → limited limit found ≡ limited limit (matching requirements all)
found_all limit requirements all found left so_far none = ap (limited limit) (sym (so_far ∙ ap (λ xs. found ++ matching requirements xs) none ∙ append-nil found))

record_of : (a b : Entries) (t u : Bool) → a ≡ b → t ≡ u → (let p : SeenPage = record { found = a; next = cond t (last_key a) None } in p) ≡ record { found = b; next = cond u (last_key b) None }
record_of a b t u same alike = rw (same, alike) refl

-- more than a page holds is enough
longer : (n : ℕ) (found rest : Entries) → n < length found → take n (found ++ rest) ≡ take n found
longer zero found rest lt = refl
longer (suc n) [] rest lt = absurd (omega arith)
longer (suc n) (x ∷ found) rest lt = ap (λ xs. x ∷ xs) (longer n found rest (omega (arith, lt)))

pub enough_found : (limit : Option ℕ) (found rest : Entries) (n : ℕ) → n ≡ length found → is_over limit n ≡ true → limited limit found ≡ limited limit (found ++ rest)
enough_found None found rest n len over = absurd (true≢false (sym over))
enough_found (Some limit) found rest n len over =
    let short : limit < length found = subst (λ m. limit < m) len (ltb-true limit n over) in
    let long : limit < length (found ++ rest) = subst (λ m. limit < m) (sym (length-append found rest)) (omega arith) in
    record_of (take limit found) (take limit (found ++ rest)) (nat_lt limit (length found)) (nat_lt limit (length (found ++ rest))) (sym (longer limit found rest short))
    (lt-ltb limit (length found) short ∙ sym (lt-ltb limit (length (found ++ rest)) long))

-- ---- the page

pub cut_at : (limit : ℕ) (xs left : List Entry) (n : ℕ) → left ≡ take limit xs → n ≡ length xs
    → (let p : SeenPage = record { found = map entry_of left; next = cond (nat_lt limit n) (last_key (map entry_of left)) None } in p) ≡ limited (Some limit) (map entry_of xs)
cut_at limit xs left n is len = rw (is, len) (same (map entry_of (take limit xs)) (take limit (map entry_of xs)) (length xs) (length (map entry_of xs)) (sym (take-map entry_of limit xs)) (sym (length-map xs entry_of)))
  where
    same : (a b : Entries) (m n : ℕ) → a ≡ b → m ≡ n → (let p : SeenPage = record { found = a; next = cond (nat_lt limit m) (last_key a) None } in p) ≡ record { found = b; next = cond (nat_lt limit n) (last_key b) None }
    same a b m n alike len = rw (alike, len) refl

-- one more than a page has room for is enough
one_more : (n : ℕ) (all : Entries) → limited (Some n) (take (suc n) all) ≡ limited (Some n) all
one_more n all = record_of (take n (take (suc n) all)) (take n all) (nat_lt n (length (take (suc n) all))) (nat_lt n (length all)) (shorter n all) (over_same n (length all) (length (take (suc n) all)) (length-take (suc n) all))
  where
    shorter : (n : ℕ) (all : Entries) → take n (take (suc n) all) ≡ take n all
    shorter zero all = refl
    shorter (suc n) [] = refl
    shorter (suc n) (x ∷ all) = ap (λ xs. x ∷ xs) (shorter n all)

    over_same : (n m k : ℕ) → k ≡ min (suc n) m → nat_lt n k ≡ nat_lt n m
    over_same n m k is = go (nat_lt n m) refl
      where
        go : (b : Bool) → nat_lt n m ≡ b → nat_lt n k ≡ b
        go true e = let more : n < m = ltb-true n m e in lt-ltb n k (omega (arith, is, more))
        go false e = let few : m ≤ n = ltb-false n m e in le-ltb n k (omega (arith, is, few))

pub enough_asked : (limit : ℕ) (found all : Entries) → found ≡ take (asked_for limit) all → (last_revision ≤ asked_for limit → found ≡ all) → limited (page_limit limit) found ≡ limited (page_limit limit) all
enough_asked limit found all first whole = go (limit == 0) first whole
  where
    go : (b : Bool) → found ≡ take (cond b last_revision (min limit max_page + 1)) all → (last_revision ≤ cond b last_revision (min limit max_page + 1) → found ≡ all)
        → limited (cond b None (Some (min limit max_page))) found ≡ limited (cond b None (Some (min limit max_page))) all
    go true first whole = ap (limited None) (whole (omega arith))
    go false first whole =
        let next : min limit max_page + 1 ≡ suc (min limit max_page) = omega arith in
        ap (limited (Some (min limit max_page))) (first ∙ ap (λ n. take n all) next) ∙ one_more (min limit max_page) all

abbrev pub place_after : Token → List ℕ × List ℕ
place_after t = (t.namespace, t.name)

-- the rows that match, from after the token's object on, are what the selection sees after its key
pub seen_rows : (kind : ℕ) (namespace : Option (List ℕ)) (requirements : List Requirement) (token : Option Token) (limit : Option ℕ) (s : Objects)
    → limited limit (matching requirements (listed kind namespace (option_map place_after token) s)) ≡ seen_page (selection_of kind namespace requirements) (option_map (key_after kind) token) limit s
seen_rows kind namespace requirements None limit s = ap (limited limit) (wanted_first kind namespace (λ k body. selects requirements (attributes_of k body)) s)
seen_rows kind namespace requirements (Some token) limit s = ap (limited limit) (wanted_past namespace (key_after kind token) (λ k body. selects requirements (attributes_of k body)) s)
