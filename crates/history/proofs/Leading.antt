-- Lists page by page, and rows a few at a time.
use Rattle.std.proofs.Common.{◌≡◌, ℕ, zero, suc, ◌<◌, Bool, true, false, cond, T, ◌&&◌, ◌==◌, List, [], ◌∷◌, ◌++◌, length, take, drop, refl, sym, ap, subst, ◌∙◌, Option, Some, None, arith, Less, is_lt, true≢false, filter}
use Rattle.std.proofs.Common.{take-append-drop, append-nil, eqb-true}
use Rattle.std.specs.List.{AllByRecursion}
use Rattle.std.specs.FinMap as fin
use Rattle.std.specs.FinMap.{is_sorted}
use Rattle.std.specs.FinMap.Entries.{below_all}
use Rattle.history.specs.History.{Key, Objects, key_cmp}
use Rattle.history.specs.Page.{is_in_namespace, is_past, is_within, listed, page}
use Rattle.history.specs.Seen.{IsLimit, Selection, seen_page, selected, IsPrefix, last_key, past}
use Rattle.history.proofs.Keys.{key_cmp_total}
use Rattle.history.proofs.Lists.{filter_both, filter_like}
use Rattle.history.proofs.Selecting.{Entries, both, fst, snd, is_sorted-filter}
use Rattle.history.proofs.Paging.{all_pages, first_page, less_is, next_page, past-prefix, past_of_kind}

-- ---- lists

pub first : (wanted : Selection) (limit : Option ℕ) (s : Objects) → IsLimit limit → IsPrefix (fin.entries (selected wanted s)) (seen_page wanted None limit s).found (seen_page wanted None limit s).next
first wanted None s h = record { rest = []; is = sym (append-nil (fin.entries (selected wanted s))); left = refl }
first wanted (Some limit) s h = first_page limit (selected wanted s) h

pub next : (wanted : Selection) (limit : Option ℕ) (s : Objects) (prefix : Entries) (k : Key) → IsLimit limit → IsPrefix (fin.entries (selected wanted s)) prefix (Some k)
    → IsPrefix (fin.entries (selected wanted s)) (prefix ++ (seen_page wanted (Some k) limit s).found) (seen_page wanted (Some k) limit s).next
next wanted None s prefix k h is =
    let all : Entries = fin.entries (selected wanted s) in
    record { rest = []; is = is.is ∙ ap (λ xs. prefix ++ xs) (sym is.left) ∙ sym (append-nil (prefix ++ past k all)); left = refl }
next wanted (Some limit) s prefix k h is = next_page limit (selected wanted s) prefix k h is

pub whole : (wanted : Selection) (s : Objects) (all : Entries) → IsPrefix (fin.entries (selected wanted s)) all None → all ≡ fin.entries (selected wanted s)
whole wanted s all is = sym (all_pages (selected wanted s) all is)

below-prefix : (x : Key) (prefix rest : Entries) → T (below_all key_cmp x (prefix ++ rest)) → T (below_all key_cmp x prefix)
below-prefix x [] rest h = tt
below-prefix x (e ∷ prefix) rest h = both _ _ (fst _ _ h) (below-prefix x prefix rest (snd _ _ h))

sorted-prefix : (prefix rest : Entries) → T (is_sorted key_cmp (prefix ++ rest)) → T (is_sorted key_cmp prefix)
sorted-prefix [] rest h = tt
sorted-prefix (e ∷ prefix) rest h = both _ _ (below-prefix e.0 prefix rest (fst _ _ h)) (sorted-prefix prefix rest (snd _ _ h))

pub rising : (wanted : Selection) (s : Objects) (prefix : Entries) (next : Option Key) → IsPrefix (fin.entries (selected wanted s)) prefix next → T (is_sorted key_cmp prefix)
rising wanted s prefix next is = sorted-prefix prefix is.rest (subst (λ es. T (is_sorted key_cmp es)) is.is (fin.entries_sorted (selected wanted s)))

-- ---- rows

-- fewer than asked for are all
all_taken : (max : ℕ) (es : Entries) → length (take max es) < max → es ≡ take max es
all_taken zero es h = absurd (omega arith)
all_taken (suc n) [] h = refl
all_taken (suc n) (e ∷ es) h = ap (λ l. e ∷ l) (all_taken n es (omega (arith, h)))

pub ended : (kind : ℕ) (namespace : Option (List ℕ)) (after : Option (List ℕ × List ℕ)) (max : ℕ) (s : Objects)
    → length (page kind namespace after max s) < max → listed kind namespace after s ≡ page kind namespace after max s
ended kind namespace after max s h = all_taken max (listed kind namespace after s) h

-- each key passes a test
abbrev Pass : (Key → Bool) → Entries → Type 0
Pass p es = AllByRecursion (λ e. p e.0 ≡ true) es

pass-filter : (p : Key → Bool) (es : Entries) → Pass p (filter (λ e. p e.0) es)
pass-filter p [] = tt
pass-filter p (e ∷ es) = go (p e.0) refl (pass-filter p es)
  where
    go : (b : Bool) → p e.0 ≡ b → Pass p (filter (λ e. p e.0) es) → Pass p (cond b (e ∷ filter (λ e. p e.0) es) (filter (λ e. p e.0) es))
    go true t others = (t, others)
    go false t others = others

pass-take : (p : Key → Bool) (n : ℕ) (es : Entries) → Pass p es → Pass p (take n es)
pass-take p zero es h = tt
pass-take p (suc n) [] h = tt
pass-take p (suc n) (e ∷ es) h = (h.0, pass-take p n es h.1)

pass-last : (p : Key → Bool) (k : Key) (es : Entries) → Pass p es → last_key es ≡ Some k → p k ≡ true
pass-last p k [] h is = absurd cc
pass-last p k (e ∷ []) h is = let same : e.0 ≡ k = cc in subst (λ q. p q ≡ true) same h.0
pass-last p k (e ∷ f ∷ es) h is = pass-last p k (f ∷ es) h.1 is

-- where the second holds the first does
either : (a b : Bool) → (b ≡ true → a ≡ true) → (a && b) ≡ b
either a true h = ap (λ c. c && true) (h refl)
either true false h = refl
either false false h = refl

abbrev Place : Type 0
Place = List ℕ × List ℕ

-- after a place and then after a key there is after the key
later_past : (after : Option Place) (k q : Key) → q.kind ≡ k.kind → is_past after k ≡ true → is_lt (key_cmp k q) ≡ true → is_past after q ≡ true
later_past None k q same is lt = refl
later_past (Some a) k q same is lt =
    let place : Key = record { kind = k.kind; namespace = a.0; name = a.1 } in
    let below : key_cmp place k ≡ Less = less_is _ (subst T (sym (sym (past_of_kind place k refl) ∙ is)) tt) in
    let above : key_cmp k q ≡ Less = less_is _ (subst T (sym lt) tt) in
    past_of_kind place q same ∙ ap is_lt (key_cmp_total.trans place k q below above)

both_true : (a b : Bool) → (a && b) ≡ true → (a ≡ true) × (b ≡ true)
both_true true true h = (refl, refl)
both_true true false h = absurd (true≢false (sym h))
both_true false b h = absurd (true≢false (sym h))

module _ (kind : ℕ) (ns : Option (List ℕ)) (after : Option Place) (k : Key) (there : (is_within kind ns k && is_past after k) ≡ true) where
  of_kind : (q : Key) → is_within kind ns q ≡ true → q.kind ≡ kind
  of_kind q h = eqb-true q.kind kind (both_true (q.kind == kind) (is_in_namespace ns q) h).0

  one_more : (q : Key) → ((is_within kind ns q && is_past after q) && is_lt (key_cmp k q)) ≡ (is_within kind ns q && is_past (Some (k.namespace, k.name)) q)
  one_more q = go (is_within kind ns q) refl
    where
      go : (w : Bool) → is_within kind ns q ≡ w → ((w && is_past after q) && is_lt (key_cmp k q)) ≡ (w && is_past (Some (k.namespace, k.name)) q)
      go false t = refl
      go true t =
          let there_too = both_true (is_within kind ns k) (is_past after k) there in
          let same : q.kind ≡ k.kind = of_kind q t ∙ sym (of_kind k there_too.0) in
          either (is_past after q) (is_lt (key_cmp k q)) (later_past after k q same there_too.1) ∙ sym (past_of_kind k q same)

  past_listed : (s : Objects) → past k (listed kind ns after s) ≡ listed kind ns (Some (k.namespace, k.name)) s
  past_listed s = filter_both (λ e. is_lt (key_cmp k e.0)) (λ e. is_within kind ns e.0 && is_past after e.0) (fin.entries s) ∙ filter_like _ _ (λ e. one_more e.0) (fin.entries s)

pub more : (kind : ℕ) (namespace : Option (List ℕ)) (after : Option Place) (max : ℕ) (s : Objects) (k : Key) → last_key (page kind namespace after max s) ≡ Some k
    → listed kind namespace after s ≡ page kind namespace after max s ++ listed kind namespace (Some (k.namespace, k.name)) s
more kind ns after max s k is =
    let passes : Key → Bool = λ q. is_within kind ns q && is_past after q in
    let rows : Entries = listed kind ns after s in
    let whole : rows ≡ take max rows ++ drop max rows = sym (take-append-drop max rows) in
    let sorted : T (is_sorted key_cmp rows) = is_sorted-filter _ (fin.entries s) (fin.entries_sorted s) in
    let rest : past k rows ≡ drop max rows = ap (past k) whole ∙ past-prefix k (take max rows) (drop max rows) (subst (λ l. T (is_sorted key_cmp l)) whole sorted) is in
    let there : passes k ≡ true = pass-last passes k (take max rows) (pass-take passes max rows (pass-filter passes (fin.entries s))) is in
    whole ∙ ap (λ l. take max rows ++ l) (sym rest ∙ past_listed kind ns after k there s)
