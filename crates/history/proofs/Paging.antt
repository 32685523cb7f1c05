-- Pages of one revision, put together.
use Rattle.std.proofs.Common.{◌≡◌, ℕ, zero, suc, ◌<◌, Bool, true, false, cond, T, ◌&&◌, List, [], ◌∷◌, ◌++◌, length, take, drop, refl, sym, ap, subst, ◌∙◌, Option, Some, None, arith, append_assoc, append-nil, Ordering, Less, Equal, Greater, is_lt, filter}
use Rattle.std.proofs.Common.{ltb-true, ltb-false, take-append-drop, drop_of_length-le, eqb-true}
use Rattle.std.specs.Ordering.{nat_cmp, is_gt, ordering_reverse, ordering_then}
use Rattle.std.specs.Cmp.{nat_cmp_total, tied_itself}
use Rattle.std.specs.Prelude.{nat_lt, ◌==◌}
use Rattle.std.specs.FinMap as fin
use Rattle.std.specs.FinMap.{is_sorted}
use Rattle.std.specs.FinMap.Entries.{below_all}
use Rattle.history.specs.History.{Key, Object, Objects, key_cmp, text_cmp}
use Rattle.history.specs.Page.{is_in_namespace, is_past, is_within, listed}
use Rattle.history.specs.Seen.{Selection, selected, IsPrefix, LeftBy, last_key, next_of, past}
use Rattle.history.proofs.Keys.{key_cmp_total}
use Rattle.history.proofs.Lists.{filter_both, filter_like, filter_turned}
use Rattle.history.proofs.Selecting.{Entries, fst, snd, entries-selected}

pub less_is : (r : Ordering) → T (is_lt r) → r ≡ Less
less_is Less h = refl
less_is Equal h = absurd h
less_is Greater h = absurd h

past-below : (x : Key) (es : Entries) → T (below_all key_cmp x es) → past x es ≡ es
past-below x [] h = refl
past-below x (e ∷ es) h =
    ap (λ r. cond (is_lt r) (e ∷ past x es) (past x es)) (less_is (key_cmp x e.0) (fst _ _ h)) ∙ ap (λ ds. e ∷ ds) (past-below x es (snd _ _ h))

-- what is below all of a prefix is below its last key
last_above : (x k : Key) (prefix rest : Entries) → last_key prefix ≡ Some k → T (below_all key_cmp x (prefix ++ rest)) → T (is_lt (key_cmp x k))
last_above x k [] rest is h = absurd cc
last_above x k (e ∷ []) rest is h = let same : e.0 ≡ k = cc in subst (λ q. T (is_lt (key_cmp x q))) same (fst _ _ h)
last_above x k (e ∷ f ∷ es) rest is h = last_above x k (f ∷ es) rest is (snd _ _ h)

drops : (k : Key) (e : Key × Object) (es : Entries) → key_cmp k e.0 ≡ Equal → past k (e ∷ es) ≡ past k es
drops k e es is = ap (λ r. cond (is_lt r) (e ∷ past k es) (past k es)) is

drops_above : (k : Key) (e : Key × Object) (es : Entries) → T (is_lt (key_cmp e.0 k)) → past k (e ∷ es) ≡ past k es
drops_above k e es h = ap (λ r. cond (is_lt r) (e ∷ past k es) (past k es)) (key_cmp_total.antisymm k e.0 ∙ ap ordering_reverse (less_is (key_cmp e.0 k) h))

pub past-prefix : (k : Key) (prefix rest : Entries) → T (is_sorted key_cmp (prefix ++ rest)) → last_key prefix ≡ Some k → past k (prefix ++ rest) ≡ rest
past-prefix k [] rest sorted is = absurd cc
past-prefix k (e ∷ []) rest sorted is =
    let same : e.0 ≡ k = cc in
    drops k e rest (ap (key_cmp k) same ∙ tied_itself key_cmp_total k) ∙ past-below k rest (subst (λ q. T (below_all key_cmp q rest)) same (fst _ _ sorted))
past-prefix k (e ∷ f ∷ es) rest sorted is =
    drops_above k e (f ∷ es ++ rest) (last_above e.0 k (f ∷ es) rest is (fst _ _ sorted)) ∙ past-prefix k (f ∷ es) rest (snd _ _ sorted) is

last_key-append : (k : Key) (xs ys : Entries) → last_key ys ≡ Some k → last_key (xs ++ ys) ≡ Some k
last_key-append k [] ys is = is
last_key-append k (x ∷ []) [] is = absurd cc
last_key-append k (x ∷ []) (y ∷ ys) is = is
last_key-append k (x ∷ z ∷ xs) ys is = last_key-append k (z ∷ xs) ys is

has_last : (x : Key × Object) (xs : Entries) → (k : Key) × (last_key (x ∷ xs) ≡ Some k)
has_last x [] = (x.0, refl)
has_last x (y ∷ xs) = has_last y xs

taken_last : (size : ℕ) (left : Entries) → 0 < size → size < length left → (k : Key) × (last_key (take size left) ≡ Some k)
taken_last zero left h lt = absurd (omega arith)
taken_last (suc n) [] h lt = absurd (omega arith)
taken_last (suc n) (x ∷ left) h lt = has_last x (take n left)

-- a page of what is left, put behind the pages before it
page_prefix : (size : ℕ) (all aside left : Entries) → 0 < size → T (is_sorted key_cmp all) → all ≡ aside ++ left → IsPrefix all (aside ++ take size left) (next_of size left)
page_prefix size all aside left h sorted is = go (nat_lt size (length left)) refl
  where
    whole : all ≡ (aside ++ take size left) ++ drop size left
    whole = is ∙ ap (λ xs. aside ++ xs) (sym (take-append-drop size left)) ∙ sym (append_assoc aside (take size left) (drop size left))

    go : (b : Bool) → nat_lt size (length left) ≡ b → IsPrefix all (aside ++ take size left) (cond b (last_key (take size left)) None)
    go false t = record { rest = drop size left; is = whole; left = drop_of_length-le left (ltb-false _ _ t) }
    go true t =
        let last : (k : Key) × (last_key (take size left) ≡ Some k) = taken_last size left h (ltb-true _ _ t) in
        let past_it : past last.0 all ≡ drop size left =
        ap (past last.0) whole ∙ past-prefix last.0 (aside ++ take size left) (drop size left) (subst (λ xs. T (is_sorted key_cmp xs)) whole sorted) (last_key-append last.0 aside (take size left) last.1) in
        record { rest = drop size left; is = whole; left = subst (λ o. LeftBy all o (drop size left)) (sym last.1) past_it }

pub first_page : (size : ℕ) (s : Objects) → 0 < size → IsPrefix (fin.entries s) (take size (fin.entries s)) (next_of size (fin.entries s))
first_page size s h = page_prefix size (fin.entries s) [] (fin.entries s) h (fin.entries_sorted s) refl

pub next_page : (size : ℕ) (s : Objects) (prefix : Entries) (k : Key) → 0 < size → IsPrefix (fin.entries s) prefix (Some k)
    → IsPrefix (fin.entries s) (prefix ++ take size (past k (fin.entries s))) (next_of size (past k (fin.entries s)))
next_page size s prefix k h is = page_prefix size (fin.entries s) prefix (past k (fin.entries s)) h (fin.entries_sorted s) (is.is ∙ ap (λ xs. prefix ++ xs) (sym is.left))

pub all_pages : (s : Objects) (all : Entries) → IsPrefix (fin.entries s) all None → fin.entries s ≡ all
all_pages s all prefix = prefix.is ∙ ap (λ xs. all ++ xs) prefix.left ∙ append-nil all

pub whole_list : (s : Objects) (all : Entries) → IsPrefix (fin.entries s) all None → fin.from_sorted all ≡ s
whole_list s all prefix =
    let same : fin.entries s ≡ all = all_pages s all prefix in
    fin.same_entries_map _ _ (fin.entries-from_sorted key_cmp all (subst (λ xs. T (is_sorted key_cmp xs)) same (fin.entries_sorted s)) ∙ sym same)

-- ---- the rows of a call on the store

abbrev pub in_type : ℕ → Option (List ℕ) → Selection
in_type kind ns = λ k _. is_within kind ns k

and_true : (b : Bool) → (b && true) ≡ b
and_true true = refl
and_true false = refl

pub listed_first : (kind : ℕ) (ns : Option (List ℕ)) (s : Objects) → listed kind ns None s ≡ fin.entries (selected (in_type kind ns) s)
listed_first kind ns s = filter_like (λ e. is_within kind ns e.0 && true) (λ e. is_within kind ns e.0) (λ e. and_true (is_within kind ns e.0)) (fin.entries s) ∙ sym (entries-selected (in_type kind ns) s)

reversed : (r : Ordering) → is_lt (ordering_reverse r) ≡ is_gt r
reversed Less = refl
reversed Equal = refl
reversed Greater = refl

pub past_of_kind : (k q : Key) → q.kind ≡ k.kind → is_past (Some (k.namespace, k.name)) q ≡ is_lt (key_cmp k q)
past_of_kind k q same =
    sym (ap is_lt (key_cmp_total.antisymm k q) ∙ reversed (key_cmp q k)
    ∙ ap (λ r. is_gt (ordering_then r (ordering_then (text_cmp q.namespace k.namespace) (text_cmp q.name k.name)))) (ap (nat_cmp q.kind) (sym same) ∙ tied_itself nat_cmp_total q.kind))

one_past : (ns : Option (List ℕ)) (k q : Key) → (is_within k.kind ns q && is_past (Some (k.namespace, k.name)) q) ≡ (is_within k.kind ns q && is_lt (key_cmp k q))
one_past ns k q = go (q.kind == k.kind) refl (is_in_namespace ns q)
  where
    go : (a : Bool) → (q.kind == k.kind) ≡ a → (b : Bool) → ((a && b) && is_past (Some (k.namespace, k.name)) q) ≡ ((a && b) && is_lt (key_cmp k q))
    go true t true = past_of_kind k q (eqb-true _ _ t)
    go true t false = refl
    go false t b = refl

pub listed_past : (ns : Option (List ℕ)) (k : Key) (s : Objects) → listed k.kind ns (Some (k.namespace, k.name)) s ≡ past k (fin.entries (selected (in_type k.kind ns) s))
listed_past ns k s =
    filter_like (λ e. is_within k.kind ns e.0 && is_past (Some (k.namespace, k.name)) e.0) (λ e. is_within k.kind ns e.0 && is_lt (key_cmp k e.0)) (λ e. one_past ns k e.0) (fin.entries s)
    ∙ sym (filter_both (λ e. is_lt (key_cmp k e.0)) (λ e. is_within k.kind ns e.0) (fin.entries s)) ∙ ap (past k) (sym (entries-selected (in_type k.kind ns) s))

-- ---- those of the rows that a selection wants

abbrev pub in_type_and : ℕ → Option (List ℕ) → Selection → Selection
in_type_and kind ns wanted = λ k body. is_within kind ns k && wanted k body

pub wanted_first : (kind : ℕ) (ns : Option (List ℕ)) (wanted : Selection) (s : Objects) → filter (λ e. wanted e.0 e.1.body) (listed kind ns None s) ≡ fin.entries (selected (in_type_and kind ns wanted) s)
wanted_first kind ns wanted s =
    ap (filter (λ e. wanted e.0 e.1.body)) (listed_first kind ns s ∙ entries-selected (in_type kind ns) s)
    ∙ filter_both (λ e. wanted e.0 e.1.body) (λ e. is_within kind ns e.0) (fin.entries s) ∙ sym (entries-selected (in_type_and kind ns wanted) s)

pub wanted_past : (ns : Option (List ℕ)) (k : Key) (wanted : Selection) (s : Objects)
    → filter (λ e. wanted e.0 e.1.body) (listed k.kind ns (Some (k.namespace, k.name)) s) ≡ past k (fin.entries (selected (in_type_and k.kind ns wanted) s))
wanted_past ns k wanted s =
    ap (filter (λ e. wanted e.0 e.1.body)) (listed_past ns k s)
    ∙ filter_turned (λ e. wanted e.0 e.1.body) (λ e. is_lt (key_cmp k e.0)) (fin.entries (selected (in_type k.kind ns) s))
    ∙ ap (past k) (ap (filter (λ e. wanted e.0 e.1.body)) (sym (listed_first k.kind ns s)) ∙ wanted_first k.kind ns wanted s)
