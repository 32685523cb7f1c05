-- Pages that are asked for with the token of the page before.
use Rattle.std.proofs.Common.{◌≡◌, ℕ, zero, suc, ◌<◌, ◌≤◌, ◌&&◌, ◌==◌, min, Bool, true, false, cond, List, [], ◌∷◌, ◌++◌, length, take, filter, refl, sym, ap, subst, ◌∙◌, Option, Some, None, option_map, arith, is_lt, eqb-true, T, drop, ◌-◌, take-append-drop, length-drop}
use Rattle.std.proofs.lemmas.Bool.{and_parts, eqb-false, le-leb, le-ltb, ltb-true}
use Rattle.std.proofs.lemmas.List.{length-take}
use Rattle.std.specs.Prelude.{nat_lt}
use Rattle.std.specs.List.{AllByRecursion}
use Rattle.std.specs.FinMap as fin
use Rattle.std.specs.FinMap.{is_sorted}
use Rattle.std.specs.declared.result.Result.TheVariants.{Ok}
use Rattle.history.specs.History.{Key, Object, Objects, key_cmp}
use Rattle.history.specs.Page.{is_in_namespace, is_within}
use Rattle.history.specs.Seen.{IsLimit, SeenPage, left_after, limited, seen_page, selected, IsPrefix, last_key, past}
use Rattle.history.proofs.Leading as leading
use Rattle.history.proofs.Paging.{past-prefix}
use Rattle.history.proofs.Selecting.{entries-selected, is_sorted-filter}
use Rattle.selector.specs.Requirement.{Requirement, selects}
use Rattle.params.specs.Values.{Token, Values}
use Rattle.lists.specs.Body.{Collection, list_text}
use Rattle.lists.specs.Labels.{attributes_of, selection_of}
use Rattle.lists.specs.Lists.{key_after, list_of, max_page, page_limit, page_of, text_at}
use Rattle.lists.specs.Revision.{exactly, revision_by, wanted_by}
use Rattle.lists.specs.TokenLaws.{token_after, whole_list}

abbrev Entries : Type 0
Entries = List (Key × Object)

-- ---- keys that pass a test

abbrev Pass : (Key → Bool) → Entries → Type 0
Pass p es = AllByRecursion (λ e. p e.0 ≡ true) es

pass_wanted : (p : Key → Bool) (q : Key × Object → Bool) (es : Entries) → Pass p (filter (λ e. p e.0 && q e) es)
pass_wanted p q [] = tt
pass_wanted p q (e ∷ es) = go (p e.0) refl (q e) (pass_wanted p q es)
  where
    go : (a : Bool) → p e.0 ≡ a → (b : Bool) → Pass p (filter (λ x. p x.0 && q x) es)
        → Pass p (cond (a && b) (e ∷ filter (λ x. p x.0 && q x) es) (filter (λ x. p x.0 && q x) es))
    go true is true others = (is, others)
    go true is false others = others
    go false is b others = others

pass-filter : (p : Key → Bool) (q : Key × Object → Bool) (es : Entries) → Pass p es → Pass p (filter q es)
pass-filter p q [] h = tt
pass-filter p q (e ∷ es) h = go (q e) (pass-filter p q es h.1)
  where
    go : (b : Bool) → Pass p (filter q es) → Pass p (cond b (e ∷ filter q es) (filter q es))
    go true others = (h.0, others)
    go false others = others

pass-take : (p : Key → Bool) (n : ℕ) (es : Entries) → Pass p es → Pass p (take n es)
pass-take p zero es h = tt
pass-take p (suc n) [] h = tt
pass-take p (suc n) (e ∷ es) h = (h.0, pass-take p n es h.1)

pass_last : (p : Key → Bool) (k : Key) (es : Entries) → Pass p es → last_key es ≡ Some k → p k ≡ true
pass_last p k [] h is = absurd cc
pass_last p k (e ∷ []) h is = let same : e.0 ≡ k = cc in subst (λ q. p q ≡ true) same h.0
pass_last p k (e ∷ f ∷ es) h is = pass_last p k (f ∷ es) h.1 is

pass_left : (p : Key → Bool) (after : Option Key) (es : Entries) → Pass p es → Pass p (left_after after es)
pass_left p None es h = h
pass_left p (Some k) es h = pass-filter p (λ e. is_lt (key_cmp k e.0)) es h

pass_limited : (p : Key → Bool) (limit : Option ℕ) (es : Entries) → Pass p es → Pass p (limited limit es).found
pass_limited p None es h = h
pass_limited p (Some n) es h = pass-take p n es h

-- ---- the last object of a page

last_of : (limit : Option ℕ) (es : Entries) (k : Key) → (limited limit es).next ≡ Some k → last_key (limited limit es).found ≡ Some k
last_of None es k is = absurd cc
last_of (Some n) es k is = go (nat_lt n (length es)) is
  where
    go : (b : Bool) → cond b (last_key (take n es)) None ≡ Some k → last_key (take n es) ≡ Some k
    go true h = h
    go false h = absurd cc

pub next_is_last : (of : Collection) (values : Values) (s : Objects) (k : Key) → (page_of of values s).next ≡ Some k → last_key (page_of of values s).found ≡ Some k
next_is_last of values s k is = last_of (page_limit values.limit) (left_after (option_map (key_after of.kind) values.token) (whole_list of values.selector s)) k is

pass_listed : (of : Collection) (requirements : List Requirement) (s : Objects) → Pass (is_within of.kind of.namespace) (whole_list of requirements s)
pass_listed of requirements s =
    subst (Pass (is_within of.kind of.namespace)) (sym (entries-selected (selection_of of.kind of.namespace requirements) s))
    (pass_wanted (is_within of.kind of.namespace) (λ e. selects requirements (attributes_of e.0 e.1.body)) (fin.entries s))

-- it is of the list's type
kind_of_last : (of : Collection) (values : Values) (s : Objects) (k : Key) → (page_of of values s).next ≡ Some k → k.kind ≡ of.kind
kind_of_last of values s k is =
    let all : Entries = whole_list of values.selector s in
    let after : Option Key = option_map (key_after of.kind) values.token in
    let shown = pass_limited (is_within of.kind of.namespace) (page_limit values.limit) (left_after after all) (pass_left (is_within of.kind of.namespace) after all (pass_listed of values.selector s)) in
    let within : is_within of.kind of.namespace k ≡ true = pass_last (is_within of.kind of.namespace) k (page_of of values s).found shown (next_is_last of values s k is) in
    eqb-true k.kind of.kind (and_parts (k.kind == of.kind) (is_in_namespace of.namespace k) within).0

-- ---- the page that begins after it

has_room : (limit : ℕ) → IsLimit (page_limit limit)
has_room limit = go (limit == 0) refl
  where
    go : (b : Bool) → (limit == 0) ≡ b → IsLimit (cond b None (Some (min limit max_page)))
    go true is = tt
    go false is = some limit (eqb-false limit 0 is)
      where
        some : (n : ℕ) → ¬ (n ≡ 0) → 0 < min n max_page
        some zero h = absurd (h refl)
        some (suc n) h = omega arith

same_key : (kind revision : ℕ) (k : Key) → k.kind ≡ kind → key_after kind (token_after revision k) ≡ k
same_key kind revision k is = let with_kind : ℕ → Key = λ n. record { kind = n; namespace = k.namespace; name = k.name } in ap with_kind (sym is)

-- a page by its token
abbrev page_by : Collection → Values → Objects → Option Token → SeenPage
page_by of values s token = seen_page (selection_of of.kind of.namespace values.selector) (option_map (key_after of.kind) token) (page_limit values.limit) s

pub begins_after : (of : Collection) (before values : Values) (revision : ℕ) (s : Objects) (k : Key) → (page_of of before s).next ≡ Some k → values.token ≡ Some (token_after revision k)
    → page_of of values s ≡ limited (page_limit values.limit) (past k (whole_list of values.selector s))
begins_after of before values revision s k is token =
    ap (page_by of values s) token
    ∙ ap (λ q. seen_page (selection_of of.kind of.namespace values.selector) (Some q) (page_limit values.limit) s) (same_key of.kind revision k (kind_of_last of before s k is))

-- ---- pages, joined

pub first : (of : Collection) (values : Values) (s : Objects) → values.token ≡ None → IsPrefix (whole_list of values.selector s) (page_of of values s).found (page_of of values s).next
first of values s none =
    subst (λ (page : SeenPage). IsPrefix (whole_list of values.selector s) page.found page.next) (sym (ap (page_by of values s) none))
    (leading.first (selection_of of.kind of.namespace values.selector) (page_limit values.limit) s (has_room values.limit))

pub next : (of : Collection) (before values : Values) (revision : ℕ) (s : Objects) (prefix : List (Key × Object)) (k : Key) → (page_of of before s).next ≡ Some k → values.token ≡ Some (token_after revision k)
    → IsPrefix (whole_list of values.selector s) prefix (Some k) → IsPrefix (whole_list of values.selector s) (prefix ++ (page_of of values s).found) (page_of of values s).next
next of before values revision s prefix k is token so_far =
    subst (λ (page : SeenPage). IsPrefix (whole_list of values.selector s) (prefix ++ page.found) page.next) (sym (begins_after of before values revision s k is token))
    (leading.next (selection_of of.kind of.namespace values.selector) (page_limit values.limit) s prefix k (has_room values.limit) so_far)

pub whole : (of : Collection) (requirements : List Requirement) (s : Objects) (all : List (Key × Object)) → IsPrefix (whole_list of requirements s) all None → all ≡ whole_list of requirements s
whole of requirements s all is = leading.whole (selection_of of.kind of.namespace requirements) s all is

pub at_once : (of : Collection) (values : Values) (s : Objects) → values.token ≡ None → values.limit ≡ 0 → (page_of of values s).found ≡ whole_list of values.selector s
at_once of values s none unlimited =
    ap (λ (page : SeenPage). page.found) (ap (page_by of values s) none)
    ∙ ap (λ n. (seen_page (selection_of of.kind of.namespace values.selector) None (page_limit n) s).found) unlimited

-- ---- each page shows something, so they come to an end

-- of what both tests let through there is no more than of what one does
fewer : (p q : Key × Object → Bool) (es : Entries) → length (filter p (filter q es)) ≤ length (filter p es)
fewer p q [] = omega arith
fewer p q (e ∷ es) = go (q e) (p e) refl (fewer p q es)
  where
    go : (a b : Bool) → p e ≡ b → length (filter p (filter q es)) ≤ length (filter p es) → length (filter p (cond a (e ∷ filter q es) (filter q es))) ≤ length (cond b (e ∷ filter p es) (filter p es))
    go true true is rest = rw is (omega (arith, rest))
    go true false is rest = rw is rest
    go false true is rest = omega (arith, rest)
    go false false is rest = rest

fewer_left : (after : Option Key) (k : Key) (all : Entries) → length (past k (left_after after all)) ≤ length (past k all)
fewer_left None k all = omega arith
fewer_left (Some q) k all = fewer (λ e. is_lt (key_cmp k e.0)) (λ e. is_lt (key_cmp q e.0)) all

sorted_left : (after : Option Key) (all : Entries) → T (is_sorted key_cmp all) → T (is_sorted key_cmp (left_after after all))
sorted_left None all h = h
sorted_left (Some q) all h = is_sorted-filter (λ e. is_lt (key_cmp q e.0)) all h

some_past : (limit : Option ℕ) (es : Entries) (k : Key) → T (is_sorted key_cmp es) → (limited limit es).next ≡ Some k → 0 < length (past k es)
some_past None es k sorted is = absurd cc
some_past (Some n) es k sorted is = go (nat_lt n (length es)) refl is
  where
    go : (b : Bool) → nat_lt n (length es) ≡ b → cond b (last_key (take n es)) None ≡ Some k → 0 < length (past k es)
    go false t h = absurd cc
    go true t h =
        let cut : take n es ++ drop n es ≡ es = take-append-drop n es in
        let rest : past k (take n es ++ drop n es) ≡ drop n es = past-prefix k (take n es) (drop n es) (subst (λ xs. T (is_sorted key_cmp xs)) (sym cut) sorted) h in
        let counted : length (past k es) ≡ length es - n = ap (λ xs. length (past k xs)) (sym cut) ∙ ap length rest ∙ length-drop n es in
        let more : n < length es = ltb-true n (length es) t in
        omega (arith, counted, more)

some_shown : (limit : Option ℕ) (es : Entries) → IsLimit limit → 0 < length es → 0 < length (limited limit es).found
some_shown None es room some = some
some_shown (Some n) es room some = let counted : length (take n es) ≡ min n (length es) = length-take n es in omega (arith, counted, room, some)

pub shows_more : (of : Collection) (before values : Values) (revision : ℕ) (s : Objects) (k : Key) → (page_of of before s).next ≡ Some k → values.token ≡ Some (token_after revision k)
    → values.selector ≡ before.selector → 0 < length (page_of of values s).found
shows_more of before values revision s k is token same =
    let all : Entries = whole_list of before.selector s in
    let after : Option Key = option_map (key_after of.kind) before.token in
    let sorted = sorted_left after all (fin.entries_sorted (selected (selection_of of.kind of.namespace before.selector) s)) in
    let there : 0 < length (past k (left_after after all)) = some_past (page_limit before.limit) (left_after after all) k sorted is in
    let left : length (past k (left_after after all)) ≤ length (past k all) = fewer_left after k all in
    let some : 0 < length (past k all) = omega (arith, there, left) in
    let some_here : 0 < length (past k (whole_list of values.selector s)) = subst (λ requirements. 0 < length (past k (whole_list of requirements s))) (sym same) some in
    subst (λ (page : SeenPage). 0 < length page.found) (sym (begins_after of before values revision s k is token))
    (some_shown (page_limit values.limit) (past k (whole_list of values.selector s)) (has_room values.limit) some_here)

-- ---- its revision

pub of_revision : (of : Collection) (values : Values) (current compacted revision : ℕ) (at : ℕ → Objects) (k : Key) → values.token ≡ Some (token_after revision k) → compacted ≤ revision → revision ≤ current
    → list_of of values current compacted at ≡ Ok (list_text of revision (page_of of values (at revision)))
of_revision of values current compacted revision at k token low high =
    let exact : revision_by current compacted (exactly revision) ≡ Ok revision = rw (le-ltb revision compacted low, le-leb revision current high) refl in
    ap (text_at of values at) (ap (λ t. revision_by current compacted (wanted_by t values)) token ∙ exact)
