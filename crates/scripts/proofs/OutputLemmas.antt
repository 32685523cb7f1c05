-- What is printed grows at its end.
use Rattle.std.proofs.Common.{◌≡◌, ◌∙◌, ◌<◌, ◌+◌, ℕ, ap, ap₂, refl, Global, Vec, sym, subst, List, [], ◌∷◌, ◌++◌, length, map, take, drop, Bool, true, false, not, append_assoc, append-nil}
use Rattle.std.specs.List.{filter, slice_index_or}
use Rattle.std.specs.Io.KnownBytes.{Appends}
use Rattle.std.proofs.lemmas.List.{map-append, take_more, take-append-drop}
use Rattle.std.proofs.lemmas.List.Elements.{filter-append}
use Rattle.serde_json.specs.Data.{object}
use Rattle.serde_json.specs.Written.{has_float, members_have_float}
use Rattle.summary.specs.Apply.{count_members}
use Rattle.world.specs.Views.{reply_seen}
use Rattle.world.specs.declared.trace.Report.{Report}
use Rattle.world.specs.declared.trace.Trace.{Trace}
use Rattle.scripts.specs.Output.{Part, Prints, PrintsPrefix, WritesPart, connections_in, parts_of, replies_in, reported}

-- one part more
pub prints_more : (ps : List Part) (p : Part) (text more : List ℕ) → Prints ps text → WritesPart p more → Prints (ps ++ p ∷ []) (text ++ more)
prints_more [] p text more is_empty writes = (more, [], writes, refl, ap (λ x. x ++ more) is_empty ∙ sym (append-nil more))
prints_more (d ∷ ps) p text more (first, rest, emitted, printed, is) writes =
    (first, rest ++ more, emitted, prints_more ps p rest more printed writes, ap (λ x. x ++ more) is ∙ append_assoc first rest more)

-- the first i of them
pub prefix_at : (parts : List Part) (i : ℕ) (text : List ℕ) → Prints (take i parts) text → PrintsPrefix parts text
prefix_at parts i text printed = (take i parts, drop i parts, text, [], sym (take-append-drop i parts), printed, sym (append-nil text))

-- and some of the text of the next one
pub prefix_within : (parts : List Part) (i : ℕ) (text emitted rest : List ℕ) → Prints (take i parts) (text ++ (emitted ++ rest)) → PrintsPrefix parts (text ++ emitted)
prefix_within parts i text emitted rest printed =
    (take i parts, drop i parts, text ++ (emitted ++ rest), rest, sym (take-append-drop i parts), printed, sym (append_assoc text emitted rest))

-- the line of a connection, and the bytes after it
pub joined : (a b c bytes : List ℕ) → (a ++ (b ++ (32 ∷ (c ++ 10 ∷ []))) ++ bytes) ++ 10 ∷ [] ≡ a ++ (b ++ (32 ∷ (c ++ (10 ∷ (bytes ++ 10 ∷ [])))))
joined a b c bytes =
    let rest = bytes ++ 10 ∷ [] in
    append_assoc (a ++ (b ++ (32 ∷ (c ++ 10 ∷ [])))) bytes (10 ∷ [])
    ∙ append_assoc a (b ++ (32 ∷ (c ++ 10 ∷ []))) rest
    ∙ ap (λ (s : List ℕ). a ++ s) (append_assoc b (32 ∷ (c ++ 10 ∷ [])) rest ∙ ap (λ (s : List ℕ). b ++ (32 ∷ s)) (append_assoc c (10 ∷ []) rest))

-- one element more, which is kept or not
pub kept_more : {A B : Type 0} (p : A → Bool) (f : A → B) (xs : List A) (x : A) → p x ≡ true → map f (filter p (xs ++ x ∷ [])) ≡ map f (filter p xs) ++ f x ∷ []
kept_more p f xs x is = ap (map f) (filter-append p xs (x ∷ []) ∙ ap (λ ys. filter p xs ++ ys) (rw is refl)) ∙ map-append f (filter p xs) (x ∷ [])

pub left_more : {A B : Type 0} (p : A → Bool) (f : A → B) (xs : List A) (x : A) → p x ≡ false → map f (filter p (xs ++ x ∷ [])) ≡ map f (filter p xs)
left_more p f xs x isnt = ap (map f) (filter-append p xs (x ∷ []) ∙ ap (λ ys. filter p xs ++ ys) (rw isnt refl) ∙ append-nil _)

-- the first elements, seen so, with the next one
pub seen_more : {A B : Type 0} (f : A → B) (xs : List A) (i : ℕ) (x : A) → i < length xs → x ≡ slice_index_or xs i x → map f (take (i + 1) xs) ≡ map f (take i xs) ++ f x ∷ []
seen_more f xs i x lt is = ap (map f) (take_more xs i x lt ∙ ap (λ y. take i xs ++ y ∷ []) (sym is)) ∙ map-append f (take i xs) (x ∷ [])

-- of connections, what is shown of those that are meant: one of them more is shown, or another one is not
module _ (p : ℕ × List ℕ → Bool) (f : ℕ × List ℕ → Part) (parts old : List Part) (es : List (ℕ × Vec ℕ Global)) (i : ℕ) (e : ℕ × Vec ℕ Global) (lt : i < length es) (at : e ≡ slice_index_or es i e)
    (before : parts ≡ old ++ map f (filter p (map reply_seen (take i es)))) where
  pub one_shown : (shown : Part) → p (reply_seen e) ≡ true → shown ≡ f (reply_seen e) → parts ++ shown ∷ [] ≡ old ++ map f (filter p (map reply_seen (take (i + 1) es)))
  one_shown shown is same =
      ap₂ (λ ps x. ps ++ x ∷ []) before same ∙ append_assoc old (map f (filter p (map reply_seen (take i es)))) (f (reply_seen e) ∷ [])
      ∙ ap (λ ps. old ++ ps) (sym (kept_more p f (map reply_seen (take i es)) (reply_seen e) is) ∙ ap (λ xs. map f (filter p xs)) (sym (seen_more reply_seen es i e lt at)))

  pub one_left : p (reply_seen e) ≡ false → parts ≡ old ++ map f (filter p (map reply_seen (take (i + 1) es)))
  one_left isnt =
      before ∙ ap (λ ps. old ++ ps) (sym (left_more p f (map reply_seen (take i es)) (reply_seen e) isnt) ∙ ap (λ xs. map f (filter p xs)) (sym (seen_more reply_seen es i e lt at)))

-- the reports so far, with the next one
pub one_reported : (parts start : List Part) (rs : List Report) (i : ℕ) (r : Report) (shown : Part) → i < length rs → r ≡ slice_index_or rs i r → parts ≡ start ++ map reported (take i rs) → shown ≡ reported r
    → parts ++ shown ∷ [] ≡ start ++ map reported (take (i + 1) rs)
one_reported parts start rs i r shown lt at before is =
    ap₂ (λ ps x. ps ++ x ∷ []) before is ∙ append_assoc start (map reported (take i rs)) (reported r ∷ []) ∙ ap (λ ps. start ++ ps) (sym (seen_more reported rs i r lt at))

-- replies, then connections, then reports
pub all_parts : (none some more all replies connections : List Part) (rs : List Report) (i : ℕ) → none ≡ [] → some ≡ none ++ replies → more ≡ some ++ connections → all ≡ more ++ map reported (take i rs) → take i rs ≡ rs
    → all ≡ replies ++ (connections ++ map reported rs)
all_parts none some more all replies connections rs i is_none is_some is_more is_all whole =
    is_all ∙ ap₂ (λ ps xs. ps ++ map reported xs) (is_more ∙ ap (λ ps. ps ++ connections) (is_some ∙ ap (λ ps. ps ++ replies) is_none)) whole ∙ append_assoc replies connections (map reported rs)

pub parts_are : (t : Trace) (ids : List ℕ) (replied_on connected_on : List (ℕ × Vec ℕ Global)) (rs : List Report) → ids ≡ t.requested.items → replied_on ≡ t.written.items → connected_on ≡ t.written.items
    → rs ≡ t.reports.items → replies_in ids (map reply_seen replied_on) ++ (connections_in ids (map reply_seen connected_on) ++ map reported rs) ≡ parts_of t
parts_are t ids replied_on connected_on rs a b c d = rw (a, b, c, d) refl

-- counts are whole numbers
pub no_floats : (es : List (List ℕ × ℕ)) → has_float (object (count_members es)) ≡ false
no_floats [] = refl
no_floats (e ∷ es) = no_floats es
