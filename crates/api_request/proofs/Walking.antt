-- What the names of a route take of a path whose parts are variables.
use Rattle.std.proofs.Common.{◌≡◌, ℕ, suc, ◌+◌, ◌-◌, ◌≤◌, Bool, true, false, cond, ltb, ◌&&◌, ◌==◌, List, [], ◌∷◌, ◌++◌, length, drop, take, refl, sym, ap, ap₂, ◌∙◌, arith}
use Rattle.std.proofs.lemmas.Bool.Decides.{nat_tests}
use Rattle.std.proofs.Math.Seq.{drop-append_seam, take-append_seam}
use Rattle.std.specs.Prelude.{get_or, leb}
use Rattle.matchit.specs.Rows.{param_token}
use Rattle.matchit.specs.Params.{after_token, next_at, part_of, walk, wild_from, wild_stop}
use Rattle.matchit.specs.Seek.{has_slash, segment, slash}
use Rattle.api_request.proofs.Seeking.{length_pushed, segment_slash}

append_assoc : (xs ys zs : List ℕ) → xs ++ (ys ++ zs) ≡ (xs ++ ys) ++ zs
append_assoc [] ys zs = refl
append_assoc (x ∷ xs) ys zs = ap (λ l. x ∷ l) (append_assoc xs ys zs)

append_nil : (xs : List ℕ) → xs ≡ xs ++ []
append_nil [] = refl
append_nil (x ∷ xs) = ap (λ l. x ∷ l) (append_nil xs)

length_both : (xs ys : List ℕ) → length (xs ++ ys) ≡ length xs + length ys
length_both [] ys = omega arith
length_both (x ∷ xs) ys = let h = length_both xs ys in omega (arith, h)

-- what is left of a path from a place on
pub record Left (path : List ℕ) (at : ℕ) (left : List ℕ) : Type 0 where
  pub done : List ℕ
  pub is : path ≡ done ++ left
  pub place : at ≡ length done

pub left_all : (path : List ℕ) → Left path 0 path
left_all path = record { done = []; is = refl; place = refl }

pub left_past : (path : List ℕ) (at : ℕ) (xs ys : List ℕ) → Left path at (xs ++ ys) → Left path (at + length xs) ys
left_past path at xs ys l = record {
  done = l.done ++ xs;
  is = l.is ∙ append_assoc l.done xs ys;
  place = ap (λ n. n + length xs) l.place ∙ sym (length_both l.done xs);
}

left_length : (path : List ℕ) (at : ℕ) (left : List ℕ) → Left path at left → length path ≡ at + length left
left_length path at left l = ap length l.is ∙ length_both l.done left ∙ ap (λ n. n + length left) (sym l.place)

left_drop : (path : List ℕ) (at : ℕ) (left : List ℕ) → Left path at left → drop at path ≡ left
left_drop path at left l = ap₂ (λ n p. drop n p) l.place l.is ∙ drop-append_seam l.done left

part_here : (path : List ℕ) (at : ℕ) (s rest : List ℕ) → Left path at (s ++ rest) → part_of path at (at + length s) ≡ s
part_here path at s rest l =
    let long : length path ≡ at + (length s + length rest) = left_length path at (s ++ rest) l ∙ ap (λ n. at + n) (length_both s rest) in
    let low : leb at (at + length s) ≡ true = grind (arith, nat_tests) in
    let high : leb (at + length s) (length path) ≡ true = grind (arith, nat_tests) in
    let count : at + length s - at ≡ length s = omega arith in
    ap (λ v. cond (v && leb (at + length s) (length path)) (take (at + length s - at) (drop at path)) []) low
    ∙ ap (λ v. cond v (take (at + length s - at) (drop at path)) []) high
    ∙ ap₂ (λ n p. take n p) count (left_drop path at (s ++ rest) l)
    ∙ take-append_seam s rest

-- ---- literals before a parameter

abbrev pub AreBytes : List ℕ → Type 0
AreBytes [] = Unit {0}
AreBytes (x ∷ xs) = (ltb x param_token ≡ true) × AreBytes xs

wild_found : (lits pat : List ℕ) (len token at : ℕ) → AreBytes lits → at + length lits ≤ len → wild_from (lits ++ param_token ∷ pat) len token at ≡ (token + length lits, at + length lits)
wild_found [] pat len token at bytes fits =
    let a : token ≡ token + 0 = omega arith in
    let b : at ≡ at + 0 = omega arith in
    ap₂ (λ m n. (m, n)) a b
wild_found (x ∷ lits) pat len token at bytes fits =
    let inside : ltb at len ≡ true = grind (arith, nat_tests) in
    let h : (at + 1) + length lits ≤ len = omega (arith, fits) in
    let a : (token + 1) + length lits ≡ token + suc (length lits) = omega arith in
    let b : (at + 1) + length lits ≡ at + suc (length lits) = omega arith in
    ap (λ v. cond v (wild_from (lits ++ param_token ∷ pat) len (token + 1) (next_at len at)) (token, at)) bytes.0
    ∙ ap (λ v. wild_from (lits ++ param_token ∷ pat) len (token + 1) (cond v (at + 1) at)) inside
    ∙ wild_found lits pat len (token + 1) (at + 1) bytes.1 h
    ∙ ap₂ (λ m n. (m, n)) a b

abbrev pub goes_on : List ℕ → ℕ → Bool
goes_on pattern token = ltb token (length pattern) && (get_or pattern token 0 == param_token) && ltb (token + 1) (length pattern)

module _ (pattern text path : List ℕ) (name : ℕ × ℕ) (names : List (ℕ × ℕ)) (token at : ℕ) (lits s : List ℕ) where
  abbrev taken_by : ℕ × ℕ → List (List ℕ × List ℕ)
  taken_by w = (part_of text name.0 name.1, part_of path w.1 (wild_stop pattern w.0 path w.1)) ∷ walk pattern text path names (after_token w.0) (wild_stop pattern w.0 path w.1)

  walk_to : (pat left : List ℕ) → drop token pattern ≡ lits ++ param_token ∷ pat → AreBytes lits → Left path at (lits ++ left)
      → walk pattern text path (name ∷ names) token at ≡ taken_by (token + length lits, at + length lits)
  walk_to pat left tokens bytes l =
      let fits : at + length lits ≤ length path =
      (let long : length path ≡ at + (length lits + length left) = left_length path at (lits ++ left) l ∙ ap (λ n. at + n) (length_both lits left) in omega (arith, long)) in
      ap (λ ts. taken_by (wild_from ts (length path) token at)) tokens ∙ ap taken_by (wild_found lits pat (length path) token at bytes fits)

  -- a part before a slash
  pub walk_mid : (pat rest : List ℕ) → drop token pattern ≡ lits ++ param_token ∷ pat → AreBytes lits → has_slash s ≡ false → goes_on pattern (token + length lits) ≡ true
      → segment (drop (token + length lits + 1) pattern) ≡ slash ∷ [] → Left path at (lits ++ (s ++ slash ∷ rest))
      → walk pattern text path (name ∷ names) token at ≡ (part_of text name.0 name.1, s) ∷ walk pattern text path names (after_token (token + length lits)) (at + length lits + length s)
  walk_mid pat rest tokens bytes whole inner after l =
      let here = left_past path at lits (s ++ slash ∷ rest) l in
      let start = at + length lits in
      let tok = token + length lits in
      let count : start + suc (length s) - 1 ≡ start + length s = omega arith in
      let stop : wild_stop pattern tok path start ≡ start + length s =
      ap (λ v. cond v (start + length (segment (drop start path)) - length (segment (drop (tok + 1) pattern))) (length path)) inner
      ∙ ap₂ (λ p q. start + length (segment p) - length q) (left_drop path start (s ++ slash ∷ rest) here) after
      ∙ ap (λ p. start + length p - 1) (segment_slash s rest whole)
      ∙ ap (λ n. start + n - 1) (length_pushed s slash)
      ∙ count in
      walk_to pat (s ++ slash ∷ rest) tokens bytes l
      ∙ ap (λ n. (part_of text name.0 name.1, part_of path start n) ∷ walk pattern text path names (after_token tok) n) stop
      ∙ ap (λ p. (part_of text name.0 name.1, p) ∷ walk pattern text path names (after_token tok) (start + length s)) (part_here path start s (slash ∷ rest) here)

-- the last part
pub walk_end : (pattern text path : List ℕ) (name : ℕ × ℕ) (token at : ℕ) (lits s pat : List ℕ) → drop token pattern ≡ lits ++ param_token ∷ pat → AreBytes lits
    → goes_on pattern (token + length lits) ≡ false → Left path at (lits ++ s) → walk pattern text path (name ∷ []) token at ≡ (part_of text name.0 name.1, s) ∷ []
walk_end pattern text path name token at lits s pat tokens bytes inner l =
    let here = left_past path at lits s l in
    let start = at + length lits in
    let tok = token + length lits in
    let stop : wild_stop pattern tok path start ≡ start + length s =
    ap (λ v. cond v (start + length (segment (drop start path)) - length (segment (drop (tok + 1) pattern))) (length path)) inner ∙ left_length path start s here in
    let there : Left path start (s ++ []) = record { done = here.done; is = here.is ∙ ap (λ q. here.done ++ q) (append_nil s); place = here.place } in
    walk_to pattern text path name [] token at lits s pat s tokens bytes l
    ∙ ap (λ n. (part_of text name.0 name.1, part_of path start n) ∷ []) stop
    ∙ ap (λ p. (part_of text name.0 name.1, p) ∷ []) (part_here path start s [] there)
