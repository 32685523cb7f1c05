-- Which route a path matches whose parts are variables.
use Rattle.std.proofs.Common.{◌≡◌, ℕ, zero, suc, ◌-◌, ◌⊎◌, inl, inr, Bool, true, false, cond, ltb, ◌&&◌, ◌==◌, nat_eq, List, [], ◌∷◌, ◌++◌, length, drop, Option, Some, None, refl, sym, ap, ◌∙◌, arith, true≢false}
use Rattle.std.proofs.lemmas.Bool.Decides.{nat_tests}
use Rattle.std.specs.Cmp.Lexicographic.{pointwise}
use Rattle.matchit.specs.Rows.{RowsOf, param_token, catch_all_token}
use Rattle.matchit.specs.Seek.{own, step, or_else, segment, has_slash, same_text, cuts, better, longest_from, longest_suffix, with_suffix, param_step, seek, slash}

-- ---- parts

pub segment_whole : (s : List ℕ) → has_slash s ≡ false → segment s ≡ s
segment_whole [] h = refl
segment_whole (b ∷ s) h = by (b == slash) h (segment_whole s)
  where
    by : (v : Bool) → cond v true (has_slash s) ≡ false → (has_slash s ≡ false → segment s ≡ s) → cond v (b ∷ []) (b ∷ segment s) ≡ b ∷ s
    by true h later = absurd (true≢false h)
    by false h later = ap (λ x. b ∷ x) (later h)

pub segment_slash : (s rest : List ℕ) → has_slash s ≡ false → segment (s ++ slash ∷ rest) ≡ s ++ slash ∷ []
segment_slash [] rest h = refl
segment_slash (b ∷ s) rest h = by (b == slash) h (segment_slash s rest)
  where
    by : (v : Bool) → cond v true (has_slash s) ≡ false → (has_slash s ≡ false → segment (s ++ slash ∷ rest) ≡ s ++ slash ∷ []) → cond v (b ∷ []) (b ∷ segment (s ++ slash ∷ rest)) ≡ b ∷ s ++ slash ∷ []
    by true h later = absurd (true≢false h)
    by false h later = ap (λ x. b ∷ x) (later h)

pub drop_prefix : (xs ys : List ℕ) → drop (length xs) (xs ++ ys) ≡ ys
drop_prefix [] ys = refl
drop_prefix (x ∷ xs) ys = drop_prefix xs ys

pub length_pushed : (xs : List ℕ) (x : ℕ) → length (xs ++ x ∷ []) ≡ suc (length xs)
length_pushed [] x = refl
length_pushed (y ∷ xs) x = ap suc (length_pushed xs x)

one_less : (n : ℕ) → suc n - 1 ≡ n
one_less n = omega arith

cuts_slash : (b : ℕ) (s : List ℕ) → cuts (b ∷ s ++ slash ∷ []) (slash ∷ []) ≡ true
cuts_slash b s =
    ap (λ n. ltb 1 (suc n) && pointwise nat_eq (slash ∷ []) (drop (suc n - 1) (b ∷ s ++ slash ∷ []))) (length_pushed s slash)
    ∙ ap (λ n. ltb 1 (suc (suc (length s))) && pointwise nat_eq (slash ∷ []) (drop n (b ∷ s ++ slash ∷ []))) (one_less (suc (length s)))
    ∙ ap (λ xs. ltb 1 (suc (suc (length s))) && pointwise nat_eq (slash ∷ []) xs) (drop_prefix (b ∷ s) (slash ∷ []))
    ∙ ap (λ t. t && true) (is_more (length s))
  where
    is_more : (n : ℕ) → ltb 1 (suc (suc n)) ≡ true
    is_more n = grind (arith, nat_tests)

ends_other : (n : ℕ) (s : List ℕ) → has_slash s ≡ false → pointwise nat_eq (slash ∷ []) (drop n s) ≡ false
ends_other zero [] h = refl
ends_other (suc n) [] h = refl
ends_other zero (b ∷ s) h = by (b == slash) refl h
  where
    by : (v : Bool) → (b == slash) ≡ v → cond v true (has_slash s) ≡ false → (nat_eq slash b && pointwise nat_eq [] s) ≡ false
    by true e h = absurd (true≢false h)
    by false e h =
        let other : nat_eq slash b ≡ false = grind (arith, nat_tests) in
        ap (λ t. t && pointwise nat_eq [] s) other
ends_other (suc n) (b ∷ s) h = by (b == slash) h (ends_other n s)
  where
    by : (v : Bool) → cond v true (has_slash s) ≡ false → (has_slash s ≡ false → pointwise nat_eq (slash ∷ []) (drop n s) ≡ false) → pointwise nat_eq (slash ∷ []) (drop n s) ≡ false
    by true h later = absurd (true≢false h)
    by false h later = later h

no_cut : (s : List ℕ) → has_slash s ≡ false → cuts s (slash ∷ []) ≡ false
no_cut s h = ap (λ t. ltb 1 (length s) && t) (ends_other (length s - 1) s h) ∙ and_false (ltb 1 (length s))
  where
    and_false : (b : Bool) → (b && false) ≡ false
    and_false true = refl
    and_false false = refl

abbrev pub begins_param : List ℕ → Bool
begins_param [] = false
begins_param (x ∷ t) = x == param_token

param_head : (x : ℕ) (t : List ℕ) → begins_param (x ∷ t) ≡ true → x ≡ param_token
param_head x t h = grind (arith, nat_tests)

pub rest_whole : (b : ℕ) (s : List ℕ) → has_slash (b ∷ s) ≡ false → has_slash s ≡ false
rest_whole b s h = by (b == slash) h
  where
    by : (v : Bool) → cond v true (has_slash s) ≡ false → has_slash s ≡ false
    by true h = absurd (true≢false h)
    by false h = h

pub first_whole : (b : ℕ) (s : List ℕ) → has_slash (b ∷ s) ≡ false → (b == slash) ≡ false
first_whole b s h = by (b == slash) h
  where
    by : (v : Bool) → cond v true (has_slash s) ≡ false → v ≡ false
    by true h = absurd (true≢false h)
    by false h = refl

-- a row that begins with another byte than a slash has its slash later
past_slash : (x b : ℕ) (t : List ℕ) → (b == slash) ≡ false → (x == b) ≡ true → has_slash (x ∷ t) ≡ true → has_slash t ≡ true
past_slash x b t other same h = by (x == slash) refl h
  where
    by : (v : Bool) → (x == slash) ≡ v → cond v true (has_slash t) ≡ true → has_slash t ≡ true
    by true e f = let no : (b == slash) ≡ true = grind (arith, nat_tests) in absurd (true≢false (sym no ∙ other))
    by false e f = f

module _ {K : Type 0} where
  -- ---- literals

  abbrev pub steps : List ℕ → RowsOf K → RowsOf K
  steps [] rs = rs
  steps (b ∷ bs) rs = steps bs (step b rs)

  pub seek_literals : (bs : List ℕ) (rs : RowsOf K) (path : List ℕ) (k : K) → seek 0 (steps bs rs) path ≡ Some k → seek 0 rs (bs ++ path) ≡ Some k
  unfolding seek
  seek_literals [] rs path k e = e
  seek_literals (b ∷ bs) rs path k e =
      ap (λ o. or_else o (or_else (seek ((param_step (step param_token rs) (b ∷ bs ++ path)).0 - 1) (param_step (step param_token rs) (b ∷ bs ++ path)).1 (bs ++ path))
      (own (step catch_all_token rs)))) (seek_literals bs (step b rs) path k e)

  -- ---- nothing is found

  param_none : (path : List ℕ) → (param_step {K = K} [] path).1 ≡ []
  unfolding param_step
  param_none path = by (has_slash path)
    where
      by : (v : Bool) → (cond {A = ℕ × RowsOf K} v (0, []) (length path, [])).1 ≡ []
      by true = refl
      by false = refl

  pub seek_none : (n : ℕ) (path : List ℕ) → seek {K = K} n [] path ≡ None
  unfolding seek
  seek_none n [] = refl
  seek_none (suc n) (b ∷ path) = seek_none n path
  seek_none zero (b ∷ path) =
      ap (λ o. or_else o (or_else (seek ((param_step {K = K} [] (b ∷ path)).0 - 1) (param_step {K = K} [] (b ∷ path)).1 path) None)) (seek_none 0 path)
      ∙ ap (λ rs. or_else (seek ((param_step {K = K} [] (b ∷ path)).0 - 1) rs path) None) (param_none (b ∷ path))
      ∙ ap (λ o. or_else o None) (seek_none ((param_step {K = K} [] (b ∷ path)).0 - 1) path)

  -- each row begins with a parameter
  abbrev pub AllParams : RowsOf K → Type 0
  AllParams [] = Unit {0}
  AllParams ((t, k) ∷ rest) = (begins_param t ≡ true) × AllParams rest

  step_params : (b : ℕ) (rs : RowsOf K) → (param_token == b) ≡ false → AllParams rs → step b rs ≡ []
  step_params b [] other h = refl
  step_params b (([], k) ∷ rest) other h = step_params b rest other h.1
  step_params b ((x ∷ t, k) ∷ rest) other h =
      let same : x ≡ param_token = param_head x t h.0 in
      ap (λ y. cond (y == b) ((t, k) ∷ step b rest) (step b rest)) same ∙ ap (λ v. cond v ((t, k) ∷ step b rest) (step b rest)) other ∙ step_params b rest other h.1

  pub params_none : (b : ℕ) (rs : RowsOf K) (path : List ℕ) → (param_token == b) ≡ false → AllParams rs → seek 0 (step b rs) path ≡ None
  params_none b rs path other h = ap (λ r. seek 0 r path) (step_params b rs other h) ∙ seek_none 0 path

  -- each row has a slash
  abbrev pub Slashed : RowsOf K → Type 0
  Slashed [] = Unit {0}
  Slashed ((t, k) ∷ rest) = (has_slash t ≡ true) × Slashed rest

  own_slashed : (rs : RowsOf K) → Slashed rs → own rs ≡ None
  own_slashed [] h = refl
  own_slashed (([], k) ∷ rest) h = absurd (true≢false (sym h.0))
  own_slashed ((x ∷ t, k) ∷ rest) h = own_slashed rest h.1

  step_slashed : (b : ℕ) (rs : RowsOf K) → (b == slash) ≡ false → Slashed rs → Slashed (step b rs)
  step_slashed b [] other h = tt
  step_slashed b (([], k) ∷ rest) other h = step_slashed b rest other h.1
  step_slashed b ((x ∷ t, k) ∷ rest) other h = by (x == b) refl (step_slashed b rest other h.1)
    where
      by : (v : Bool) → (x == b) ≡ v → Slashed (step b rest) → Slashed (cond v ((t, k) ∷ step b rest) (step b rest))
      by true same later = (past_slash x b t other same h.0, later)
      by false same later = later

  suffix_slashed : (s : List ℕ) (rs : RowsOf K) → Slashed rs → Slashed (with_suffix s rs)
  suffix_slashed s [] h = tt
  suffix_slashed s ((t, k) ∷ rest) h = by (same_text (segment t) s) (suffix_slashed s rest h.1)
    where
      by : (v : Bool) → Slashed (with_suffix s rest) → Slashed (cond v ((t, k) ∷ with_suffix s rest) (with_suffix s rest))
      by true later = (h.0, later)
      by false later = later

  param_slashed : (rs : RowsOf K) (path : List ℕ) → Slashed rs → Slashed (param_step rs path).1
  unfolding param_step
  param_slashed rs path h = by (ltb 0 (length (longest_suffix (segment path) rs))) (has_slash path)
    where
      by : (v w : Bool) → Slashed (cond {A = ℕ × RowsOf K} v (length (segment path) - length (longest_suffix (segment path) rs), with_suffix (longest_suffix (segment path) rs) rs)
          (cond {A = ℕ × RowsOf K} w (0, []) (length path, rs))).1
      by true w = suffix_slashed (longest_suffix (segment path) rs) rs h
      by false true = tt
      by false false = h

  abbrev none_of : Option K → Option K → Option K → Option K
  none_of a b c = or_else a (or_else b c)

  three_none : (a b c : Option K) → a ≡ None → b ≡ None → c ≡ None → none_of a b c ≡ None
  three_none a b c p q r = ap (λ o. none_of o b c) p ∙ ap (λ o. or_else o c) q ∙ r

  pub seek_slashed : (n : ℕ) (rs : RowsOf K) (path : List ℕ) → has_slash path ≡ false → Slashed rs → seek n rs path ≡ None
  unfolding seek
  seek_slashed n rs [] whole h = own_slashed rs h
  seek_slashed (suc n) rs (b ∷ path) whole h = seek_slashed n rs path (rest_whole b path whole) h
  seek_slashed zero rs (b ∷ path) whole h =
      let rest = rest_whole b path whole in
      three_none _ _ _ (seek_slashed 0 (step b rs) path rest (step_slashed b rs (first_whole b path whole) h))
      (seek_slashed ((param_step (step param_token rs) (b ∷ path)).0 - 1) (param_step (step param_token rs) (b ∷ path)).1 path rest (param_slashed (step param_token rs) (b ∷ path) (step_slashed param_token rs refl h)))
      (own_slashed (step catch_all_token rs) (step_slashed catch_all_token rs refl h))

  -- each row has a slash, or begins with a parameter
  abbrev pub SlashedOrParam : RowsOf K → Type 0
  SlashedOrParam [] = Unit {0}
  SlashedOrParam ((t, k) ∷ rest) = ((has_slash t ≡ true) ⊎ (begins_param t ≡ true)) × SlashedOrParam rest

  step_to_slashed : (b : ℕ) (rs : RowsOf K) → (b == slash) ≡ false → (param_token == b) ≡ false → SlashedOrParam rs → Slashed (step b rs)
  step_to_slashed b [] other apart h = tt
  step_to_slashed b (([], k) ∷ rest) other apart h = step_to_slashed b rest other apart h.1
  step_to_slashed b ((x ∷ t, k) ∷ rest) other apart h = by (x == b) refl h.0 (step_to_slashed b rest other apart h.1)
    where
      by : (v : Bool) → (x == b) ≡ v → (has_slash (x ∷ t) ≡ true) ⊎ (begins_param (x ∷ t) ≡ true) → Slashed (step b rest) → Slashed (cond v ((t, k) ∷ step b rest) (step b rest))
      by true same (inl e) later = (past_slash x b t other same e, later)
      by true same (inr e) later = absurd (true≢false (sym same ∙ ap (λ y. y == b) (param_head x t e) ∙ apart))
      by false same e later = later

  pub slashed_none : (b : ℕ) (rs : RowsOf K) (path : List ℕ) → (b == slash) ≡ false → (param_token == b) ≡ false → has_slash path ≡ false → SlashedOrParam rs → seek 0 (step b rs) path ≡ None
  slashed_none b rs path other apart whole h = seek_slashed 0 (step b rs) path whole (step_to_slashed b rs other apart h)

  -- ---- a parameter

  -- after a parameter each row goes on with a slash, or ends
  abbrev pub GoesOn : RowsOf K → Type 0
  GoesOn [] = Unit {0}
  GoesOn ((t, k) ∷ rest) = ((segment t ≡ slash ∷ []) ⊎ (segment t ≡ [])) × GoesOn rest

  longest_end : (s : List ℕ) (rs : RowsOf K) → has_slash s ≡ false → GoesOn rs → longest_from s [] rs ≡ []
  longest_end s [] h g = refl
  longest_end s ((t, k) ∷ rest) h g = by g.0 (longest_end s rest h g.1)
    where
      by : (segment t ≡ slash ∷ []) ⊎ (segment t ≡ []) → longest_from s [] rest ≡ [] → longest_from s (better s [] (segment t)) rest ≡ []
      by (inl e) later = ap (λ u. longest_from s (better s [] u) rest) e ∙ ap (λ v. longest_from s (cond v (slash ∷ []) []) rest) (no_cut s h) ∙ later
      by (inr e) later = ap (λ u. longest_from s (better s [] u) rest) e ∙ later

  longest_kept : (s : List ℕ) (rs : RowsOf K) → GoesOn rs → longest_from s (slash ∷ []) rs ≡ slash ∷ []
  longest_kept s [] g = refl
  longest_kept s ((t, k) ∷ rest) g = by g.0 (longest_kept s rest g.1)
    where
      by : (segment t ≡ slash ∷ []) ⊎ (segment t ≡ []) → longest_from s (slash ∷ []) rest ≡ slash ∷ [] → longest_from s (better s (slash ∷ []) (segment t)) rest ≡ slash ∷ []
      by (inl e) later = ap (λ u. longest_from s (better s (slash ∷ []) u) rest) e ∙ later
      by (inr e) later = ap (λ u. longest_from s (better s (slash ∷ []) u) rest) e ∙ later

  -- and the first of them goes on
  abbrev pub Begins : RowsOf K → Type 0
  Begins [] = ⊥
  Begins ((t, k) ∷ rest) = (segment t ≡ slash ∷ []) × GoesOn rest

  longest_mid : (b : ℕ) (s : List ℕ) (rs : RowsOf K) → Begins rs → longest_suffix (b ∷ s ++ slash ∷ []) rs ≡ slash ∷ []
  longest_mid b s [] h = absurd h
  longest_mid b s ((t, k) ∷ rest) h =
      ap (λ u. longest_from (b ∷ s ++ slash ∷ []) (better (b ∷ s ++ slash ∷ []) [] u) rest) h.0
      ∙ ap (λ v. longest_from (b ∷ s ++ slash ∷ []) (cond v (slash ∷ []) []) rest) (cuts_slash b s)
      ∙ longest_kept (b ∷ s ++ slash ∷ []) rest h.1

  abbrev taken : RowsOf K → List ℕ → List ℕ → List ℕ → ℕ × RowsOf K
  taken rs path seg suffix = cond (ltb 0 (length suffix)) (length seg - length suffix, with_suffix suffix rs) (cond (has_slash path) (0, []) (length path, rs))

  taken_mid : (rs : RowsOf K) (b : ℕ) (s rest : List ℕ) → has_slash (b ∷ s) ≡ false → longest_suffix (b ∷ s ++ slash ∷ []) rs ≡ slash ∷ []
      → param_step rs (b ∷ s ++ slash ∷ rest) ≡ (suc (length s), with_suffix (slash ∷ []) rs)
  unfolding param_step
  taken_mid rs b s rest whole longest =
      ap (λ seg. taken rs (b ∷ s ++ slash ∷ rest) seg (longest_suffix seg rs)) (segment_slash (b ∷ s) rest whole)
      ∙ ap (λ suffix. taken rs (b ∷ s ++ slash ∷ rest) (b ∷ s ++ slash ∷ []) suffix) longest
      ∙ ap (λ n. (n, with_suffix (slash ∷ []) rs)) (ap (λ n. suc n - 1) (length_pushed s slash) ∙ one_less (suc (length s)))

  taken_end : (rs : RowsOf K) (b : ℕ) (s : List ℕ) → has_slash (b ∷ s) ≡ false → longest_suffix (b ∷ s) rs ≡ [] → param_step rs (b ∷ s) ≡ (suc (length s), rs)
  unfolding param_step
  taken_end rs b s whole longest =
      ap (λ seg. taken rs (b ∷ s) seg (longest_suffix seg rs)) (segment_whole (b ∷ s) whole)
      ∙ ap (λ suffix. taken rs (b ∷ s) (b ∷ s) suffix) longest
      ∙ ap (λ v. cond {A = ℕ × RowsOf K} v (0, []) (suc (length s), rs)) whole

  skips : (s : List ℕ) (rs : RowsOf K) (rest : List ℕ) → seek (length s) rs (s ++ rest) ≡ seek 0 rs rest
  unfolding seek
  skips [] rs rest = refl
  skips (b ∷ s) rs rest = skips s rs rest

  skips_all : (s : List ℕ) (rs : RowsOf K) → seek (length s) rs s ≡ own rs
  unfolding seek
  skips_all [] rs = refl
  skips_all (b ∷ s) rs = skips_all s rs

  -- a part before a slash, where all rows take one
  pub seek_part : (rs : RowsOf K) (b : ℕ) (s rest : List ℕ) (k : K) → has_slash (b ∷ s) ≡ false → (param_token == b) ≡ false → AllParams rs → Begins (step param_token rs)
      → seek 0 (steps (slash ∷ []) (with_suffix (slash ∷ []) (step param_token rs))) rest ≡ Some k → seek 0 rs (b ∷ s ++ slash ∷ rest) ≡ Some k
  unfolding seek
  seek_part rs b s rest k whole other all begins found =
      let qs = step param_token rs in
      ap (λ o. or_else o (or_else (seek ((param_step qs (b ∷ s ++ slash ∷ rest)).0 - 1) (param_step qs (b ∷ s ++ slash ∷ rest)).1 (s ++ slash ∷ rest)) (own (step catch_all_token rs))))
      (params_none b rs (s ++ slash ∷ rest) other all)
      ∙ ap (λ (p : ℕ × RowsOf K). or_else (seek (p.0 - 1) p.1 (s ++ slash ∷ rest)) (own (step catch_all_token rs))) (taken_mid qs b s rest whole (longest_mid b s qs begins))
      ∙ ap (λ n. or_else (seek n (with_suffix (slash ∷ []) qs) (s ++ slash ∷ rest)) (own (step catch_all_token rs))) (one_less (length s))
      ∙ ap (λ o. or_else o (own (step catch_all_token rs)))
      (skips s (with_suffix (slash ∷ []) qs) (slash ∷ rest) ∙ seek_literals (slash ∷ []) (with_suffix (slash ∷ []) qs) rest k found)

  -- the last part, where no row goes on with its bytes
  pub seek_end : (rs : RowsOf K) (b : ℕ) (s : List ℕ) (k : K) → has_slash (b ∷ s) ≡ false → seek 0 (step b rs) s ≡ None → GoesOn (step param_token rs)
      → own (step param_token rs) ≡ Some k → seek 0 rs (b ∷ s) ≡ Some k
  unfolding seek
  seek_end rs b s k whole none goes found =
      let qs = step param_token rs in
      ap (λ o. or_else o (or_else (seek ((param_step qs (b ∷ s)).0 - 1) (param_step qs (b ∷ s)).1 s) (own (step catch_all_token rs)))) none
      ∙ ap (λ (p : ℕ × RowsOf K). or_else (seek (p.0 - 1) p.1 s) (own (step catch_all_token rs))) (taken_end qs b s whole (longest_end (b ∷ s) qs whole goes))
      ∙ ap (λ n. or_else (seek n qs s) (own (step catch_all_token rs))) (one_less (length s))
      ∙ ap (λ o. or_else o (own (step catch_all_token rs))) (skips_all s qs ∙ found)
