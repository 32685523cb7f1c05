-- What a router finds is one of its routes.
use Rattle.std.proofs.Common.{◌≡◌, ℕ, zero, suc, Bool, true, false, cond, ltb, List, [], ◌∷◌, length, ◌-◌, ◌==◌, Option, Some, None, subst}
use Rattle.matchit.specs.Rows.{RowsOf, param_token, catch_all_token}
use Rattle.matchit.specs.Seek.{own, step, or_else, segment, has_slash, same_text, longest_suffix, with_suffix, param_step, seek, first}

module _ {K : Type 0} (P : K → Type 0) where
  abbrev pub AllRows : RowsOf K → Type 0
  AllRows [] = Unit {0}
  AllRows ((t, k) ∷ rest) = P k × AllRows rest

  abbrev pub IfFound : Option K → Type 0
  IfFound None = Unit {0}
  IfFound (Some k) = P k

  own_all : (rs : RowsOf K) → AllRows rs → IfFound (own rs)
  own_all [] h = tt
  own_all (([], k) ∷ rest) h = h.0
  own_all ((x ∷ t, k) ∷ rest) h = own_all rest h.1

  cond_all : (b : Bool) (xs ys : RowsOf K) → AllRows xs → AllRows ys → AllRows (cond b xs ys)
  cond_all true xs ys h k = h
  cond_all false xs ys h k = k

  step_all : (b : ℕ) (rs : RowsOf K) → AllRows rs → AllRows (step b rs)
  step_all b [] h = tt
  step_all b (([], k) ∷ rest) h = step_all b rest h.1
  step_all b ((x ∷ t, k) ∷ rest) h = cond_all (x == b) ((t, k) ∷ step b rest) (step b rest) (h.0, step_all b rest h.1) (step_all b rest h.1)

  with_suffix_all : (s : List ℕ) (rs : RowsOf K) → AllRows rs → AllRows (with_suffix s rs)
  with_suffix_all s [] h = tt
  with_suffix_all s ((t, k) ∷ rest) h = cond_all (same_text (segment t) s) ((t, k) ∷ with_suffix s rest) (with_suffix s rest) (h.0, with_suffix_all s rest h.1) (with_suffix_all s rest h.1)

  param_step_all : (rs : RowsOf K) (path : List ℕ) → AllRows rs → AllRows (param_step rs path).1
  unfolding param_step
  param_step_all rs path h = go (ltb 0 (length (longest_suffix (segment path) rs))) (has_slash path)
    where
      go : (a b : Bool) → AllRows (cond {A = ℕ × RowsOf K} a (length (segment path) - length (longest_suffix (segment path) rs), with_suffix (longest_suffix (segment path) rs) rs) (cond {A = ℕ × RowsOf K} b (0, []) (length path, rs))).1
      go true b = with_suffix_all (longest_suffix (segment path) rs) rs h
      go false true = tt
      go false false = h

  or_else_all : (x y : Option K) → IfFound x → IfFound y → IfFound (or_else x y)
  or_else_all None y h k = k
  or_else_all (Some x) y h k = h

  seek_all : (n : ℕ) (rs : RowsOf K) (path : List ℕ) → AllRows rs → IfFound (seek n rs path)
  unfolding seek
  seek_all n rs [] h = own_all rs h
  seek_all (suc n) rs (b ∷ path) h = seek_all n rs path h
  seek_all zero rs (b ∷ path) h =
      or_else_all _ _ (seek_all 0 (step b rs) path (step_all b rs h))
      (or_else_all _ _ (seek_all ((param_step (step param_token rs) (b ∷ path)).0 - 1) (param_step (step param_token rs) (b ∷ path)).1 path (param_step_all (step param_token rs) (b ∷ path) (step_all param_token rs h)))
      (own_all (step catch_all_token rs) (step_all catch_all_token rs h)))

  pub found_all : (rs : RowsOf K) (path : List ℕ) (k : K) → AllRows rs → first rs path ≡ Some k → P k
  found_all rs path k h e = subst IfFound e (seek_all 0 rs path h)
