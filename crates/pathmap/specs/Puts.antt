-- A content put under a name.
use Rattle.std.specs.Prelude.{ℕ, List, [], ◌∷◌}
use Rattle.pathmap.specs.Contents.{Content}
use Rattle.pathmap.specs.Merged.{merged}

abbrev pub put_in : List ℕ → Content → List (List ℕ × Content) → List (List ℕ × Content)
put_in f c cs = merged (λ x y. x) ((f, c) ∷ []) cs
