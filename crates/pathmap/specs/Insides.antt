-- What stands at and below an element, and the first elements.
use Rattle.std.specs.Prelude.{ℕ, List, [], ◌∷◌, if◌then◌else◌}
use Rattle.std.specs.List.{list_any}
use Rattle.std.specs.Str.{bytes_eq}
use Rattle.std.specs.FinMap as fin
use Rattle.fieldpath.specs.Paths.{PathTexts, path_cmp}

abbrev pub with_head : PathTexts → List (List ℕ) → List (List ℕ)
with_head [] hs = hs
with_head (g ∷ rest) hs = if list_any (bytes_eq g) hs then hs else g ∷ hs

module _ {X : Type 0} where
  abbrev pub tail_of : List ℕ → PathTexts → X → List (PathTexts × X) → List (PathTexts × X)
  tail_of f [] v es = es
  tail_of f (g ∷ rest) v es = if bytes_eq f g then (rest, v) ∷ es else es

  abbrev pub tails : List ℕ → List (PathTexts × X) → List (PathTexts × X)
  tails f [] = []
  tails f (e ∷ es) = tail_of f e.0 e.1 (tails f es)

  -- the map at and below an element: get (inside f m) q is get m (f ∷ q)
  unfoldable pub inside : List ℕ → fin.FinMap path_cmp X → fin.FinMap path_cmp X
  inside f m = fin.from_entries (tails f (fin.entries m))

  abbrev pub heads_of : List (PathTexts × X) → List (List ℕ)
  heads_of [] = []
  heads_of (e ∷ es) = with_head e.0 (heads_of es)

  -- the first elements of the paths, each once, in order
  unfoldable pub heads : fin.FinMap path_cmp X → List (List ℕ)
  heads m = heads_of (fin.entries m)
