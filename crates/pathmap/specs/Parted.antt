-- The paths of a map by their first element: those of one field, and all others.
use Rattle.std.specs.Prelude.{◌≡◌, Bool, false, not, ℕ, List, [], ◌∷◌, filter}
use Rattle.std.specs.FinMap as fin
use Rattle.std.specs.Str.{bytes_eq}
use Rattle.fieldpath.specs.Elements.{name_text}
use Rattle.fieldpath.specs.Paths.{PathTexts}
use Rattle.pathmap.specs.Contents.{Content, nothing}
use Rattle.pathmap.specs.Insides.{inside}
use Rattle.pathmap.specs.declared.parts.Part.{Part}
use Rattle.pathmap.specs.declared.parts.Part.TheVariants.{Field, Others}

-- whether an element is in the part by the field of this name
abbrev pub has : Part → List ℕ → List ℕ → Bool
has Field name f = bytes_eq f (name_text name)
has Others name f = not (bytes_eq f (name_text name))

-- whether a path is: the empty one is in neither part
abbrev pub is_in : Part → List ℕ → PathTexts → Bool
is_in part name [] = false
is_in part name (f ∷ p) = has part name f

-- what stands in a part, and what stands outside of it
unfoldable pub part_of : Part → List ℕ → Content → Content
part_of part name c = fin.retain_keys c (is_in part name)

unfoldable pub rest_of : Part → List ℕ → Content → Content
rest_of part name c = fin.retain_keys c (λ p. not (is_in part name p))

-- the children in a part, and those outside of it
abbrev pub children_in : Part → List ℕ → List (List ℕ × Content) → List (List ℕ × Content)
children_in part name = filter (λ c. has part name c.0)

abbrev pub children_outside : Part → List ℕ → List (List ℕ × Content) → List (List ℕ × Content)
children_outside part name = filter (λ c. not (has part name c.0))

-- nothing stands at and below the children outside of a part
abbrev pub AreFree : Part → List ℕ → Content → List (List ℕ × Content) → Type 0
AreFree part name c [] = Unit {0}
AreFree part name c (d ∷ ds) = (has part name d.0 ≡ false → inside d.0 c ≡ nothing) × AreFree part name c ds
