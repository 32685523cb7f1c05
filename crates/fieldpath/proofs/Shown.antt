-- The elements of a path, shown one after another.
use Rattle.std.proofs.Common.{◌≡◌, List, ℕ, [], ◌∷◌, ◌++◌, flat_map, map, Ok, Result, refl, sym, ap, ap₂, ◌∙◌}
use Rattle.fieldpath.specs.Elements.{Element, NoElement, shown, shown_element, shown_read, read_element}
use Rattle.fieldpath.specs.ElementViews.{element}
use Rattle.fieldpath.specs.declared.elem.Elem.{Elem}

shown-cons : (t : List ℕ) (ts : List (List ℕ)) → shown (t ∷ ts) ≡ shown_read (read_element t) ++ shown ts
unfolding shown
shown-cons t ts = refl

shown-none : shown [] ≡ []
unfolding shown
shown-none = refl

abbrev first_or : Result Element NoElement → List (Result Element NoElement) → Result Element NoElement
first_or r [] = r
first_or r (x ∷ xs) = x

abbrev rest_of : List (Result Element NoElement) → List (Result Element NoElement)
rest_of [] = []
rest_of (x ∷ xs) = xs

pub shown-elems : (es : List Elem) (ts : List (List ℕ)) → map Ok (map element es) ≡ map read_element ts → flat_map (λ e. shown_element (element e)) es ≡ shown ts
shown-elems [] [] h = sym shown-none
shown-elems [] (t ∷ ts) h = absurd cc
shown-elems (e ∷ es) [] h = absurd cc
shown-elems (e ∷ es) (t ∷ ts) h =
    ap₂ (λ a b. a ++ b) (ap (λ rs. shown_read (first_or (Ok (element e)) rs)) h) (shown-elems es ts (ap rest_of h)) ∙ sym (shown-cons t ts)
