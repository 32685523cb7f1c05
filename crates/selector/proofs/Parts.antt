-- Parts of a text between commas.
use Rattle.std.proofs.Common.{◌≡◌, ℕ, Bool, true, false, cond, eqb, not, ◌&&◌, List, [], ◌∷◌, Option, Some, None, refl, ap}
use Rattle.selector.specs.Grammar.{first_part, is_inside_after, onto_first, cut_at_commas}

-- the parts after the first
abbrev pub parts_after : Option (List ℕ) → List (List ℕ)
parts_after None = []
parts_after (Some rest) = cut_at_commas false rest

abbrev listed : List ℕ × Option (List ℕ) → List (List ℕ)
listed p = p.0 ∷ parts_after p.1

pub first_and_rest : (inside : Bool) (text : List ℕ) → cut_at_commas inside text ≡ (first_part inside text).0 ∷ parts_after (first_part inside text).1
first_and_rest inside [] = refl
first_and_rest inside (b ∷ bs) = go inside (eqb b 44) (first_and_rest (is_inside_after inside b) bs)
  where
    go : (i t : Bool) → cut_at_commas (is_inside_after i b) bs ≡ (first_part (is_inside_after i b) bs).0 ∷ parts_after (first_part (is_inside_after i b) bs).1
        → cond (t && not i) ([] ∷ cut_at_commas i bs) (onto_first b (cut_at_commas (is_inside_after i b) bs))
        ≡ listed (cond (t && not i) ([], Some bs) (b ∷ (first_part (is_inside_after i b) bs).0, (first_part (is_inside_after i b) bs).1))
    go true true h = ap (onto_first b) h
    go true false h = ap (onto_first b) h
    go false true h = refl
    go false false h = ap (onto_first b) h
