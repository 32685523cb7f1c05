-- Values of labels, looked up by their bytes.
use Rattle.std.proofs.Common.{◌≡◌, ℕ, Bool, true, false, cond, ◌&&◌, ◌||◌, List, [], ◌∷◌, map, Option, Some, Global, String, nat_cmp, refl, ap}
use Rattle.std.specs.Prelude.{option_map, string_bytes}
use Rattle.std.specs.BTreeMap.{is_at}
use Rattle.std.specs.Cmp.Lexicographic.{slice_cmp}
use Rattle.std.specs.List.{list_any, list_all}
use Rattle.std.specs.Map.{lookup}
use Rattle.std.specs.Str.{bytes_eq}
use Rattle.std.proofs.lemmas.Map.Text.{is_eq-slice_cmp}

pub value_at-entries : (key : List ℕ) (es : List (String Global × String Global))
    → option_map string_bytes (lookup (is_at (λ k. slice_cmp nat_cmp key (string_bytes k))) es) ≡ lookup (bytes_eq key) (map (λ (e : String Global × String Global). (string_bytes e.0, string_bytes e.1)) es)
value_at-entries key [] = refl
value_at-entries key (e ∷ es) = rw is_eq-slice_cmp (go (bytes_eq key (string_bytes e.0)) (lookup (is_at (λ k. slice_cmp nat_cmp key (string_bytes k))) es) _ (value_at-entries key es))
  where
    go : (t : Bool) (z : Option (String Global)) (y : Option (List ℕ)) → option_map string_bytes z ≡ y → option_map string_bytes (cond t (Some e.1) z) ≡ cond t (Some (string_bytes e.1)) y
    go true z y h = refl
    go false z y h = h

pub list_any-map : {A B : Type 0} (f : A → B) (p : B → Bool) (xs : List A) → list_any (λ x. p (f x)) xs ≡ list_any p (map f xs)
list_any-map f p [] = refl
list_any-map f p (x ∷ xs) = ap (λ b. p (f x) || b) (list_any-map f p xs)

pub list_all-map : {A B : Type 0} (f : A → B) (p : B → Bool) (xs : List A) → list_all (λ x. p (f x)) xs ≡ list_all p (map f xs)
list_all-map f p [] = refl
list_all-map f p (x ∷ xs) = ap (λ b. p (f x) && b) (list_all-map f p xs)
