-- Leaves, what stands below them, and the rest are all that becomes of a content.
use Rattle.std.proofs.Common.{◌≡◌, ℕ, Bool, true, false, true≢false, List, [], ◌∷◌, ◌++◌, append-nil, Option, Some, None, is_some, inl, inr, ◌⊎◌, refl, sym, ap, subst, ◌∙◌}
use Rattle.std.specs.FinMap as fin
use Rattle.fieldpath.specs.Paths.{PathTexts}
use Rattle.pathmap.proofs.Contents.{same}
use Rattle.schema.specs.Place.{place_of}
use Rattle.schema.specs.declared.place.Place.{Place}
use Rattle.schema.specs.declared.place.Place.TheVariants.{Leaf, SetItem, MapItem}
use Rattle.typed.specs.Carried.{CarriedIsOne, IsNewLeaf}

-- ---- paths, some of whose prefixes have a property

abbrev is_end : PathTexts → Bool
is_end [] = true
is_end (e ∷ p) = false

abbrev first_or : List ℕ → PathTexts → List ℕ
first_or g [] = g
first_or g (e ∷ p) = e

abbrev rest_of : PathTexts → PathTexts
rest_of [] = []
rest_of (e ∷ p) = p

abbrev HasPrefix : (PathTexts → Type 0) → PathTexts → Type 0
HasPrefix P p = (above : PathTexts) × (rest : PathTexts) × P above × (p ≡ above ++ rest)

abbrev HasNone : (PathTexts → Type 0) → PathTexts → Type 0
HasNone P p = (above rest : PathTexts) → P above → p ≡ above ++ rest → ⊥

none_end : (P : PathTexts → Type 0) → (P [] → ⊥) → HasNone P []
none_end P out [] rest has is = out has
none_end P out (g ∷ above) rest has is = true≢false (ap is_end is)

none_more : (P : PathTexts → Type 0) (e : List ℕ) (q : PathTexts) → (P [] → ⊥) → HasNone (λ a. P (e ∷ a)) q → HasNone P (e ∷ q)
none_more P e q out later [] rest has is = out has
none_more P e q out later (g ∷ above) rest has is = later above rest (has_at g has (ap (first_or e) is)) (ap rest_of is)
  where
    has_at : (f : List ℕ) → P (f ∷ above) → e ≡ f → P (e ∷ above)
    has_at f has is = subst (λ x. P (x ∷ above)) (sym is) has

prefixes : (P : PathTexts → Type 0) → ((p : PathTexts) → P p ⊎ (P p → ⊥)) → (p : PathTexts) → HasPrefix P p ⊎ HasNone P p
prefixes P test [] = by_test (test [])
  where
    by_test : P [] ⊎ (P [] → ⊥) → HasPrefix P [] ⊎ HasNone P []
    by_test (inl has) = inl ([], [], has, refl)
    by_test (inr out) = inr (none_end P out)
prefixes P test (e ∷ q) = by_test (test []) (prefixes (λ a. P (e ∷ a)) (λ a. test (e ∷ a)) q)
  where
    by_test : P [] ⊎ (P [] → ⊥) → HasPrefix (λ a. P (e ∷ a)) q ⊎ HasNone (λ a. P (e ∷ a)) q → HasPrefix P (e ∷ q) ⊎ HasNone P (e ∷ q)
    by_test (inl has) later = inl ([], e ∷ q, has, refl)
    by_test (inr out) (inl (above, rest, has, is)) = inl (e ∷ above, rest, has, ap (λ p. e ∷ p) is)
    by_test (inr out) (inr none) = inr (none_more P e q out none)

-- ---- new leaves

abbrev is_leaf_place : Option Place → Bool
is_leaf_place None = false
is_leaf_place (Some Leaf) = true
is_leaf_place (Some SetItem) = false
is_leaf_place (Some MapItem) = false

places_tell : (o q : Option Place) → ((o ≡ None) × (q ≡ Some Leaf)) ⊎ ((o ≡ None) × (q ≡ Some Leaf) → ⊥)
places_tell (Some x) q = inr (λ is. true≢false (ap is_some is.0))
places_tell None None = inr (λ is. true≢false (sym (ap is_some is.1)))
places_tell None (Some Leaf) = inl (refl, refl)
places_tell None (Some SetItem) = inr (λ is. true≢false (sym (ap is_leaf_place is.1)))
places_tell None (Some MapItem) = inr (λ is. true≢false (sym (ap is_leaf_place is.1)))

pub carried_once : CarriedIsOne
carried_once s t c r x left right = same r x (λ p. from_prefix p (prefixes (IsNewLeaf s t) (λ q. places_tell (place_of s q) (place_of t q)) p))
  where
    at_prefix : (p above rest : PathTexts) → IsNewLeaf s t above → p ≡ above ++ rest → fin.get r p ≡ fin.get x p
    at_prefix p above [] new is = let there = is ∙ append-nil above in ap (fin.get r) there ∙ left.leaves above new ∙ sym (right.leaves above new) ∙ ap (fin.get x) (sym there)
    at_prefix p above (e ∷ q) new is = ap (fin.get r) is ∙ left.below above e q new ∙ sym (right.below above e q new) ∙ ap (fin.get x) (sym is)

    from_prefix : (p : PathTexts) → HasPrefix (IsNewLeaf s t) p ⊎ HasNone (IsNewLeaf s t) p → fin.get r p ≡ fin.get x p
    from_prefix p (inl (above, rest, new, is)) = at_prefix p above rest new is
    from_prefix p (inr none) = left.kept p none ∙ sym (right.kept p none)
