-- What stands inside an element, and the first elements, of the content that a map holds.
use Rattle.std.proofs.Common.{◌≡◌, ℕ, List, [], ◌∷◌, map, String, Global, string_bytes, refl, sym, ap, ◌∙◌, subst}
use Rattle.pathmap.specs.Contents.{Content}
use Rattle.pathmap.specs.Insides.{inside, heads}
use Rattle.pathmap.specs.Maps.{content, contents_in}
use Rattle.pathmap.specs.declared.pathmap.PathMap.{PathMap}

abbrev pub Children : Type 0
Children = List (String Global × PathMap)

-- the children that a content has
abbrev pub children_of : Content → List (List ℕ × Content)
children_of c = map (λ f. (f, inside f c)) (heads c)

-- ---- the first elements

abbrev pub child_names : Children → List (List ℕ)
child_names = map (λ e. string_bytes e.0)

-- ---- each child is what stands inside its name

abbrev pub AreInside : Content → Children → Type 0
AreInside c [] = Unit {0}
AreInside c (e ∷ es) = (inside (string_bytes e.0) c ≡ content e.1) × AreInside c es

-- the same of names and contents
abbrev InsideAll : Content → List (List ℕ × Content) → Type 0
InsideAll c [] = Unit {0}
InsideAll c (x ∷ xs) = (inside x.0 c ≡ x.1) × InsideAll c xs

names-contents : (es : Children) → child_names es ≡ map (λ x. x.0) (contents_in es)
names-contents [] = refl
names-contents (e ∷ es) = ap (λ l. string_bytes e.0 ∷ l) (names-contents es)

names-heads : (c : Content) (hs : List (List ℕ)) → map (λ x. x.0) (map {B = List ℕ × Content} (λ f. (f, inside f c)) hs) ≡ hs
names-heads c [] = refl
names-heads c (h ∷ hs) = ap (λ l. h ∷ l) (names-heads c hs)

inside_heads : (c : Content) (hs : List (List ℕ)) → InsideAll c (map (λ f. (f, inside f c)) hs)
inside_heads c [] = tt
inside_heads c (h ∷ hs) = (refl, inside_heads c hs)

inside_named : (c : Content) (es : Children) → InsideAll c (contents_in es) → AreInside c es
inside_named c [] all = tt
inside_named c (e ∷ es) all = (all.0, inside_named c es all.1)

module _ (c : Content) (es : Children) (are : contents_in es ≡ children_of c) where
  pub heads-names : heads c ≡ child_names es
  heads-names = sym (names-heads c (heads c)) ∙ sym (ap (map (λ x. x.0)) are) ∙ sym (names-contents es)

  pub children-inside : AreInside c es
  children-inside = inside_named c es (subst (InsideAll c) (sym are) (inside_heads c (heads c)))
