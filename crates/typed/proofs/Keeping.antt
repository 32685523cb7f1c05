-- What is put over a content, what is left of one, and what is read is one.
use Rattle.std.proofs.Common.{◌≡◌, ◌||◌, ℕ, Bool, true, false, cond, List, [], ◌∷◌, ◌++◌, Option, Some, None, is_some, refl, sym, ap, ◌∙◌, true≢false}
use Rattle.std.proofs.lemmas.Bool.{and_parts}
use Rattle.std.specs.Cmp.Derive.{both_true}
use Rattle.std.specs.FinMap as fin
use Rattle.std.specs.FinSet as set
use Rattle.std.specs.List.{list_any}
use Rattle.std.specs.Str.{bytes_eq}
use Rattle.fieldpath.specs.Paths.{PathTexts}
use Rattle.pathmap.specs.Beside.{has_at_or_above, is_prefix}
use Rattle.pathmap.specs.Contents.{LeafValue, Content, PathSet}
use Rattle.pathmap.proofs.Contents.{path_cmp_antisymmetric, either, get-over}
use Rattle.pathmap.proofs.Sets.{get-without}
use Rattle.schema.specs.Shape.{Shape}
use Rattle.typed.specs.Fitting.{FitsAt, IsClosed, IsContent, OversAreContents, RemainsAreContents, ReadingsAreContents}
use Rattle.typed.proofs.Fitting.{no_mark_on_top, well_typed_content}
use Rattle.typed.proofs.Placing.{well_typed}

either_is : (P : LeafValue → Type 0) (a b : Option LeafValue) (v : LeafValue) → ((w : LeafValue) → a ≡ Some w → P w) → ((w : LeafValue) → b ≡ Some w → P w) → either a b ≡ Some v → P v
either_is P None b v mine theirs h = theirs v h
either_is P (Some w) b v mine theirs h = mine v h

one_of_two : (a b : Option LeafValue) (P : Type 0) → is_some (either a b) ≡ true → (is_some a ≡ true → P) → (is_some b ≡ true → P) → P
one_of_two None b P h mine theirs = theirs h
one_of_two (Some w) b P h mine theirs = mine h

mine_stands : (a b : Option LeafValue) → is_some a ≡ true → is_some (either a b) ≡ true
mine_stands None b h = absurd (true≢false (sym h))
mine_stands (Some w) b h = refl

theirs_stands : (a b : Option LeafValue) → is_some b ≡ true → is_some (either a b) ≡ true
theirs_stands None b h = h
theirs_stands (Some w) b h = refl

pub over_content : OversAreContents
over_content s c d mine theirs = (
  (λ p v h. either_is (FitsAt s p) (fin.get c p) (fin.get d p) v (mine.0 p) (theirs.0 p) (sym (get-over c d p) ∙ h)),
  λ p q fit h. ap is_some (get-over c d p)
      ∙ one_of_two (fin.get c (p ++ q)) (fin.get d (p ++ q)) (is_some (either (fin.get c p) (fin.get d p)) ≡ true) (sym (ap is_some (get-over c d (p ++ q))) ∙ h)
      (λ t. mine_stands (fin.get c p) (fin.get d p) (mine.1 p q fit t)) (λ t. theirs_stands (fin.get c p) (fin.get d p) (theirs.1 p q fit t)),
)

left_is : (b : Bool) (o : Option LeafValue) (v : LeafValue) → cond b None o ≡ Some v → o ≡ Some v
left_is true o v h = absurd (true≢false (sym (ap is_some h)))
left_is false o v h = h

any_more : (p q : PathTexts → Bool) → ((x : PathTexts) → p x ≡ true → q x ≡ true) → (xs : List PathTexts) → list_any p xs ≡ true → list_any q xs ≡ true
any_more p q more [] h = h
any_more p q more (x ∷ xs) h = by_first (p x) refl h (any_more p q more xs)
  where
    other_too : (a b : Bool) → b ≡ true → (a || b) ≡ true
    other_too true b t = refl
    other_too false b t = t

    by_first : (b : Bool) → p x ≡ b → (b || list_any p xs) ≡ true → (list_any p xs ≡ true → list_any q xs ≡ true) → (q x || list_any q xs) ≡ true
    by_first true is h later = ap (λ b. b || list_any q xs) (more x is)
    by_first false is h later = other_too (q x) (list_any q xs) (later h)

prefix_more : (x p q : PathTexts) → is_prefix x p ≡ true → is_prefix x (p ++ q) ≡ true
prefix_more [] p q h = refl
prefix_more (f ∷ x) [] q h = absurd (true≢false (sym h))
prefix_more (f ∷ x) (g ∷ p) q h = let k = and_parts (bytes_eq f g) (is_prefix x p) h in both_true k.0 (prefix_more x p q k.1)

above_more : (s : PathSet) (p q : PathTexts) → has_at_or_above s p ≡ true → has_at_or_above s (p ++ q) ≡ true
unfolding has_at_or_above
above_more s p q h = any_more (λ x. is_prefix x p) (λ x. is_prefix x (p ++ q)) (λ x t. prefix_more x p q t) (set.items s) h

pub without_content : RemainsAreContents
without_content s c paths content = (
  (λ p v h. content.0 p v (left_is (has_at_or_above paths p) (fin.get c p) v (sym (get-without c paths p) ∙ h))),
  λ p q fit h. ap is_some (get-without c paths p) ∙ by_test p q fit (has_at_or_above paths p) refl (has_at_or_above paths (p ++ q)) refl (sym (ap is_some (get-without c paths (p ++ q))) ∙ h),
)
  where
    by_test : (p q : PathTexts) → FitsAt s p Rattle.pathmap.specs.Contents.mark → (a : Bool) → has_at_or_above paths p ≡ a → (b : Bool) → has_at_or_above paths (p ++ q) ≡ b → is_some (cond b None (fin.get c (p ++ q))) ≡ true → is_some (cond a None (fin.get c p)) ≡ true
    by_test p q fit a is true more h = absurd (true≢false (sym h))
    by_test p q fit true is false more h = absurd (true≢false (sym (above_more paths p q is) ∙ more))
    by_test p q fit false is false more h = content.1 p q fit h

-- what is left of the paths whose first elements pass a test
pub retained_content : (s : Shape) (c : Content) (keep : PathTexts → Bool) → ((f : List ℕ) (p q : PathTexts) → keep (f ∷ p) ≡ keep (f ∷ q)) → IsContent s c → IsContent s (fin.retain_keys c keep)
retained_content s c keep alike content = ((λ p v h. content.0 p v (kept_is (keep p) (fin.get c p) v (sym (get-kept p) ∙ h))), closed)
  where
    get-kept : (p : PathTexts) → fin.get (fin.retain_keys c keep) p ≡ cond (keep p) (fin.get c p) None
    get-kept p = fin.get-retain_keys c keep p (λ x t. ap keep (sym (path_cmp_antisymmetric p x t)))

    kept_is : (b : Bool) (o : Option LeafValue) (v : LeafValue) → cond b o None ≡ Some v → o ≡ Some v
    kept_is true o v h = h
    kept_is false o v h = absurd (true≢false (sym (ap is_some h)))

    by_test : (a b : Bool) (o p : Option LeafValue) → a ≡ b → (is_some o ≡ true → is_some p ≡ true) → is_some (cond a o None) ≡ true → is_some (cond b p None) ≡ true
    by_test true true o p same stays h = stays h
    by_test true false o p same stays h = absurd (true≢false same)
    by_test false b o p same stays h = absurd (true≢false (sym h))

    closed : IsClosed s (fin.retain_keys c keep)
    closed [] q fit h = no_mark_on_top s fit
    closed (f ∷ p) q fit h =
        ap is_some (get-kept (f ∷ p))
        ∙ by_test (keep (f ∷ p ++ q)) (keep (f ∷ p)) (fin.get c (f ∷ p ++ q)) (fin.get c (f ∷ p)) (alike f (p ++ q) p) (content.1 (f ∷ p) q fit) (sym (ap is_some (get-kept (f ∷ p ++ q))) ∙ h)

pub reading_content : ReadingsAreContents
reading_content s d c lawful encodable shallow h = well_typed_content s c (well_typed s d c lawful encodable shallow h)
