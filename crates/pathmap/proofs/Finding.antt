-- What stands at a path, and below it.
use Rattle.std.proofs.Common.{◌≡◌, ℕ, suc, ◌<◌, ◌+◌, true, List, [], ◌∷◌, ◌++◌, length, map, drop, get_or, drop-cons, add-one, Option, Some, None, is_some, IfSome, String, Global, Bor, string_bytes, sym, ap, ◌∙◌}
use Rattle.std.specs.Option.{option_map}
use Rattle.std.specs.FinMap as fin
use Rattle.std.proofs.lemmas.List.{append-nil}
use Rattle.fieldpath.specs.Paths.{PathTexts}
use Rattle.pathmap.specs.Beside.{has_at_or_below}
use Rattle.pathmap.specs.Contents.{Content, dom}
use Rattle.pathmap.specs.Insides.{inside}
use Rattle.pathmap.specs.Levels.{has_path, leaf_value}
use Rattle.pathmap.specs.Maps.{content, content_or_nothing}
use Rattle.pathmap.specs.declared.held.PathValue.{PathValue}
use Rattle.pathmap.specs.declared.pathmap.PathMap.{PathMap}
use Rattle.pathmap.proofs.Contents.{same}
use Rattle.pathmap.proofs.Insides.{get-inside}
use Rattle.pathmap.proofs.Levels.{nothing_path}
use Rattle.pathmap.proofs.Sets.{has_below-at}

-- d is what stands in c at and below p
abbrev pub IsAt : PathTexts → Content → Content → Type 0
IsAt p c d = (q : PathTexts) → fin.get d q ≡ fin.get c (p ++ q)

pub texts_more : (texts : List (String Global)) (i : ℕ) (text : String Global) → i < length texts → text ≡ get_or texts i text → map string_bytes (drop i texts) ≡ string_bytes text ∷ map string_bytes (drop (i + 1) texts)
texts_more texts i text lt is = rw add-one (ap (map string_bytes) (drop-cons texts i text lt) ∙ ap (λ t. string_bytes t ∷ map string_bytes (drop (suc i) texts)) (sym is))

pub get_at : (c d : Content) (p : PathTexts) → IsAt p c d → fin.get d [] ≡ fin.get c p
get_at c d p at = at [] ∙ ap (fin.get c) (append-nil p)

pub has_at : (p : PathTexts) (c d : Content) → IsAt p c d → has_at_or_below (dom c) p ≡ has_at_or_below (dom d) []
has_at [] c d at = ap (λ m. has_at_or_below (dom m) []) (same c d (λ q. sym (at q)))
has_at (g ∷ p) c d at = has_below-at g c (inside g c) (get-inside g c) p ∙ has_at p (inside g c) d (λ q. at q ∙ sym (get-inside g c (p ++ q)))

pub held-map : (h : Option (Bor PathValue)) (m : Option PathValue) → option_map (λ x. x.now) h ≡ m → option_map (λ x. leaf_value x.now) h ≡ option_map leaf_value m
held-map None m is = ap (option_map leaf_value) is
held-map (Some h) m is = ap (option_map leaf_value) is

-- ---- a child that has a path

-- the one found has a path, as each of them has
pub full_found : (o : Option (Bor PathMap)) (c : Option Content) → option_map (λ m. content m.now) o ≡ c → is_some c ≡ has_path (content_or_nothing c) → IfSome o (λ m. has_path (content m.now) ≡ true)
full_found None c is full = tt
full_found (Some m) c is full = ap (λ o. has_path (content_or_nothing o)) is ∙ sym full ∙ ap is_some (sym is)

-- one is found exactly if there is a path
pub full_there : (o : Option (Bor PathMap)) → IfSome o (λ m. has_path (content m.now) ≡ true) → is_some o ≡ has_path (content_or_nothing (option_map (λ m. m.now) o))
full_there None full = sym nothing_path
full_there (Some m) full = sym full
