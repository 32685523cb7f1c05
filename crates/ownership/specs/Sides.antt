-- Who writes which paths of an object (Kubernetes docs, "Custom Resources", "Status subresource"): the subresource `status` writes
-- the field of that name and what is below it, the main resource all other fields. That is so of a type whose status is apart; of any other the
-- status is a field as others.
use Rattle.std.specs.Prelude.{◌≡◌, Bool, true, false, not, [], ◌∷◌, codes}
use Rattle.std.specs.FinMap as fin
use Rattle.std.specs.FinSet as set
use Rattle.std.specs.Str.{bytes_eq}
use Rattle.fieldpath.specs.Elements.{name_text}
use Rattle.fieldpath.specs.Paths.{PathTexts}
use Rattle.pathmap.specs.Contents.{Content, over}
use Rattle.objects.specs.declared.manager.Subresource.{Subresource}
use Rattle.objects.specs.declared.manager.Subresource.TheVariants.{Main, Status}
use Rattle.objects.specs.Owners.{Manager, owned_by}
use Rattle.objects.specs.WellTyped.{Owns}
use Rattle.objects.specs.State.{State}

-- whether a path is the field `status`, or below it
abbrev pub is_of_status : PathTexts → Bool
is_of_status [] = false
is_of_status (f ∷ p) = bytes_eq f (name_text (codes "status"))

-- whether a subresource writes a path. Where the status is apart, none writes the empty one, below which both have paths; where it isn't, the main
-- resource writes all, and the subresource `status` nothing
abbrev pub writes : Bool → Subresource → PathTexts → Bool
writes true Main [] = false
writes true Main (f ∷ p) = not (bytes_eq f (name_text (codes "status")))
writes true Status p = is_of_status p
writes false Main p = true
writes false Status p = false

-- what a subresource writes of a content, and what it doesn't
unfoldable pub own_part : Bool → Subresource → Content → Content
own_part is_apart s c = fin.retain_keys c (writes is_apart s)

unfoldable pub other_part : Bool → Subresource → Content → Content
other_part is_apart s c = fin.retain_keys c (λ p. not (writes is_apart s p))

-- a subresource's part of a content, beside what it doesn't write of what stands
abbrev pub beside_others : Bool → Subresource → Content → Content → Content
beside_others is_apart s new live = over (own_part is_apart s new) (other_part is_apart s live)

-- each manager owns paths that its subresource writes
abbrev pub OwnSides : Bool → State → Type 0
OwnSides is_apart state = (k : Manager) (p : PathTexts) → Owns state k p → writes is_apart k.subresource p ≡ true

-- each path that a subresource doesn't write has the value and the owners that it had
abbrev pub OtherSideStays : Bool → Subresource → State → State → Type 0
OtherSideStays is_apart s old new =
    (p : PathTexts) → writes is_apart s p ≡ false
    → (fin.get new.content p ≡ fin.get old.content p) × ((k : Manager) → set.contains (owned_by new.owners k) p ≡ set.contains (owned_by old.owners k) p)
