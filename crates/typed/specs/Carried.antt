-- What a content is once some sets, map lists and granular maps of its type have become atomic.
-- Server-Side Apply, "Compatibility across topology changes".
use Rattle.std.specs.Prelude.{◌≡◌, ℕ, List, [], ◌∷◌, ◌++◌, Option, Some, None, option_map}
use Rattle.std.specs.declared.result.Result.{Result}
use Rattle.std.specs.declared.result.Result.TheVariants.{Ok, Err}
use Rattle.std.specs.FinMap as fin
use Rattle.serde_json.specs.Data.{Data}
use Rattle.serde_json.specs.Written.{compact_text}
use Rattle.fieldpath.specs.Elements.{Element, NoElement, read_element}
use Rattle.fieldpath.specs.Paths.{PathTexts}
use Rattle.pathmap.specs.Contents.{Content, nothing, plain}
use Rattle.pathmap.specs.Insides.{inside}
use Rattle.schema.specs.Place.{place_of}
use Rattle.schema.specs.Shape.{Shape}
use Rattle.schema.specs.Steps.{TypeRef, value_of, step}
use Rattle.schema.specs.declared.place.Place.TheVariants.{Leaf}
use Rattle.typed.specs.Faults.{Read}
use Rattle.typed.specs.Fitting.{IsPresent}
use Rattle.typed.specs.Printing.{print}
use Rattle.typed.specs.Reading.{content_of}

-- ---- the content carried

abbrev pub content_or_nothing : Read Content → Content
content_or_nothing (Ok c) = c
content_or_nothing (Err e) = nothing

abbrev pub content_printed : Shape → Option Data → Content
content_printed t None = nothing
content_printed t (Some d) = content_or_nothing (content_of t d)

-- what is printed under the old shape is read under the new one
unfoldable pub carried : Shape → Shape → Content → Content
carried s t c = content_printed t (print s c)

-- ---- what that makes of it

-- where a set, map list or granular map has become an atomic value
abbrev pub IsNewLeaf : Shape → Shape → PathTexts → Type 0
IsNewLeaf s t p = (place_of s p ≡ None) × (place_of t p ≡ Some Leaf)

-- where an element leads that was read of its text
abbrev pub step_read : TypeRef → Result Element NoElement → Option TypeRef
step_read type_ref (Ok e) = step type_ref e
step_read type_ref (Err n) = None

abbrev pub printed_here : Option TypeRef → Content → Option Data
printed_here (Some (value_of s)) c = print s c
printed_here _ c = None

-- what is printed of the value at a path, from a spot on
abbrev pub printed_from : Option TypeRef → PathTexts → Content → Option Data
printed_from type_ref [] c = printed_here type_ref c
printed_from None (e ∷ p) c = None
printed_from (Some type_ref) (e ∷ p) c = printed_from (step_read type_ref (read_element e)) p (inside e c)

abbrev pub printed_at : Shape → PathTexts → Content → Option Data
printed_at s = printed_from (Some (value_of s))

-- what becomes of a content
pub record IsCarried (s t : Shape) (c r : Content) : Type 0 where
  -- a new leaf is the compact text of what was printed there, if anything was
  pub leaves : (p : PathTexts) → IsNewLeaf s t p → fin.get r p ≡ option_map (λ d. plain (compact_text d)) (printed_at s p c)
  -- nothing stands below it
  pub below : (p : PathTexts) (e : List ℕ) (q : PathTexts) → IsNewLeaf s t p → fin.get r (p ++ e ∷ q) ≡ None
  -- what stands neither at a new leaf nor below one stays
  pub kept : (p : PathTexts) → ((above rest : PathTexts) → IsNewLeaf s t above → p ≡ above ++ rest → ⊥) → fin.get r p ≡ fin.get c p

-- a new leaf is there if something stood at or below it
abbrev pub LeavesStand : Shape → Shape → Content → Content → Type 0
LeavesStand s t c r = (p q : PathTexts) → IsNewLeaf s t p → IsPresent c (p ++ q) → IsPresent r p

-- that is all there is to say of it
abbrev pub CarriedIsOne : Type 0
CarriedIsOne = (s t : Shape) (c r x : Content) → IsCarried s t c r → IsCarried s t c x → r ≡ x
