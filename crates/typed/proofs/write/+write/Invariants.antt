use Rattle.std.proofs.Common.{◌≡◌, ℕ, List, ◌∷◌, [], drop, option_map}
use Rattle.pathmap.specs.Insides.{heads, inside}
use Rattle.pathmap.specs.Maps.{content}
use Rattle.schema.specs.Shape.{keyed, list_of, shape}
use Rattle.typed.specs.Printing.{print}
use Rattle.typed.specs.Rows.{EachFits, Fits, item_of}
use Rattle.typed.specs.Writes.{with_pairs}
use Rattle.typed.proofs.Insides.{AreInside, child_names}
use Rattle.typed.proofs.ItemTexts.{ItemFits}
use Rattle.typed.proofs.ItemTexts as items
use Rattle.typed.proofs.Wholes.{Wrote}
use Rattle.typed.proofs.write.+write.Given as goal

-- what is there with what is left is all
abbrev pub invariant-write_fields-loop-name : goal.invariant-write_fields-loop-name
invariant-write_fields-loop-name l = Wrote (option_map (λ b. b.now) l.low) (option_map (λ b. b.now) l.high) l.fields l.name-index (content l.map) l.fn.out l.out

-- and each child that is left is what stands inside its name
abbrev pub invariant-write_children-loop-element : goal.invariant-write_children-loop-element
invariant-write_children-loop-element l =
    let inner = λ (e : List ℕ). print (shape l.inner) (inside e (content l.map)) in
    AreInside (content l.map) (drop l.element-index l.children)
    × (EachFits (shape l.inner) (content l.map) → with_pairs inner (child_names (drop l.element-index l.children)) l.out ≡ with_pairs inner (heads (content l.map)) l.fn.out)

abbrev pub invariant-write_items-loop-element : goal.invariant-write_items-loop-element
invariant-write_items-loop-element l =
    AreInside (content l.map) (drop l.element-index l.children)
    × (Fits (list_of (shape l.inner) (keyed (l.name ∷ []))) (content l.map)
    → items.Wrote (ItemFits l.name (shape l.inner) (content l.map)) (item_of (shape l.inner) (content l.map)) (content l.map) (drop l.element-index l.children) l.fn.out l.out)
