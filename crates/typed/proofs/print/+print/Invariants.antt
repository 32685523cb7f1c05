use Rattle.std.proofs.Common.{◌≡◌, ℕ, List, drop, option_map}
use Rattle.serde_json.specs.Data.{object}
use Rattle.serde_json.specs.View.{members_view}
use Rattle.pathmap.specs.Maps.{content}
use Rattle.pathmap.specs.Insides.{inside, heads}
use Rattle.schema.specs.Shape.{shape, fields_in}
use Rattle.typed.specs.Printing.{each_member, keys_in, print, print_fields, print_item}
use Rattle.typed.proofs.Insides.{AreInside, child_names}
use Rattle.typed.proofs.Prints.{AllItems}
use Rattle.typed.proofs.print.+print.Given as goal

-- what is there and what is left give all; each child that is left is what stands inside its name
abbrev pub invariant-print_items-loop-element : goal.invariant-print_items-loop-element
invariant-print_items-loop-element l =
    let inner = λ (e : List ℕ). option_map (λ ms. object (print_item (shape l.inner) (inside e (content l.map)) ms)) (keys_in e) in
    AllItems inner (content l.map) l.items.items (drop l.element-index l.children) × AreInside (content l.map) (drop l.element-index l.children)

abbrev pub invariant-put_each-loop-element : goal.invariant-put_each-loop-element
invariant-put_each-loop-element l =
    let inner = λ (e : List ℕ). print (shape l.inner) (inside e (content l.map)) in
    (each_member inner (child_names (drop l.element-index l.children)) (members_view l.members.entries) ≡ each_member inner (heads (content l.map)) (members_view l.fn.members.entries)) × AreInside (content l.map) (drop l.element-index l.children)

-- what is left of the fields gives the rest
abbrev pub invariant-put_fields-loop-name : goal.invariant-put_fields-loop-name
invariant-put_fields-loop-name l =
    print_fields (fields_in (drop l.name-index l.fields)) (content l.map) (members_view l.members.entries) ≡ print_fields (fields_in l.fields) (content l.map) (members_view l.fn.members.entries)
