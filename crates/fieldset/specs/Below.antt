-- What a shape has below an element, and what the members at an element are.
use Rattle.std.specs.Prelude.{ℕ, Bool, List, [], Option, Some, None, option_and_then, is_some}
use Rattle.std.specs.FinMap as fin
use Rattle.serde_json.specs.Data.{Members, no_members}
use Rattle.fieldpath.specs.Elements.{field_name}
use Rattle.pathmap.specs.Contents.{Content}
use Rattle.schema.specs.Shape.{atomic, set, keyed, Shape, text, whole, truth, struct_of, map_of, list_of, shape_at}
use Rattle.fieldset.specs.FieldsV1.{members_of, with_item}

-- the shape at an element, where what stands below it has one
abbrev pub shape_below : Shape → List ℕ → Option Shape
shape_below text e = None
shape_below whole e = None
shape_below truth e = None
shape_below (struct_of all is_atomic) e = option_and_then (λ f. shape_at f all) (field_name e)
shape_below (map_of inner is_atomic) e = Some inner
shape_below (list_of inner atomic) e = None
shape_below (list_of inner set) e = None
shape_below (list_of inner (keyed names)) e = Some inner

abbrev pub members_some : Option Shape → Content → Members
members_some None c = no_members
members_some (Some s) c = members_of s c

-- an item of a map list has more members
abbrev pub as_item : Shape → Bool → Members → Members
as_item text is_there ms = ms
as_item whole is_there ms = ms
as_item truth is_there ms = ms
as_item (struct_of all is_atomic) is_there ms = ms
as_item (map_of inner is_atomic) is_there ms = ms
as_item (list_of inner atomic) is_there ms = ms
as_item (list_of inner set) is_there ms = ms
as_item (list_of inner (keyed names)) is_there ms = with_item is_there names ms

-- the members at an element, inside which c stands
abbrev pub members_under : Shape → List ℕ → Content → Members
members_under s e c = as_item s (is_some (fin.get c [])) (members_some (shape_below s e) c)
