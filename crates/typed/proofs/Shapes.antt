-- A schema, level by level.
use Rattle.std.proofs.Common.{◌≡◌, ℕ, Bool, false, List, [], String, Vec, Box, Global, Ok, rules, refl, sym, ap, ◌∙◌}
use Rattle.serde_json.specs.Data.{Data, Items, Members, object, array}
use Rattle.serde_json.specs.Find.{as_object, as_array}
use Rattle.serde_json.specs.View.{items_view}
use Rattle.serde_json.specs.declared.value.Value.{Value}
use Rattle.schema.specs.KeyNames.{names_in}
use Rattle.schema.proofs.Shapes.{shape-Struct, shape-MapOf, shape-List}
use Rattle.schema.specs.Shape.{shape, text, whole, truth, fields_in, kind_of}
use Rattle.schema.specs.declared.schema.ListKind.{ListKind}
use Rattle.schema.specs.declared.schema.ListKind.TheVariants as kinds
use Rattle.schema.specs.declared.schema.Schema as schemas
use Rattle.schema.specs.declared.schema.Schema.{Schema, the_lemmas}
use Rattle.typed.specs.declared.fault.Cause.TheVariants.{NotAnObject, WrongType}
use Rattle.typed.specs.Faults.{below, some_or}
use Rattle.typed.specs.Reading.{plain_of, plain_of_field, plain_members, plain_items, plain_item, content_of, content_of_item, content_of_field, members_at, beside_keys, items_at, keyed_item}

pub shape-Text : shape schemas.Text ≡ text
shape-Text = search (rules, the_lemmas)

pub shape-Whole : shape schemas.Whole ≡ whole
shape-Whole = search (rules, the_lemmas)

pub shape-Truth : shape schemas.Truth ≡ truth
shape-Truth = search (rules, the_lemmas)

pub plain_struct : (s : Schema) (v : Vec (String Global × Schema) Global) (b : Bool) (fs : List (String Global × Schema)) (d : Data) (ms : Members) → s ≡ schemas.Struct v b → fs ≡ v.items → some_or NotAnObject (as_object d) ≡ Ok ms
    → plain_of (shape s) d ≡ below [] object (plain_members (λ k e. plain_of_field (fields_in fs) k e) ms)
plain_struct s v b fs d ms is items found = rw (is, shape-Struct v b, items, found) refl

pub plain_map : (s : Schema) (inner : Box Schema Global) (b : Bool) (t : Schema) (d : Data) (ms : Members) → s ≡ schemas.MapOf inner b → t ≡ inner.value → some_or NotAnObject (as_object d) ≡ Ok ms
    → plain_of (shape s) d ≡ below [] object (plain_members (λ k e. plain_of (shape t) e) ms)
plain_map s inner b t d ms is same found = rw (is, shape-MapOf inner b, same, found) refl

pub plain_list : (s : Schema) (inner : Box Schema Global) (kind : ListKind) (t : Schema) (vs : List Value) (d : Data) (all : List Value) → s ≡ schemas.List inner kind → t ≡ inner.value → vs ≡ all → some_or WrongType (as_array d) ≡ Ok (items_view all)
    → plain_of (shape s) d ≡ below [] array (plain_items (plain_item (kind_of kind) (λ e. plain_of (shape t) e) (λ ms. plain_of (shape t) (object ms))) 0 (items_view vs))
plain_list s inner kind t vs d all is same items found = rw (is, shape-List inner kind, same, items, found) refl

pub item_struct : (s : Schema) (v : Vec (String Global × Schema) Global) (b : Bool) (fs : List (String Global × Schema)) (names : List (List ℕ)) (ms : Members) → s ≡ schemas.Struct v b → fs ≡ v.items
    → content_of_item (shape s) names ms ≡ members_at (beside_keys names (λ k e. content_of_field (fields_in fs) k e)) ms
item_struct s v b fs names ms is items = rw (is, shape-Struct v b, items) refl

pub content_struct : (s : Schema) (v : Vec (String Global × Schema) Global) (b : Bool) (fs : List (String Global × Schema)) (d : Data) (ms : Members) → s ≡ schemas.Struct v b → b ≡ false → fs ≡ v.items → some_or NotAnObject (as_object d) ≡ Ok ms
    → content_of (shape s) d ≡ members_at (λ k e. content_of_field (fields_in fs) k e) ms
content_struct s v b fs d ms is granular items found = rw (is, shape-Struct v b, granular, items, found) refl

pub content_keyed : (s : Schema) (inner : Box Schema Global) (kind : ListKind) (names : Vec (String Global) Global) (t : Schema) (ks : List (String Global)) (d : Data) (ds : Items)
    → s ≡ schemas.List inner kind → kind ≡ kinds.Keyed names → t ≡ inner.value → ks ≡ names.items → some_or WrongType (as_array d) ≡ Ok ds
    → content_of (shape s) d ≡ items_at (keyed_item (names_in ks) (λ ms. content_of_item (shape t) (names_in ks) ms)) 0 [] ds
content_keyed s inner kind names t ks d ds is keyed same keys found = rw (is, shape-List inner kind, keyed, same, keys, found) refl

pub content_list : (s : Schema) (inner : Box Schema Global) (kind : ListKind) (names : Vec (String Global) Global) (t : Schema) (ks : List (String Global)) (vs : List Value) (d : Data) (all : List Value)
    → s ≡ schemas.List inner kind → kind ≡ kinds.Keyed names → t ≡ inner.value → ks ≡ names.items → vs ≡ all → some_or WrongType (as_array d) ≡ Ok (items_view all)
    → content_of (shape s) d ≡ items_at (keyed_item (names_in ks) (λ ms. content_of_item (shape t) (names_in ks) ms)) 0 [] (items_view vs)
content_list s inner kind names t ks vs d all is keyed same keys items found =
    content_keyed s inner kind names t ks d (items_view all) is keyed same keys found
    ∙ ap (λ l. items_at (keyed_item (names_in ks) (λ ms. content_of_item (shape t) (names_in ks) ms)) 0 [] (items_view l)) (sym items)
