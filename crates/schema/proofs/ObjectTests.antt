-- The test of a shape says whether it is an object's.
use Rattle.std.proofs.Common.{◌≡◌, Bool, true, false, not, Option, Some, None, is_none, codes, refl, sym, ap, ap₂, ◌∙◌}
use Rattle.std.proofs.lemmas.Bool.{and_parts}
use Rattle.std.specs.Cmp.Derive.{both_true}
use Rattle.schema.specs.Lawful.{is_granular_struct, is_lawful}
use Rattle.schema.specs.ObjectShape.{IsMetadata, IsObjectShape, field_of}
use Rattle.schema.specs.ObjectTest.{is_text, is_texts, is_some_texts, is_metadata, is_some_metadata, is_object_shape}
use Rattle.schema.specs.Shape.{Shape, text, whole, truth, struct_of, map_of, list_of}

granular_is : (b : Bool) → not b ≡ true → b ≡ false
granular_is true h = sym h
granular_is false h = refl

text_is : (s : Shape) → is_text s ≡ true → s ≡ text
text_is text h = refl
text_is whole h = absurd cc
text_is truth h = absurd cc
text_is (struct_of all b) h = absurd cc
text_is (map_of s b) h = absurd cc
text_is (list_of s kind) h = absurd cc

texts_are : (s : Shape) → is_texts s ≡ true → s ≡ map_of text false
texts_are text h = absurd cc
texts_are whole h = absurd cc
texts_are truth h = absurd cc
texts_are (struct_of all b) h = absurd cc
texts_are (map_of s b) h = let parts = and_parts (not b) (is_text s) h in ap₂ map_of (text_is s parts.1) (granular_is b parts.0)
texts_are (list_of s kind) h = absurd cc

some_texts_are : (o : Option Shape) → is_some_texts o ≡ true → o ≡ Some (map_of text false)
some_texts_are None h = absurd cc
some_texts_are (Some s) h = ap Some (texts_are s h)

metadata_is : (s : Shape) → is_metadata s ≡ true → IsMetadata s
metadata_is s h =
    let a = and_parts (is_granular_struct s) _ h in
    let b = and_parts (is_some_texts (field_of (codes "labels") s)) _ a.1 in
    let c = and_parts (is_some_texts (field_of (codes "annotations") s)) _ b.1 in
    record { granular = a.0; labels = some_texts_are _ b.0; annotations = some_texts_are _ c.0; others = c.1 }

is_metadata_so : (s : Shape) → IsMetadata s → is_metadata s ≡ true
is_metadata_so s is = both_true is.granular (both_true (ap is_some_texts is.labels) (both_true (ap is_some_texts is.annotations) is.others))

some_is : (o : Option Shape) → is_some_metadata o ≡ true → (m : Shape) × (o ≡ Some m) × IsMetadata m
some_is None h = absurd cc
some_is (Some s) h = (s, refl, metadata_is s h)

none_is : (o : Option Shape) → is_none o ≡ true → o ≡ None
none_is None h = refl
none_is (Some s) h = absurd cc

pub tested : (s : Shape) → is_object_shape s ≡ true → IsObjectShape s
tested s h =
    let a = and_parts (is_granular_struct s) _ h in
    let b = and_parts (is_lawful s) _ a.1 in
    let c = and_parts (is_some_metadata (field_of (codes "metadata") s)) _ b.1 in
    let d = and_parts (is_none (field_of (codes "apiVersion") s)) _ c.1 in
    (a.0, b.0, some_is _ c.0, none_is _ d.0, none_is _ d.1)

pub test : (s : Shape) → IsObjectShape s → is_object_shape s ≡ true
test s is = both_true is.0 (both_true is.1 (both_true (ap is_some_metadata is.2.1 ∙ is_metadata_so is.2.0 is.2.2) (both_true (ap is_none is.3) (ap is_none is.4))))
