use Rattle.std.proofs.Common.{rules, tests, map, string_bytes, ◌≡◌, sym, ◌∙◌}
use Rattle.std.specs.List.{list_all}
use Rattle.std.proofs.lemmas.List.Folds.{list_all-map}
use Rattle.std.proofs.lemmas.Iterator.{YieldsList-from_slice}
use Rattle.std.proofs.lemmas.Iterator.Search.{all_from_yields_List}
use Rattle.schema.specs.Shape.{fields_in, shape_at}
use Rattle.schema.specs.Lawful.{is_some_scalar}
use Rattle.schema.proofs.KeyNames.{list_all-sorted}
use Rattle.schema.proofs.Shapes.{shape-Struct}
use Rattle.api_types.proofs.lawful.has_keys.Goals as goal

pub returns-then-not-is_atomic : goal.returns-then-not-is_atomic
returns-then-not-is_atomic c =
    let all : c.all.result ≡ list_all (λ n. is_some_scalar (shape_at (string_bytes n) (fields_in c.in-Struct.fields.items))) c.args.names.now =
    all_from_yields_List (λ n. is_some_scalar (shape_at (string_bytes n) (fields_in c.in-Struct.fields.items))) _ _ c.all.result c.all.ensures.ran (YieldsList-from_slice c.args.names.now cc) (λ x b q k. search (rules, tests)) in
    rw (c.in-Struct.is, shape-Struct c.in-Struct.fields c.in-Struct.is_atomic, c.if-not-is_atomic.true)
    (all ∙ sym (list_all-sorted (λ n. is_some_scalar (shape_at n (fields_in c.in-Struct.fields.items))) (map string_bytes c.args.names.now)
    ∙ list_all-map (λ n. is_some_scalar (shape_at n (fields_in c.in-Struct.fields.items))) string_bytes c.args.names.now))
