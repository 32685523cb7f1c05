use Rattle.std.proofs.Common.{◌≡◌, rules, tests, ap, ◌∙◌, unwrap_or, length}
use Rattle.std.proofs.lemmas.Iterator.{YieldsList-from_slice}
use Rattle.std.proofs.lemmas.Iterator.Search.{position_from_yields_List}
use Rattle.std.specs.List.{position_or_len, insert}
use Rattle.schema.specs.Shape.{fields_in}
use Rattle.api_types.proofs.Placing.{is_past, place_is, put_in_place}
use Rattle.api_types.proofs.file.put_field.Goals as goal

pub returns : goal.returns
returns c =
    let fs = c.args.fields.now.items in
    let found = position_from_yields_List (is_past c.args.name) _ _ c.position.result c.position.ensures.ran (YieldsList-from_slice fs cc) (λ x b q k. search (rules, tests)) in
    let place : c.unwrap_or-place.result ≡ position_or_len (is_past c.args.name) fs =
    c.unwrap_or-place.ensures ∙ ap (unwrap_or c.position.result) (c.len.ensures ∙ c.args.fields.now.ok.0) ∙ ap (λ o. unwrap_or o (length fs)) found ∙ place_is (is_past c.args.name) fs in
    ap fields_in (c.in_ok-insert.ensures.items ∙ ap (λ i. insert fs i (c.args.name, c.args.schema)) place) ∙ put_in_place c.args.name c.args.schema fs
