use Rattle.std.proofs.Common.{◌≡◌, rules, tests, ap, ◌∙◌, unwrap_or, length}
use Rattle.std.proofs.lemmas.Iterator.{YieldsList-from_slice}
use Rattle.std.proofs.lemmas.Iterator.Search.{position_from_yields_List}
use Rattle.std.specs.List.{position_or_len, insert}
use Rattle.discovery.proofs.Placing.{is_past, place_is, put_in_place, texts_of}
use Rattle.discovery.proofs.key_names.put_name.Goals as goal

pub returns : goal.returns
returns c =
    let ns = c.args.names.now.items in
    let found = position_from_yields_List (is_past c.args.name) _ _ c.position.result c.position.ensures.ran (YieldsList-from_slice ns cc) (λ x b q k. search (rules, tests)) in
    let place : c.unwrap_or-place.result ≡ position_or_len (is_past c.args.name) ns =
    c.unwrap_or-place.ensures ∙ ap (unwrap_or c.position.result) (c.len.ensures ∙ c.args.names.now.ok.0) ∙ ap (λ o. unwrap_or o (length ns)) found ∙ place_is (is_past c.args.name) ns in
    ap texts_of (c.in_ok-insert.ensures.items ∙ ap (λ i. insert ns i c.args.name) place) ∙ put_in_place c.args.name ns
