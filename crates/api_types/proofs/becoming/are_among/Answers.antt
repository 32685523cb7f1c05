use Rattle.std.proofs.Common.{rules, tests, map, string_bytes, ◌≡◌, sym, ◌∙◌}
use Rattle.std.proofs.lemmas.Iterator.{YieldsList-from_slice}
use Rattle.std.proofs.lemmas.Iterator.Search.{all_from_yields_List}
use Rattle.std.proofs.lemmas.List.Folds.{list_all-map}
use Rattle.std.specs.List.{list_any, list_all}
use Rattle.std.specs.Str.{bytes_eq}
use Rattle.schema.specs.KeyNames.{names_in}
use Rattle.schema.proofs.KeyNames.{list_all-sorted}
use Rattle.api_types.proofs.becoming.are_among.Goals as goal

pub returns : goal.returns
returns c =
    let all : c.all.result ≡ list_all (λ n. list_any (bytes_eq (string_bytes n)) (names_in c.args.others.now)) c.args.names.now =
    all_from_yields_List (λ n. list_any (bytes_eq (string_bytes n)) (names_in c.args.others.now)) _ _ c.all.result c.all.ensures.ran (YieldsList-from_slice c.args.names.now cc) (λ x b q k. search (rules, tests)) in
    all ∙ sym (list_all-sorted (λ n. list_any (bytes_eq n) (names_in c.args.others.now)) (map string_bytes c.args.names.now)
    ∙ list_all-map (λ n. list_any (bytes_eq n) (names_in c.args.others.now)) string_bytes c.args.names.now)
