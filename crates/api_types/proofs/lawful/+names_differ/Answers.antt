use Rattle.std.proofs.Common.{not, sym, ap, ◌∙◌}
use Rattle.std.specs.List.{list_any}
use Rattle.std.specs.Str.{bytes_eq}
use Rattle.schema.specs.KeyNames.{names_in}
use Rattle.schema.proofs.KeyNames.{differ_by}
use Rattle.api_types.proofs.lawful.+names_differ.Goals as goal

pub returns-then-not-is_key : goal.returns-then-not-is_key
returns-then-not-is_key t c =
    let named = ap (λ n. list_any (bytes_eq n) (names_in c.in-Some.rest.now)) (sym c.as_str.ensures.value) ∙ sym c.is_key.ensures ∙ c.if-not-is_key.true in
    c.names_differ.ensures ∙ sym (differ_by c.args.names.now c.in-Some.name.now c.in-Some.rest.now _ c.in-Some.ensures.cases.0 named)

pub returns-else-not-is_key : goal.returns-else-not-is_key
returns-else-not-is_key t c =
    let named = ap (λ n. list_any (bytes_eq n) (names_in c.in-Some.rest.now)) (sym c.as_str.ensures.value) ∙ sym c.is_key.ensures ∙ c.if-not-is_key.false in
    ap not c.if-not-is_key.false ∙ sym (differ_by c.args.names.now c.in-Some.name.now c.in-Some.rest.now _ c.in-Some.ensures.cases.0 named)
