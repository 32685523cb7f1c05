use Rattle.std.proofs.Common.{◌+◌, ◌∷◌, [], map, length, drop, sym, ap, subst, ◌∙◌, length-append}
use Rattle.serde_json.specs.View.{items_view}
use Rattle.std.proofs.lemmas.List.Elements.{All-push}
use Rattle.std.specs.List.{All}
use Rattle.schema.specs.ObjectShape.{IsObjectShape}
use Rattle.schema.specs.Shape.{shape}
use Rattle.api_types.specs.Served.{served}
use Rattle.api_types.specs.declared.served.Served.{Served}
use Rattle.api_types.specs.TypesFile.{types_of}
use Rattle.api_types.proofs.TypeByType.{after, one_more}
use Rattle.api_types.proofs.file.read_types.Goals as goal

pub loop-value-preserved : goal.loop-value-preserved
loop-value-preserved c =
    let vs = c.args.values.now in
    let i = c.loop-value.value-index in
    let pushed = c.in_ok-push.ensures.items in
    let is_kept : Served → Type 0 = λ t. IsObjectShape (shape t.schema) in
    let taken = one_more c.args.profile vs i c.value-item.result c.loop-value-test.true c.value-item.is (types_of c.args.profile (items_view vs)) c.loop-value.types.items c.loop-value.invariant.0 c.in_ok-read_type.field-0 c.in_ok-read_type.ensures.read in (
      taken ∙ ap (λ ts. after (map served ts) (types_of c.args.profile (items_view (drop (i + 1) vs)))) (sym pushed),
      ap length pushed ∙ length-append c.loop-value.types.items (c.in_ok-read_type.field-0 ∷ []) ∙ ap (λ n. n + 1) c.loop-value.invariant.1,
      subst (All is_kept) (sym pushed) (All-push is_kept c.loop-value.types.items c.in_ok-read_type.field-0 c.loop-value.invariant.2 c.in_ok-read_type.ensures.kept),
    )
