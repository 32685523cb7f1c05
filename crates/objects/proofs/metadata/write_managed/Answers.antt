use Rattle.std.proofs.Common.{◌++◌, ap, sym, ◌∙◌, codes}
use Rattle.std.proofs.lemmas.Result.{on_ok_weaker}
use Rattle.serde_json.specs.Data.{array}
use Rattle.serde_json.specs.Written.{members_text}
use Rattle.schema.specs.Shape.{shape}
use Rattle.objects.specs.Managers.{pairs}
use Rattle.objects.specs.ObjectText.{entry_items}
use Rattle.objects.proofs.Appended.{member_appended}
use Rattle.objects.proofs.MetadataTexts.{nobody, somebody}
use Rattle.objects.proofs.metadata.write_managed.Goals as goal

pub returns-then-is_empty : goal.returns-then-is_empty
returns-then-is_empty c = λ rest. ap (λ ms. c.args.out.now.text ++ members_text c.args.out.now.later ms)
    (sym (nobody (shape c.args.schema.now) c.args.api_version.now c.args.entries.now rest (sym c.is_empty.ensures ∙ c.if-is_empty.true)))

pub returns : goal.returns
returns c =
    let s = shape c.args.schema.now in
    let es = c.args.entries.now in
    on_ok_weaker c.write_entries.result (λ value rest.
    member_appended (codes "managedFields") (array (entry_items s c.args.api_version.now (pairs es))) c.args.out.now c.name.new.self c.write_entries.new.out c.in_ok-name.ensures value rest
    ∙ ap (λ ms. c.args.out.now.text ++ members_text c.args.out.now.later ms) (sym (somebody s c.args.api_version.now es rest (sym c.is_empty.ensures ∙ c.if-is_empty.false)))) c.write_entries.ensures
