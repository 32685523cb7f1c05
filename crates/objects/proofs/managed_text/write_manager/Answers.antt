use Rattle.std.proofs.Common.{◌++◌, ap, ◌∙◌, codes}
use Rattle.std.proofs.lemmas.Result.{on_ok_weaker}
use Rattle.serde_json.specs.Data.{member, string}
use Rattle.serde_json.specs.Written.{members_text}
use Rattle.objects.specs.EntryTexts.{then_filled}
use Rattle.objects.specs.Managers.{manager_view}
use Rattle.objects.specs.Owners.{operation_text, subresource_text}
use Rattle.objects.proofs.managed_text.write_manager.Goals as goal

pub returns : goal.returns
returns c =
    let m = manager_view c.args.manager.now in
    let old = c.args.out.now in
    let one = c.write_string.new.out in
    let two = c.write_string-2.new.out in
    on_ok_weaker c.write_filled.result (λ last rest.
    let sub = then_filled (codes "subresource") (subresource_text m.subresource) rest in
    last rest ∙ ap (λ t. two.text ++ members_text two.later (then_filled (codes "subresource") t rest)) c.text-2.ensures
    ∙ c.in_ok-write_string-2.ensures sub ∙ ap (λ t. one.text ++ members_text one.later (member (codes "operation") (string t) sub)) c.text.ensures
    ∙ c.in_ok-write_string.ensures (member (codes "operation") (string (operation_text m.operation)) sub)
    ∙ ap (λ t. old.text ++ members_text old.later (member (codes "manager") (string t) (member (codes "operation") (string (operation_text m.operation)) sub))) c.as_str.ensures.value) c.write_filled.ensures
