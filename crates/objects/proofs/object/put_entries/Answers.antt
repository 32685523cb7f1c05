use Rattle.std.proofs.Common.{◌≡◌, ◌∙◌, ap, sym, subst, codes, ◌==◌}
use Rattle.std.specs.Result.{OnOk}
use Rattle.serde_json.specs.Data.{put}
use Rattle.serde_json.specs.View.{members_view}
use Rattle.serde_json.proofs.Views.{view-Array}
use Rattle.objects.proofs.Objects.{put_some}
use Rattle.objects.proofs.object.put_entries.Goals as goal

pub returns : goal.returns
returns c =
    let vs = c.args.entries.items in
    let ms = members_view c.args.members.now.entries in
    let o = c.args.entries.ok in
    subst (λ m. OnOk c.put.result (members_view c.put.new.map.entries ≡ m)) (ap (λ d. put (codes "managedFields") d ms) (view-Array c.args.entries) ∙ sym (put_some vs ms (ap (λ n. n == 0) (sym o.0) ∙ sym c.is_empty.ensures ∙ c.if-is_empty.false))) c.put.ensures.ok
