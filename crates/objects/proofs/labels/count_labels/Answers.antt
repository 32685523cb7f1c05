use Rattle.std.proofs.Common.{◌∙◌, ap, sym}
use Rattle.serde_json.proofs.Views.{members_len-members_view}
use Rattle.objects.specs.Labels.{size}
use Rattle.objects.proofs.labels.count_labels.Goals as goal

pub returns-in-Some : goal.returns-in-Some
returns-in-Some c = c.len.ensures.len ∙ sym (members_len-members_view c.in-Some.labels.now.entries) ∙ ap size c.in-Some.ensures
