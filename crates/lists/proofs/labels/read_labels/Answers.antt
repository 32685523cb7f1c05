use Rattle.std.proofs.Common.{◌∙◌, [], ap, codes, option_and_then, sym, unwrap_or}
use Rattle.json_values.specs.Texts.{texts_of}
use Rattle.lists.specs.Labels.{label_members, labels_by}
use Rattle.lists.proofs.Turns.{two_names}
use Rattle.lists.proofs.labels.read_labels.Goals as goal

pub returns-in-Ok : goal.returns-in-Ok
returns-in-Ok c =
    let f = c.in-Ok.ensures in
    f.2 ∙ ap labels_by (two_names (codes "metadata") (codes "labels") f.0) ∙ sym (ap (λ o. unwrap_or (option_and_then texts_of (option_and_then label_members o)) []) f.1)
