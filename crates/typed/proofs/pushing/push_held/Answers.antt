use Rattle.std.proofs.Common.{Some, ap, sym, subst, ◌∙◌}
use Rattle.json_texts.specs.Writing.{with_text}
use Rattle.pathmap.specs.Maps.{leaf_value}
use Rattle.typed.specs.Printing.{value_of}
use Rattle.typed.specs.Rows.{IsWritable}
use Rattle.typed.specs.Writes.{with_value}
use Rattle.typed.proofs.Wholes.{weaker}
use Rattle.typed.proofs.pushing.push_held.Goals as goal

pub returns-in-Plain : goal.returns-in-Plain
returns-in-Plain c = λ writable.
    let compact = (subst (λ h. IsWritable (Some (leaf_value h))) c.in-Plain.is writable).1 in
    let out = c.args.out.now in
    weaker c.raw.result
    (λ wrote. wrote ∙ ap (λ t. with_text t out) (c.as_str-in-Plain.ensures.value ∙ compact.2) ∙ sym (ap (λ o. with_value o out) compact.1)
    ∙ sym (ap (λ h. with_value (value_of (leaf_value h)) out) c.in-Plain.is)) c.raw.ensures
