use Rattle.std.proofs.Common.{ap, ap₂, ◌∙◌, map}
use Rattle.std.specs.BTreeMap.{insert_entry}
use Rattle.json_values.specs.Texts.{named_texts}
use Rattle.json_values.proofs.Named.{bytes_cmp, pair, pairs-insert}
use Rattle.lists.proofs.finding.put_text.Goals as goal

pub returns : goal.returns
returns c =
    ap (map pair) c.in_ok-insert.ensures.entries ∙ pairs-insert c.args.texts.now.entries c.in_ok-from_str.field-0 c.in_ok-from_str-2.field-0
    ∙ ap₂ (λ k v. insert_entry bytes_cmp (named_texts c.args.texts.now) k v) c.in_ok-from_str.ensures.ok c.in_ok-from_str-2.ensures.ok
