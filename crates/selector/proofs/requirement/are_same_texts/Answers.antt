use Rattle.std.proofs.Common.{map, sym, ◌∙◌}
use Rattle.std.specs.Prelude.{string_bytes}
use Rattle.std.specs.Cmp.Derive.Mapped.{pointwise-map}
use Rattle.std.specs.Str.{bytes_eq}
use Rattle.std.proofs.lemmas.Slice.Eq.{bytes_eq-Decides, slice_eq-Decides}
use Rattle.selector.proofs.requirement.are_same_texts.Goals as goal

pub returns : goal.returns
returns c =
    let ones = c.args.ones.now.items in
    let others = c.args.others.now.items in
    slice_eq-Decides bytes_eq-Decides (map string_bytes ones) (map string_bytes others) c.eq.result
    (c.eq.ensures ∙ sym (pointwise-map string_bytes bytes_eq ones others))
