use Rattle.std.proofs.Common.{◌-◌, ap, drop, length, ◌∙◌, arith}
use Rattle.std.proofs.lemmas.List.{drop_min, length-drop, take_all}
use Rattle.revstore.proofs.window.past.Goals as goal

pub returns : goal.returns
returns c =
    let all = c.args.all.now in
    let at = c.min-at.result in
    take_all (length all - at) (drop at all) (omega (arith, length-drop at all)) ∙ ap (λ n. drop n all) c.min-at.ensures ∙ drop_min c.args.count all
