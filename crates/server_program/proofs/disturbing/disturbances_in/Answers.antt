use Rattle.std.proofs.Common.{◌∙◌, ap, map}
use Rattle.server_program.proofs.Asking.{asks}
use Rattle.server_program.proofs.disturbing.disturbances_in.Goals as goal

pub returns : goal.returns
returns c =
    asks c.args.text.now _ _ c.in-Some.seed _ _ c.parted.ensures.seed c.parted.ensures.kinds c.in-Some.ensures (ap (map (λ name. name.now)) c.deref.ensures.value ∙ c.in_ok-names.ensures) c.with_kinds.ensures
