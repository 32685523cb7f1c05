use Rattle.std.proofs.Common.{◌≤◌, List, ap, length, subst, sym}
use Rattle.std.specs.Prelude.{option_and_then}
use Rattle.history.specs.History.{Change}
use Rattle.history.specs.declared.write.Write.{Write}
use Rattle.api_request.proofs.Onlys.{several_made}
use Rattle.api_request.proofs.changes.Writes.only_body.Goals as goal

pub returns-in-len2-up : goal.returns-in-len2-up
returns-in-len2-up c =
    let many = subst (λ (l : List Write). 2 ≤ length l) c.as_slice.ensures.value c.in-len2-up.len_at_least in
    ap (option_and_then (λ (d : Change). d.body)) (sym (several_made c.args.self.now.after c.args.self.now.writes.items many))
