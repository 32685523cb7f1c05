use Rattle.std.proofs.Common.{◌≡◌, length, refl, ◌∙◌, arith}
use Rattle.revstore.proofs.Latest.{latest_alike, none_waits}
use Rattle.revstore.proofs.window.ChangeWindow.settle.Goals as goal

pub returns-clause-latest : goal.returns-clause-latest
returns-clause-latest c = λ h are.
    let all = c.args.self.now.latest in
    let len : c.len-self.result ≡ length all.items = c.len-self.ensures ∙ all.ok.0 in
    latest_alike h c.args.self.now _ refl refl (omega (arith, len)) are

pub returns-clause-none : goal.returns-clause-none
returns-clause-none c =
    let all = c.args.self.now.latest in
    none_waits all.items c.len-self.result (c.len-self.ensures ∙ all.ok.0)
