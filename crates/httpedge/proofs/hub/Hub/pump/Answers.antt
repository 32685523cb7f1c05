use Rattle.std.proofs.Common.{rules, ◌≡◌, true, false, refl}
use Rattle.std.specs.Prelude.{◌==◌, is_some}
use Rattle.httpedge.specs.ConnectionViews.{found}
use Rattle.httpedge.proofs.Representing.{no_lines_in, none_pumped, unknown_pumped}
use Rattle.httpedge.proofs.hub.Hub.pump.Goals as goal

pub returns-then-max-gt0 : goal.returns-then-max-gt0
returns-then-max-gt0 c = c.change.ensures.handles (λ none. no_lines_in c.args.max (search rules) none)

pub returns-then-is_known : goal.returns-then-is_known
returns-then-is_known c =
    let none : (c.args.max == 0) ≡ true = search rules in
    let known : is_some (found c.args.self.now.connections c.args.id) ≡ true = search rules in
    (refl, λ s here. none_pumped s c.args.id c.args.max c.args.self.now none known here)

pub returns-else-is_known : goal.returns-else-is_known
returns-else-is_known c =
    let unknown : is_some (found c.args.self.now.connections c.args.id) ≡ false = search rules in
    (refl, λ s here. unknown_pumped s c.args.id c.args.max c.args.self.now unknown here)
