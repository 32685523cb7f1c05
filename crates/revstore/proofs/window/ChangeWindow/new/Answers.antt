use Rattle.std.proofs.Common.{ap, map, sym, ◌∙◌, arith}
use Rattle.std.proofs.lemmas.List.Elements.{All-nil, All-same}
use Rattle.revstore.specs.ChangeWindow.{IsBefore, changes_in}
use Rattle.revstore.specs.Waiting.{write_in}
use Rattle.revstore.proofs.Latest.{later-above}
use Rattle.revstore.proofs.window.ChangeWindow.new.Goals as goal

pub returns-clause-latest : goal.returns-clause-latest
returns-clause-latest c = λ h is at. record {
  from = omega (arith, at);
  changes = ap changes_in c.new.ensures.items ∙ sym (later-above 0 c.args.from h.current h.changes (omega (arith, at)) is);
  befores = All-same (IsBefore h) _ _ c.new.ensures.items (All-nil (IsBefore h));
  written = omega arith;
}

pub returns-clause-none : goal.returns-clause-none
returns-clause-none c = ap (map write_in) c.new.ensures.items
