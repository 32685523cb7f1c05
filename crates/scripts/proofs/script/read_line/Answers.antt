use Rattle.std.proofs.Common.{◌∙◌, ap, option_map, sym}
use Rattle.std.proofs.lemmas.Result.{IfOk-weaker}
use Rattle.scripts.specs.Views.{line_view}
use Rattle.scripts.proofs.ScriptLemmas.{reads_none, reads_some}
use Rattle.scripts.proofs.script.read_line.Goals as goal

pub returns-in-Some : goal.returns-in-Some
returns-in-Some c = IfOk-weaker c.event_of.result _ _ (λ o makes. reads_some c.args.text.now _ _ (sym c.in_ok-line.ensures ∙ ap (option_map line_view) c.in-Some.is) makes) c.event_of.ensures

pub returns-in-None : goal.returns-in-None
returns-in-None c = reads_none c.args.text.now (sym c.in_ok-line.ensures ∙ ap (option_map line_view) c.in-None.is)
