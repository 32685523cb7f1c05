use Rattle.std.proofs.Common.{ap, subst, lit<, map, List, ℕ, Ok, IfOk, IsErrOf, ◌≡◌, ◌∙◌}
use Rattle.std.specs.Prelude.{⊤}
use Rattle.std.proofs.lemmas.Iterator.Consumers.{map_from_collect}
use Rattle.std.proofs.lemmas.Iterator.Splits.{YieldsList-from_str_split}
use Rattle.world.specs.Views.{event_seen}
use Rattle.scripts.specs.Script.{AreEvents, IsFirstBad, lines_of}
use Rattle.scripts.specs.declared.line_fault.LineFault.{LineFault}
use Rattle.scripts.specs.declared.script.ScriptFault.TheVariants.{BadEvent}
use Rattle.scripts.proofs.ScriptLemmas.{texts}
use Rattle.scripts.proofs.script.read_script.Goals as goal

parted : (c : goal.After-drop-lines) → texts c.deref.result.now ≡ lines_of c.args.text.now
parted c =
    ap texts c.deref.ensures.value ∙ map_from_collect {E = ⊤} (Ok c.in_ok-lines.lines) c.in_ok-lines.ensures.ran
    (YieldsList-from_str_split 10 c.args.text.now (lit< tt) c.split.ensures.text c.split.ensures.has_more c.split.ensures.pattern)

pub returns-clause-ok : goal.returns-clause-ok
returns-clause-ok c = subst (λ (xs : List (List ℕ)). IfOk c.read_lines.result (λ v. AreEvents xs (map event_seen v.items))) (parted c) c.read_lines.ensures.ok

pub returns-clause-bad : goal.returns-clause-bad
returns-clause-bad c = subst (λ (xs : List (List ℕ)). (n : ℕ) (why : LineFault) → IsErrOf c.read_lines.result (BadEvent n why) → IsFirstBad xs n) (parted c) c.read_lines.ensures.bad
