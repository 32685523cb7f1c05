use Rattle.std.proofs.Common.{map, take}
use Rattle.world.specs.Views.{event_seen}
use Rattle.scripts.specs.Script.{AreEvents}
use Rattle.scripts.proofs.script.read_lines.Given as goal

abbrev pub invariant-loop-index : goal.invariant-loop-index
invariant-loop-index l = AreEvents (map (λ s. s.now) (take l.index l.lines)) (map event_seen l.events.items)
