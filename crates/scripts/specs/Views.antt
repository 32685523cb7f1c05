-- What the code's values say, without where they lie in memory.
use Rattle.std.specs.Prelude.{string_bytes}
use Rattle.serde_json.specs.View.{view}
use Rattle.world.specs.Views.{event_seen}
use Rattle.scripts.specs.Requests.{Apply}
use Rattle.scripts.specs.ScriptSteps.{Line, applies, brings, happens}
use Rattle.scripts.specs.declared.apply_line.ApplyLine.{ApplyLine}
use Rattle.scripts.specs.declared.script.Line as lines
use Rattle.scripts.specs.declared.script.Line.TheVariants as line

abbrev pub apply_of : ApplyLine → Apply
apply_of a = record { body = view a.body; force = a.force; manager = string_bytes a.manager; target = string_bytes a.target }

abbrev pub line_view : lines.Line → Line
line_view (line.Apply a) = applies (apply_of a)
line_view (line.Bytes k digits) = brings k (string_bytes digits)
line_view (line.Event e) = happens (event_seen e)
