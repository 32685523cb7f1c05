use Rattle.std.proofs.Common.{◌≡◌, ◌++◌, map, take, string_bytes}
use Rattle.std.specs.Prelude.{flat_map}
use Rattle.reflector.specs.Views.{notice_seen}
use Rattle.mirroring.specs.Printing.{notice_line, synced_line}
use Rattle.mirroring.proofs.printing.mirror_text.Given as goal

abbrev pub invariant-loop-notice : goal.invariant-loop-notice
invariant-loop-notice l = string_bytes l.text ≡ synced_line l.fn.first ++ flat_map notice_line (map notice_seen (take l.notice-index l.notices))
