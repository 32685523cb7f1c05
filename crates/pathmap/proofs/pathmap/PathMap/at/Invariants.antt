use Rattle.std.proofs.Common.{◌≡◌, ◌++◌, drop, map, string_bytes}
use Rattle.std.specs.FinMap as fin
use Rattle.fieldpath.specs.Paths.{PathTexts}
use Rattle.pathmap.specs.Maps.{content}
use Rattle.pathmap.proofs.pathmap.PathMap.at.Given as goal

-- what is left of the path leads on from here
abbrev pub invariant-loop-text : goal.invariant-loop-text
invariant-loop-text l = (q : PathTexts) → fin.get (content l.here) (map string_bytes (drop l.text-index l.texts) ++ q) ≡ fin.get (content l.self) (map string_bytes l.texts ++ q)
