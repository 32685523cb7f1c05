use Rattle.std.proofs.Common.{map}
use Rattle.discovery.specs.Documents.{texts}
use Rattle.discovery.proofs.Loops.{ItemsSoFar}
use Rattle.discovery.proofs.key_names.put_texts.Given as goal

abbrev pub invariant-loop-text : goal.invariant-loop-text
invariant-loop-text l = ItemsSoFar (λ ys. texts (map (λ s. s.now) ys)) l.all l.fn.writer l.text-index l.writer
