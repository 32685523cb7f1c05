use Rattle.std.proofs.Common.{◌≡◌, map, drop, string_bytes}
use Rattle.json_patch.specs.Pointers.{tokens}
use Rattle.json_patch.proofs.Tokens.{and_then_tokens}
use Rattle.json_patch.proofs.pointer.read_tokens.Given as goal

abbrev pub invariant-loop-piece : goal.invariant-loop-piece
invariant-loop-piece l = and_then_tokens (map string_bytes l.tokens.items) (tokens (map (λ s. s.now) (drop l.piece-index l.piece-items))) ≡ tokens (map (λ s. s.now) l.piece-items)
