use Rattle.std.proofs.Common.{◌∙◌, ap}
use Rattle.rand_xoshiro.specs.SplitMix64.{mix_u64}
use Rattle.polling.proofs.disturbances.word_of.Goals as goal

pub returns : goal.returns
returns c = ap (λ p. p.0) c.next_word.ensures ∙ ap (λ s. (mix_u64 s).0) c.seed_from_u64.ensures.same
