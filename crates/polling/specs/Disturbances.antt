-- After which revisions watches are disturbed, and how: by a seed alone.
use Rattle.std.specs.Prelude.{ℕ, ◌+◌, ◌*◌, ◌/◌, ◌%◌, ◌^◌, ◌==◌, if◌then◌else◌, Option, None, option_map}
use Rattle.std.specs.Bool.{then_some}
use Rattle.rand_xoshiro.specs.SplitMix64.{mix_u64}
use Rattle.observing.specs.declared.disturbance.Disturbance.{Disturbance}
use Rattle.observing.specs.declared.disturbance.Disturbance.TheVariants.{Cut, Hold, Expiry}
use Rattle.polling.specs.declared.disturbances.Disturbances.{Disturbances}

-- the word of a revision: so far into SplitMix64's sequence from the seed
abbrev pub word_of : ℕ → ℕ → ℕ
word_of seed revision = (mix_u64 ((seed + revision * 0x9e3779b97f4a7c15 % 2 ^ 64) % 2 ^ 64)).0

-- three kinds by number, each where it is asked for
abbrev pub kind_of : Disturbances → ℕ → Option Disturbance
kind_of asked n = if n == 0 then then_some asked.cuts Cut else if n == 1 then then_some asked.holds Hold else then_some asked.expiries Expiry

-- the words of one in four revisions divide by four; what is left of one gives the kind, and then chooses the watch
abbrev pub after : Disturbances → ℕ → Option (Disturbance × ℕ)
after asked revision =
    let word = word_of asked.seed revision in
    if word % 4 == 0 then option_map (λ kind. (kind, word / 4 / 3)) (kind_of asked (word / 4 % 3)) else None
