use Rattle.std.proofs.Common.{◌≡◌, map, length, suc}
use Rattle.std.specs.Option.{option_map, option_map_or}
use Rattle.selector.specs.Grammar.{each_of, part_of, trimmed, parts_of}
use Rattle.selector.specs.Views.{requirement_of}
use Rattle.selector.proofs.Parts.{parts_after}
use Rattle.selector.proofs.Reading.{with_prefix}
use Rattle.selector.proofs.requirement.parts_of.Given as goal

abbrev pub invariant-loop-rest : goal.invariant-loop-rest
invariant-loop-rest l =
    with_prefix (map requirement_of l.requirements.items) (each_of (λ part. part_of (trimmed part)) (parts_after (option_map (λ r. r.now) l.rest)))
    ≡ parts_of l.text

abbrev pub decreases-loop-rest : goal.decreases-loop-rest
decreases-loop-rest l = option_map_or (λ r. suc (length r.now)) l.rest 0
