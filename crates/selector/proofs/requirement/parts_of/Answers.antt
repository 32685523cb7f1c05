use Rattle.std.proofs.Common.{◌≡◌, ◌∙◌, ◌++◌, ◌∷◌, [], sym, subst, map, Ok}
use Rattle.std.specs.Option.{option_map}
use Rattle.std.proofs.lemmas.Result.{err_from_is_err_and}
use Rattle.std.proofs.lemmas.List.{map_push}
use Rattle.selector.specs.Grammar.{FailsWith, part_of, parts_of}
use Rattle.selector.specs.Views.{requirement_of}
use Rattle.selector.proofs.Parts.{parts_after}
use Rattle.selector.proofs.Reading.{read_part, part_first, reads_next, ends}
use Rattle.selector.proofs.requirement.parts_of.Goals as goal

pub returns-in_err-part_of : goal.returns-in_err-part_of
returns-in_err-part_of c =
    let p = err_from_is_err_and c.from_residual.result c.from_residual.ensures.1 in
    let e = c.in_err-part_of.field-0.0 in
    let prefix = map requirement_of c.loop-rest.requirements.items in
    let part = c.first_part.result.0.now in
    let after = option_map (λ r. r.now) c.first_part.result.1 in
    let whole = parts_of c.args.text.now in
    let fails : FailsWith e (read_part part) = subst (λ t. FailsWith e (part_of t)) c.trimmed.ensures c.in_err-part_of.ensures in
    rw (p.1, p.2)
    (ends e read_part prefix part (parts_after after) whole fails
    (part_first prefix c.in-Some.left.now part after whole c.first_part.ensures.prefix c.first_part.ensures.rest (rw c.in-Some.is at c.loop-rest.invariant)))

pub loop-rest-preserved : goal.loop-rest-preserved
loop-rest-preserved c =
    let r = c.in_ok-part_of.field-0 in
    let prefix = map requirement_of c.loop-rest.requirements.items in
    let part = c.first_part.result.0.now in
    let after = option_map (λ r. r.now) c.first_part.result.1 in
    let whole = parts_of c.args.text.now in
    let pushed : map requirement_of c.push.new.self.items ≡ prefix ++ requirement_of r ∷ [] = rw c.in_ok-push.ensures.items (map_push _ c.loop-rest.requirements.items r) in
    let is : read_part part ≡ Ok (requirement_of r) = subst (λ t. part_of t ≡ Ok (requirement_of r)) c.trimmed.ensures c.in_ok-part_of.ensures in
    rw pushed
    (sym (reads_next read_part prefix part (parts_after after) (requirement_of r) is)
    ∙ part_first prefix c.in-Some.left.now part after whole c.first_part.ensures.prefix c.first_part.ensures.rest (rw c.in-Some.is at c.loop-rest.invariant))
