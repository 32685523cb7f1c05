use Rattle.std.proofs.Common.{rules, ◌∙◌, ◌+◌, ◌++◌, ◌∷◌, [], ap, length, map, sym}
use Rattle.std.proofs.lemmas.Result.{IfErr-weaker}
use Rattle.history.specs.Read.{entry_of, write_of}
use Rattle.verbs.specs.GatheredViews.{IsTooMany, gathered, new_types, old_types}
use Rattle.verbs.proofs.Gathering.{too_many_entries}
use Rattle.verbs.proofs.retyping.Retyper.add_all.Goals as goal

pub returns-in_err-add-clause-refused : goal.returns-in_err-add-clause-refused
returns-in_err-add-clause-refused c =
    let types = old_types c.args.self in
    let next_types = new_types c.args.self in
    let ws = map write_of c.loop-entry.writes.items in
    let place = c.args.self.current + length ws in
    let first = map write_of c.args.writes.now.items in
    let all = map entry_of c.args.entries.items in
    let e = entry_of c.in-Some.entry in
    let es = map entry_of c.next.new.self.rest.items in
    let reported = ap (λ l. ws ++ gathered types next_types place (map entry_of l)) (sym c.in-Some.ensures.steps.0) ∙ c.loop-entry.invariant.reported in
    IfErr-weaker c.from_residual.result (IsTooMany (place + length (gathered types next_types place (e ∷ [])))) _
    (λ fault many. too_many_entries types next_types c.args.self.current ws first e es all fault reported many) (search rules)
