use Rattle.std.proofs.Common.{pos, min, length, [], ◌∷◌}
use Rattle.sqlite.specs.declared.types.Value.TheVariants.{Int}
use Rattle.history.specs.History.{last_revision}
use Rattle.history.specs.Kept.{with_body}
use Rattle.revtable.specs.Spans.{stored_of}
use Rattle.revtable.proofs.Counts.{finds_count}
use Rattle.revtable.proofs.Texts.{count_text, count_is, count_plain}
use Rattle.revtable.proofs.Outcomes.{answered}
use Rattle.revtable.proofs.table.Table.counted.Goals as goal

pub ask-requires-clause-plain : goal.ask-requires-clause-plain
ask-requires-clause-plain c = count_plain

pub ask-requires-clause-unlisted : goal.ask-requires-clause-unlisted
ask-requires-clause-unlisted c = count_is.1

pub returns-clause-ok : goal.returns-clause-ok
returns-clause-ok c =
    answered count_text _ [] (stored_of c.args.self.now) c.ask.result ((Int (pos (min (length (with_body c.args.self.now.changes)) last_revision)) ∷ []) ∷ []) count_is.0
    (λ db rows has h. finds_count db c.args.self.now.changes rows has.rows h)
    c.ask.ensures.ok
