use Rattle.serde_json.specs.View.{members_view}
use Rattle.json_texts.proofs.Appended.{AreLeftClean}
use Rattle.json_texts.proofs.writing.TextWriter.+values.Given as goal

-- what is there with what is left is all
abbrev pub invariant-object-loop-name : goal.invariant-object-loop-name
invariant-object-loop-name l = AreLeftClean (members_view l.name-iterator) l.self (members_view l.members.entries) l.fn.self
