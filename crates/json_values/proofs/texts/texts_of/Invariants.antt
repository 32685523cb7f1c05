use Rattle.serde_json.specs.View.{members_view}
use Rattle.json_values.specs.Texts.{named_texts, texts_of}
use Rattle.json_values.proofs.Named.{IsReadSoFar}
use Rattle.json_values.proofs.texts.texts_of.Given as goal

abbrev pub invariant-loop-name : goal.invariant-loop-name
invariant-loop-name l = IsReadSoFar (texts_of (members_view l.members.entries)) (named_texts l.texts) l.name-iterator
