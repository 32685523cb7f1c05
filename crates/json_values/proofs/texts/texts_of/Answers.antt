use Rattle.serde_json.specs.View.{members_view}
use Rattle.json_values.specs.Texts.{named_texts, texts_of}
use Rattle.json_values.proofs.Named.{no_text, takes}
use Rattle.json_values.proofs.texts.texts_of.Goals as goal

pub loop-name-preserved : goal.loop-name-preserved
loop-name-preserved c =
    takes (texts_of (members_view c.args.members.now.entries)) (named_texts c.loop-name.texts) c.loop-name.name-iterator (c.in-Some.name.now, c.in-Some.value.now) c.next.new.self c.in-Some.ensures.steps c.loop-name.invariant
    c.as_str-in-loop-name.result.now c.in-Some-as_str.text.now c.as_str-in-loop-name.ensures.value c.in-Some-as_str.ensures (named_texts c.put_text.new.texts) c.in_ok-put_text.ensures

pub returns-in_default : goal.returns-in_default
returns-in_default c =
    no_text (texts_of (members_view c.args.members.now.entries)) (named_texts c.loop-name.texts) c.loop-name.name-iterator (c.in-Some.name.now, c.in-Some.value.now) c.next.new.self c.in-Some.ensures.steps c.loop-name.invariant
    c.in_default.ensures
