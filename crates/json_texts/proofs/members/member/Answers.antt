use Rattle.std.proofs.Common.{sym, ◌∙◌}
use Rattle.json_texts.proofs.Parts.{entry_ordered}
use Rattle.json_texts.proofs.Places.{is_missing, stands_at}
use Rattle.json_texts.proofs.members.member.Goals as goal

pub returns-in-Some-clause-value : goal.returns-in-Some-clause-value
returns-in-Some-clause-value c =
    sym ((stands_at c.args.name.now c.args.members.now c.in-Some.place (sym c.place_of.ensures.value ∙ c.in-Some.is)).1 c.index-members-place.result)

pub returns-in-Some-clause-ordered : goal.returns-in-Some-clause-ordered
returns-in-Some-clause-ordered c = entry_ordered c.args.members.now c.in-Some.place c.index-members-place.result c.in-Some.ensures.within

pub returns-in-None-clause-value : goal.returns-in-None-clause-value
returns-in-None-clause-value c = sym (is_missing c.args.name.now c.args.members.now (sym c.place_of.ensures.value ∙ c.in-None.is)).0
