use Rattle.api_types.proofs.FaultPlaces.{all_reported, one_reported}
use Rattle.api_types.proofs.locate.places_among.Goals as goal

pub loop-number-preserved : goal.loop-number-preserved
loop-number-preserved c =
    one_reported c.args.types.now c.loop-number.number c.index-types-number.result c.loop-number.all.items c.in_ok-more.more.items c.append.new.self.items c.loop-number-test.true c.index-types-number.is c.in_ok-append.ensures.items
    c.in_ok-more.ensures c.loop-number.invariant

pub returns-clause-reported : goal.returns-clause-reported
returns-clause-reported c = all_reported c.args.types.now c.loop-number.number c.loop-number.all.items c.loop-number-test.false c.loop-number.invariant
