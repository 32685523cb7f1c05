use Rattle.std.proofs.Common.{◌+◌, drop, sym, ◌∙◌}
use Rattle.std.proofs.lemmas.List.{drop_all}
use Rattle.json.specs.Value.{members_view}
use Rattle.json_texts.specs.Places.{place_of}
use Rattle.json_texts.proofs.Parts.{at_place}
use Rattle.json_texts.proofs.Places.{search_begin, search_end, search_found, search_on}
use Rattle.json_texts.proofs.members.place_of.Goals as goal

pub loop-place-init : goal.loop-place-init
loop-place-init c = search_begin c.args.name.now c.args.members.now

pub loop-place-preserved : goal.loop-place-preserved
loop-place-preserved c =
    let xs = c.args.members.now in
    let i = c.loop-place.place in
    let x = c.index-members-place.result in
    search_on c.args.name.now i (drop i xs) x (drop (i + 1) xs) (place_of c.args.name.now (members_view xs)) (at_place xs i x c.loop-place-test.true c.index-members-place.is) c.loop-place.invariant (sym c.eq.ensures ∙ c.if-eq.false)

pub returns-then-eq-clause-value : goal.returns-then-eq-clause-value
returns-then-eq-clause-value c =
    let xs = c.args.members.now in
    let i = c.loop-place.place in
    let x = c.index-members-place.result in
    search_found c.args.name.now i (drop i xs) x (drop (i + 1) xs) (place_of c.args.name.now (members_view xs)) (at_place xs i x c.loop-place-test.true c.index-members-place.is) c.loop-place.invariant (sym c.eq.ensures ∙ c.if-eq.true)

pub returns-clause-value : goal.returns-clause-value
returns-clause-value c =
    let xs = c.args.members.now in
    let i = c.loop-place.place in
    search_end c.args.name.now i (drop i xs) (place_of c.args.name.now (members_view xs)) (drop_all i xs c.loop-place-test.false) c.loop-place.invariant
