use Rattle.std.proofs.Common.{Some, None, option_map, refl, sym, ap, ◌∙◌}
use Rattle.serde_json.specs.View.{view}
use Rattle.serde_json.specs.declared.value.Value.{Array, Object}
use Rattle.std.specs.Vec.{with_item}
use Rattle.json_patch.proofs.Deeper.{bytes_of, first_and_rest, not_below, nothing_there, placed_below}
use Rattle.json_patch.proofs.Placed.{item_at, item_past, item_set, member_at, member_set, past_end, within_end}
use Rattle.json_patch.proofs.placing.+placed.Goals as goal

pub returns-in_default-get_mut : goal.returns-in_default-get_mut
returns-in_default-get_mut t c =
    let token = c.as_str-name.result.now in
    let is = first_and_rest c.args.tokens.now token c.in-Some.token.now c.in-Some.rest.now c.in-Some.ensures.cases.0 c.as_str-name.ensures.value in
    nothing_there c.args.placing (view c.args.value) (bytes_of c.args.tokens.now) token (bytes_of c.in-Some.rest.now) is (view c.args.whole)
    (sym c.is_added_here.ensures ∙ c.if-is_added_here.false)
    (member_at token c.args.whole c.in-Object.members c.in-Object.is None c.in_default-get_mut.ensures.value)

pub returns-in_default-2 : goal.returns-in_default-2
returns-in_default-2 t c =
    let token = c.as_str-name.result.now in
    let is = first_and_rest c.args.tokens.now token c.in-Some.token.now c.in-Some.rest.now c.in-Some.ensures.cases.0 c.as_str-name.ensures.value in
    not_below c.args.placing (view c.args.value) (bytes_of c.args.tokens.now) token (bytes_of c.in-Some.rest.now) is (view c.args.whole)
    (sym c.is_added_here.ensures ∙ c.if-is_added_here.false) (view c.take.result)
    (ap (λ v. Some (view v)) c.take.ensures.taken ∙ member_at token c.args.whole c.in-Object.members c.in-Object.is (Some c.in-Some-get_mut.place.now) c.in-Some-get_mut.ensures.value)
    (ap (option_map view) (sym c.in_default-2.is) ∙ c.in_ok-new-in-Object.ensures)

pub returns-in-Some-2 : goal.returns-in-Some-2
returns-in-Some-2 t c =
    let token = c.as_str-name.result.now in
    let is = first_and_rest c.args.tokens.now token c.in-Some.token.now c.in-Some.rest.now c.in-Some.ensures.cases.0 c.as_str-name.ensures.value in
    let new = c.get_mut.follows.lender c.in-Some-2.new in
    placed_below c.args.placing (view c.args.value) (bytes_of c.args.tokens.now) token (bytes_of c.in-Some.rest.now) is (view c.args.whole)
    (sym c.is_added_here.ensures ∙ c.if-is_added_here.false) (view c.take.result) (view c.in-Some-2.new) (view (Object new))
    (ap (λ v. Some (view v)) c.take.ensures.taken ∙ member_at token c.args.whole c.in-Object.members c.in-Object.is (Some c.in-Some-get_mut.place.now) c.in-Some-get_mut.ensures.value)
    (ap (option_map view) (sym c.in-Some-2.is) ∙ c.in_ok-new-in-Object.ensures)
    (member_set token c.args.whole c.in-Object.members c.in-Object.is new c.in-Some-get_mut.place.now c.in-Some-2.new
    c.in-Some-get_mut.ensures.value c.in-Some-get_mut.ensures.ordered ((c.get_mut.follows.holds c.in-Some-2.new).0))

pub returns-in_default-get_mut-2 : goal.returns-in_default-get_mut-2
returns-in_default-get_mut-2 t c =
    let token = c.as_str-name.result.now in
    let items = c.in-Array.items in
    let is = first_and_rest c.args.tokens.now token c.in-Some.token.now c.in-Some.rest.now c.in-Some.ensures.cases.0 c.as_str-name.ensures.value in
    nothing_there c.args.placing (view c.args.value) (bytes_of c.args.tokens.now) token (bytes_of c.in-Some.rest.now) is (view c.args.whole)
    (sym c.is_added_here.ensures ∙ c.if-is_added_here.false)
    (item_past token c.args.whole items c.in-Array.is c.in-Some-index.index c.in-Some-index.ensures (past_end items c.in-Some-index.index c.in_default-get_mut-2.ensures.variant))

pub returns-in_default-3 : goal.returns-in_default-3
returns-in_default-3 t c =
    let token = c.as_str-name.result.now in
    let items = c.in-Array.items in
    let is = first_and_rest c.args.tokens.now token c.in-Some.token.now c.in-Some.rest.now c.in-Some.ensures.cases.0 c.as_str-name.ensures.value in
    not_below c.args.placing (view c.args.value) (bytes_of c.args.tokens.now) token (bytes_of c.in-Some.rest.now) is (view c.args.whole)
    (sym c.is_added_here.ensures ∙ c.if-is_added_here.false) (view c.take-in-Array.result)
    (ap (λ v. Some (view v)) c.take-in-Array.ensures.taken
    ∙ item_at token c.args.whole items c.in-Array.is c.in-Some-index.index c.in-Some-index.ensures c.in-Some-get_mut-2.place.now (within_end items c.in-Some-index.index c.in-Some-get_mut-2.ensures.variant) c.in-Some-get_mut-2.ensures.value)
    (ap (option_map view) (sym c.in_default-3.is) ∙ c.in_ok-new-in-Array.ensures)

pub returns-in-Some-3 : goal.returns-in-Some-3
returns-in-Some-3 t c =
    let token = c.as_str-name.result.now in
    let items = c.in-Array.items in
    let is = first_and_rest c.args.tokens.now token c.in-Some.token.now c.in-Some.rest.now c.in-Some.ensures.cases.0 c.as_str-name.ensures.value in
    let new = with_item items c.in-Some-index.index c.in-Some-3.new in
    placed_below c.args.placing (view c.args.value) (bytes_of c.args.tokens.now) token (bytes_of c.in-Some.rest.now) is (view c.args.whole)
    (sym c.is_added_here.ensures ∙ c.if-is_added_here.false) (view c.take-in-Array.result) (view c.in-Some-3.new) (view (Array new))
    (ap (λ v. Some (view v)) c.take-in-Array.ensures.taken
    ∙ item_at token c.args.whole items c.in-Array.is c.in-Some-index.index c.in-Some-index.ensures c.in-Some-get_mut-2.place.now (within_end items c.in-Some-index.index c.in-Some-get_mut-2.ensures.variant) c.in-Some-get_mut-2.ensures.value)
    (ap (option_map view) (sym c.in-Some-3.is) ∙ c.in_ok-new-in-Array.ensures)
    (item_set token c.args.whole items c.in-Array.is c.in-Some-index.index c.in-Some-index.ensures new c.in-Some-3.new refl)
