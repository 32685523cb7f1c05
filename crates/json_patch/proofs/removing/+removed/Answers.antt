use Rattle.std.proofs.Common.{Some, None, option_map, refl, sym, ap, ◌∙◌}
use Rattle.std.specs.Vec.{with_item}
use Rattle.serde_json.specs.View.{view}
use Rattle.serde_json.specs.declared.value.Value.{Array, Object}
use Rattle.json_patch.specs.Represented.{pair_of}
use Rattle.json_patch.proofs.Deeper.{bytes_of, first_and_rest, none_below, none_there, removed_below}
use Rattle.json_patch.proofs.Placed.{item_at, item_past, item_set, member_at, member_set, past_end, within_end}
use Rattle.json_patch.proofs.removing.+removed.Goals as goal

pub returns-in_err-place-in-Object : goal.returns-in_err-place-in-Object
returns-in_err-place-in-Object t c =
    let token = c.as_str-name.result.now in
    let is = first_and_rest c.args.tokens.now token c.in_ok-token.token.now c.in_ok-token.rest.now c.in_ok-token.ensures.cases.0 c.as_str-name.ensures.value in
    ap (option_map pair_of) c.from_residual-in_err-place-in-Object.ensures
    ∙ none_there (bytes_of c.args.tokens.now) token c.in_ok-token.rest.now is (view c.args.whole) (sym c.is_empty.ensures ∙ c.if-is_empty.false)
    (member_at token c.args.whole c.in-Object.members c.in-Object.is None c.in_err-place-in-Object.ensures.value)

pub returns-in_err-taken-in-Object : goal.returns-in_err-taken-in-Object
returns-in_err-taken-in-Object t c =
    let token = c.as_str-name.result.now in
    let is = first_and_rest c.args.tokens.now token c.in_ok-token.token.now c.in_ok-token.rest.now c.in_ok-token.ensures.cases.0 c.as_str-name.ensures.value in
    ap (option_map pair_of) c.from_residual-in_err-taken-in-Object.ensures
    ∙ none_below (bytes_of c.args.tokens.now) token c.in_ok-token.rest.now is (view c.args.whole) (sym c.is_empty.ensures ∙ c.if-is_empty.false) (view c.take.result)
    (ap (λ v. Some (view v)) c.take.ensures.taken ∙ member_at token c.args.whole c.in-Object.members c.in-Object.is (Some c.in_ok-place-in-Object.place.now) c.in_ok-place-in-Object.ensures.value)
    c.in_err-taken-in-Object.ensures

pub returns-in-Object : goal.returns-in-Object
returns-in-Object t c =
    let token = c.as_str-name.result.now in
    let is = first_and_rest c.args.tokens.now token c.in_ok-token.token.now c.in_ok-token.rest.now c.in_ok-token.ensures.cases.0 c.as_str-name.ensures.value in
    let left = c.in_ok-taken-in-Object.left in
    let new = c.get_mut.follows.lender left in
    removed_below (bytes_of c.args.tokens.now) token c.in_ok-token.rest.now is (view c.args.whole) (sym c.is_empty.ensures ∙ c.if-is_empty.false)
    (view c.take.result) (view c.in_ok-taken-in-Object.taken) (view left) (view (Object new))
    (ap (λ v. Some (view v)) c.take.ensures.taken ∙ member_at token c.args.whole c.in-Object.members c.in-Object.is (Some c.in_ok-place-in-Object.place.now) c.in_ok-place-in-Object.ensures.value)
    c.in_ok-taken-in-Object.ensures
    (member_set token c.args.whole c.in-Object.members c.in-Object.is new c.in_ok-place-in-Object.place.now left
    c.in_ok-place-in-Object.ensures.value c.in_ok-place-in-Object.ensures.ordered ((c.get_mut.follows.holds left).0))

pub returns-in_err-place-in-Array : goal.returns-in_err-place-in-Array
returns-in_err-place-in-Array t c =
    let token = c.as_str-name.result.now in
    let items = c.in-Array.items in
    let index = c.in_ok-index-in-Array.field-0 in
    let is = first_and_rest c.args.tokens.now token c.in_ok-token.token.now c.in_ok-token.rest.now c.in_ok-token.ensures.cases.0 c.as_str-name.ensures.value in
    ap (option_map pair_of) c.from_residual-in_err-place-in-Array.ensures
    ∙ none_there (bytes_of c.args.tokens.now) token c.in_ok-token.rest.now is (view c.args.whole) (sym c.is_empty.ensures ∙ c.if-is_empty.false)
    (item_past token c.args.whole items c.in-Array.is index c.in_ok-index-in-Array.ensures (past_end items index c.in_err-place-in-Array.ensures.variant))

pub returns-in_err-taken-in-Array : goal.returns-in_err-taken-in-Array
returns-in_err-taken-in-Array t c =
    let token = c.as_str-name.result.now in
    let items = c.in-Array.items in
    let index = c.in_ok-index-in-Array.field-0 in
    let is = first_and_rest c.args.tokens.now token c.in_ok-token.token.now c.in_ok-token.rest.now c.in_ok-token.ensures.cases.0 c.as_str-name.ensures.value in
    ap (option_map pair_of) c.from_residual-in_err-taken-in-Array.ensures
    ∙ none_below (bytes_of c.args.tokens.now) token c.in_ok-token.rest.now is (view c.args.whole) (sym c.is_empty.ensures ∙ c.if-is_empty.false) (view c.take-in-Array.result)
    (ap (λ v. Some (view v)) c.take-in-Array.ensures.taken
    ∙ item_at token c.args.whole items c.in-Array.is index c.in_ok-index-in-Array.ensures c.in_ok-place-in-Array.place.now (within_end items index c.in_ok-place-in-Array.ensures.variant) c.in_ok-place-in-Array.ensures.value)
    c.in_err-taken-in-Array.ensures

pub returns-in-Array : goal.returns-in-Array
returns-in-Array t c =
    let token = c.as_str-name.result.now in
    let items = c.in-Array.items in
    let index = c.in_ok-index-in-Array.field-0 in
    let is = first_and_rest c.args.tokens.now token c.in_ok-token.token.now c.in_ok-token.rest.now c.in_ok-token.ensures.cases.0 c.as_str-name.ensures.value in
    let left = c.in_ok-taken-in-Array.left in
    let new = with_item items index left in
    removed_below (bytes_of c.args.tokens.now) token c.in_ok-token.rest.now is (view c.args.whole) (sym c.is_empty.ensures ∙ c.if-is_empty.false)
    (view c.take-in-Array.result) (view c.in_ok-taken-in-Array.taken) (view left) (view (Array new))
    (ap (λ v. Some (view v)) c.take-in-Array.ensures.taken
    ∙ item_at token c.args.whole items c.in-Array.is index c.in_ok-index-in-Array.ensures c.in_ok-place-in-Array.place.now (within_end items index c.in_ok-place-in-Array.ensures.variant) c.in_ok-place-in-Array.ensures.value)
    c.in_ok-taken-in-Array.ensures
    (item_set token c.args.whole items c.in-Array.is index c.in_ok-index-in-Array.ensures new left refl)
