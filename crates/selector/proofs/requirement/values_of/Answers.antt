use Rattle.std.proofs.Common.{◌≡◌, sym, subst, map, lit<, eqb, length, drop, suc}
use Rattle.std.specs.Prelude.{string_bytes}
use Rattle.std.specs.List.{slice_split}
use Rattle.std.specs.Str.Iter.{split_steps}
use Rattle.std.specs.Str.Pattern.{FindsChar}
use Rattle.std.proofs.lemmas.Result.{err_from_is_err_and}
use Rattle.std.proofs.lemmas.Iterator.{YieldsList}
use Rattle.std.proofs.lemmas.Iterator.Splits.{YieldsList-from_str_split}
use Rattle.std.proofs.lemmas.Iterator.Consumers.{YieldsList-so_far, YieldsList-turn, YieldsList-end}
use Rattle.selector.specs.Grammar.{value_of, values_of}
use Rattle.selector.proofs.Reading.{ends, item_next, item_read, items_end}
use Rattle.selector.proofs.requirement.values_of.Goals as goal

pub returns-in_err-value_of : goal.returns-in_err-value_of
returns-in_err-value_of c =
    let p = err_from_is_err_and c.from_residual.result c.from_residual.ensures.1 in
    let all = slice_split (λ b. eqb b 44) c.args.text.now in
    let chain = subst (λ s. YieldsList (split_steps FindsChar (λ a b. b ≡ a)) (λ x. x.now) s all) (sym c.into_iter-value-iterator.ensures.into_iter_gives)
    (YieldsList-from_str_split 44 c.args.text.now (lit< tt) c.split-value-items.ensures.text c.split-value-items.ensures.has_more c.split-value-items.ensures.pattern) in
    let prefix = map string_bytes c.loop-value.values.items in
    let seen = map (λ x. x.now) c.loop-value.yielded in
    let item = c.in-Some.value.now in
    let turn = YieldsList-turn chain c.loop-value.yielded c.loop-value.value-iterator c.loop-value.yielded_by c.next.result c.next.new.self c.in-Some.value c.in-Some.is c.next.ensures.steps in
    let so_far = YieldsList-so_far chain c.loop-value.yielded c.loop-value.value-iterator c.loop-value.yielded_by in
    let n = length c.loop-value.yielded in
    rw (p.1, p.2)
    (ends c.in_err-value_of.field-0.0 value_of prefix item (drop (suc n) all) (values_of c.args.text.now) c.in_err-value_of.ensures
    (item_read prefix seen all item (drop (suc n) all) c.loop-value.invariant.emitted (item_next n all seen item turn.0 turn.1 so_far)))

pub returns : goal.returns
returns c =
    let all = slice_split (λ b. eqb b 44) c.args.text.now in
    let chain = subst (λ s. YieldsList (split_steps FindsChar (λ a b. b ≡ a)) (λ x. x.now) s all) (sym c.into_iter-value-iterator.ensures.into_iter_gives)
    (YieldsList-from_str_split 44 c.args.text.now (lit< tt) c.split-value-items.ensures.text c.split-value-items.ensures.has_more c.split-value-items.ensures.pattern) in
    let prefix = map string_bytes c.loop-value.values.items in
    let seen = map (λ x. x.now) c.loop-value.yielded in
    let end = YieldsList-end chain c.loop-value.yielded c.loop-value.value-iterator c.loop-value.yielded_by c.next.result c.next.new.self c.in-None.is c.next.ensures.steps in
    items_end prefix seen all c.loop-value.invariant.emitted end.0
