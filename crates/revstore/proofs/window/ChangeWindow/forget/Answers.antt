use Rattle.std.proofs.Common.{◌≡◌, suc, ◌+◌, ◌-◌, ◌<◌, ap, get_or, length, refl, take, ◌∙◌, arith}
use Rattle.revstore.proofs.Latest.{part_stays, waits_still}
use Rattle.revstore.proofs.window.ChangeWindow.forget.Goals as goal

pub returns-clause-latest : goal.returns-clause-latest
returns-clause-latest c = λ h is are.
    let found = c.in-Some.ensures.lookup in
    let all = c.args.self.now.latest in
    let count = c.min-count.result in
    let n = count - 1 in
    let left = c.len.result - count in
    let same : length c.deref.result.now ≡ length all.items = ap length c.deref.ensures.value in
    let lt : n < length all.items = omega (arith, same, found.3.0) in
    let len : c.len.result ≡ length all.items = c.len.ensures ∙ all.ok.0 in
    let next : suc n ≡ count = omega (arith, c.if-count-eq0.false) in
    let both : left + count ≡ length all.items = omega (arith, len, lt, next) in
    part_stays h c.args.self.now _ n count left c.in-Some.last.now is are lt (found.1 ∙ ap (λ xs. get_or xs n c.in-Some.last.now) c.deref.ensures.value) next both refl
    (c.truncate.ensures.items ∙ ap (take left) c.rotate_left.ensures.items) (omega (arith, c.min-count.ensures))

pub returns-clause-waiting : goal.returns-clause-waiting
returns-clause-waiting c =
    let found = c.in-Some.ensures.lookup in
    let all = c.args.self.now.latest in
    let count = c.min-count.result in
    let n = count - 1 in
    let left = c.len.result - count in
    let same : length c.deref.result.now ≡ length all.items = ap length c.deref.ensures.value in
    let lt : n < length all.items = omega (arith, same, found.3.0) in
    let len : c.len.result ≡ length all.items = c.len.ensures ∙ all.ok.0 in
    let next : suc n ≡ count = omega (arith, c.if-count-eq0.false) in
    let both : left + count ≡ length all.items = omega (arith, len, lt, next) in
    waits_still all.items _ c.args.self.now.written count left (c.args.self.now.written - count) both (omega (arith, c.min-count.ensures))
    (c.truncate.ensures.items ∙ ap (take left) c.rotate_left.ensures.items)
