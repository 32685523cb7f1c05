use Rattle.std.proofs.Common.{◌≡◌, ◌-◌, ◌<◌, ◌∷◌, length, Some, None, refl, ap, ◌∙◌, arith}
use Rattle.std.proofs.lemmas.Result.{on_ok_weaker}
use Rattle.json.specs.Json.{after_end_array, parse_map, read_key, value}
use Rattle.json.specs.Reads.{token_of}
use Rattle.json.proofs.Grammar.{after_end_array-shorter, read_key-shorter}
use Rattle.serde_json.specs.Data.{array, boolean, item, no_items, no_members, null, object, put, string}
use Rattle.lists.specs.Finding.{reads}
use Rattle.lists.proofs.Turns.{array_read, boolean_read, item_read, items_over, member_read, members_over, none_before, null_read, number_read, object_read, one_more_before, string_read}
use Rattle.lists.proofs.passing.+passing.Goals as goal

pub pass_items-items-init : goal.pass_items-items-init
pass_items-items-init t c = (length c.args.reader.now, λ ds. ds, omega arith, omega arith, none_before _)

pub pass_items-items-preserved : goal.pass_items-items-preserved
pass_items-items-preserved t c =
    let p = value c.args.depth in
    let l = c.items in
    let n = l.invariant.0 in
    let before = l.invariant.1 in
    let going : (after_end_array l.reader ≡ None) × (c.take_end_array.new.self ≡ l.reader) = grind arith in
    let done = c.in_ok-pass_value.ensures in
    let d = done.passed.0 in
    let r = c.pass_value.new.reader in
    let less : length r < length l.reader = rw (← going.1) done.shorter in
    let turn = item_read p n l.reader r d (omega (arith, l.invariant.2)) going.0 (rw (← going.1) done.passed.1) in (
      n - 1,
      λ ds. before (item d ds),
      omega (arith, l.invariant.2),
      omega (arith, l.invariant.3),
      l.invariant.4 ∙ ap (parse_map before) turn ∙ one_more_before before d _,
    )

pub pass_items-returns-clause-passed : goal.pass_items-returns-clause-passed
pass_items-returns-clause-passed t c =
    let l = c.items in
    let before = l.invariant.1 in
    (before no_items, l.invariant.4 ∙ ap (parse_map before) (items_over (value c.args.depth) l.invariant.0 l.reader c.take_end_array.new.self l.invariant.2 (grind arith)))

pub pass_items-returns-clause-shorter : goal.pass_items-returns-clause-shorter
pass_items-returns-clause-shorter t c =
    let l = c.items in
    omega (arith, l.invariant.3, after_end_array-shorter l.reader c.take_end_array.new.self (grind arith))

pub pass_members-members-init : goal.pass_members-members-init
pass_members-members-init t c = (length c.args.reader.now, no_members, omega arith, omega arith, refl)

pub pass_members-members-preserved : goal.pass_members-members-preserved
pass_members-members-preserved t c =
    let p = value c.args.depth in
    let l = c.members in
    let n = l.invariant.0 in
    let old = l.invariant.1 in
    let k = c.in-Some.field-0.now in
    let s = c.next_key.new.self in
    let named : read_key l.reader ≡ Some (Some k, s) = grind arith in
    let done = c.in_ok-pass_value.ensures in
    let d = done.passed.0 in
    let r = c.pass_value.new.reader in
    let less = read_key-shorter l.reader (Some k) s named in
    let lesser = done.shorter in (
      n - 1,
      put k d old,
      omega (arith, l.invariant.2),
      omega (arith, l.invariant.3),
      l.invariant.4 ∙ member_read p old n k l.reader s r d (omega (arith, l.invariant.2)) named done.passed.1,
    )

pub pass_members-returns-clause-passed : goal.pass_members-returns-clause-passed
pass_members-returns-clause-passed t c =
    let l = c.members in
    let old = l.invariant.1 in
    (old, l.invariant.4 ∙ members_over (value c.args.depth) old l.invariant.0 l.reader c.next_key.new.self l.invariant.2 (grind arith))

pub pass_members-returns-clause-shorter : goal.pass_members-returns-clause-shorter
pass_members-returns-clause-shorter t c =
    let l = c.members in
    omega (arith, l.invariant.3, read_key-shorter l.reader None c.next_key.new.self (grind arith))

pub pass_from-returns-in-String-clause-passed : goal.pass_from-returns-in-String-clause-passed
pass_from-returns-in-String-clause-passed t c =
    let ts = c.args.reader.now in
    let s = c.in-String.field-0.now in
    (string s, ap (λ k. reads c.args.depth (token_of k ∷ ts)) c.in-String.is ∙ string_read c.args.depth s ts)

pub pass_from-returns-in-Bool-clause-passed : goal.pass_from-returns-in-Bool-clause-passed
pass_from-returns-in-Bool-clause-passed t c =
    let ts = c.args.reader.now in
    let b = c.in-Bool.field-0 in
    (boolean b, ap (λ k. reads c.args.depth (token_of k ∷ ts)) c.in-Bool.is ∙ boolean_read c.args.depth b ts)

pub pass_from-returns-in-Null-clause-passed : goal.pass_from-returns-in-Null-clause-passed
pass_from-returns-in-Null-clause-passed t c =
    let ts = c.args.reader.now in
    (null, ap (λ k. reads c.args.depth (token_of k ∷ ts)) c.in-Null.is ∙ null_read c.args.depth ts)

pub pass_from-returns-then-is_natural-clause-passed : goal.pass_from-returns-then-is_natural-clause-passed
pass_from-returns-then-is_natural-clause-passed t c =
    let ts = c.args.reader.now in
    let s = c.in-Number.text.now in
    let known = number_read c.args.depth s ts (c.is_natural.ensures (grind arith)) in
    (known.0, ap (λ k. reads c.args.depth (token_of k ∷ ts)) c.in-Number.is ∙ known.1)

pub pass_from-returns-else-depth-eq0-clause-passed : goal.pass_from-returns-else-depth-eq0-clause-passed
pass_from-returns-else-depth-eq0-clause-passed t c =
    let ts = c.args.reader.now in
    on_ok_weaker c.pass_items.result
    (λ h. (array h.0, ap (λ k. reads c.args.depth (token_of k ∷ ts)) c.in-BeginArray.is ∙ array_read c.args.depth ts c.pass_items.new.reader h.0 (omega arith) h.1))
    c.pass_items.ensures.passed

pub pass_from-returns-else-depth-eq0-2-clause-passed : goal.pass_from-returns-else-depth-eq0-2-clause-passed
pass_from-returns-else-depth-eq0-2-clause-passed t c =
    let ts = c.args.reader.now in
    on_ok_weaker c.pass_members.result
    (λ h. (object h.0, ap (λ k. reads c.args.depth (token_of k ∷ ts)) c.in-BeginObject.is ∙ object_read c.args.depth ts c.pass_members.new.reader h.0 (omega arith) h.1))
    c.pass_members.ensures.passed
