use Rattle.std.proofs.Common.{◌≡◌, ◌-◌, ◌∷◌, [], true, false, true≢false, length, map, string_bytes, Some, None, unwrap_or, bytes_eq, refl, sym, ap, ◌∙◌, arith}
use Rattle.std.proofs.lemmas.Slice.Eq.{bytes_eq-Decides}
use Rattle.json.specs.Token.{Token}
use Rattle.json.specs.Json.{read_key, value}
use Rattle.json.specs.Reads.{token_of}
use Rattle.json.proofs.Grammar.{read_key-shorter}
use Rattle.serde_json.specs.Data.{no_members, object, put}
use Rattle.json_values.specs.Texts.{named_texts}
use Rattle.lists.specs.Labels.{labels_by}
use Rattle.lists.specs.Finding.{begins_object, data_at, reads}
use Rattle.revtable.proofs.Outcomes.{when_ok}
use Rattle.lists.proofs.Turns.{found_before, found_here, member_read, members_over, no_path, no_texts, object_begins, object_read}
use Rattle.lists.proofs.finding.+finding.Goals as goal

pub find_in-members-init : goal.find_in-members-init
find_in-members-init t c = (length c.args.reader.now, no_members, omega arith, omega arith, refl, ap (map (λ e. (string_bytes e.0, string_bytes e.1))) c.new-found.ensures.empty)

pub find_in-returns-clause-found : goal.find_in-returns-clause-found
find_in-returns-clause-found t c =
    let l = c.members in
    let old = l.invariant.1 in
    (old, l.invariant.4 ∙ members_over (value c.args.depth) old l.invariant.0 l.reader c.next_key.new.self l.invariant.2 (grind arith), l.invariant.5)

pub find_in-returns-clause-shorter : goal.find_in-returns-clause-shorter
find_in-returns-clause-shorter t c =
    let l = c.members in
    omega (arith, l.invariant.3, read_key-shorter l.reader None c.next_key.new.self (grind arith))

pub find_in-members-preserved-then-eq : goal.find_in-members-preserved-then-eq
find_in-members-preserved-then-eq t c =
    let p = value c.args.depth in
    let l = c.members in
    let n = l.invariant.0 in
    let old = l.invariant.1 in
    let k = c.in-Some.key.now in
    let s = c.next_key.new.self in
    let r = c.find.new.reader in
    let named : read_key l.reader ≡ Some (Some k, s) = grind arith in
    let tested : bytes_eq k c.args.name.now ≡ true = grind arith in
    let f = c.in_ok-found.ensures.found in
    let less = read_key-shorter l.reader (Some k) s named in
    let lesser = c.in_ok-found.ensures.shorter in (
      n - 1,
      put k f.0 old,
      omega (arith, l.invariant.2),
      omega (arith, l.invariant.3),
      l.invariant.4 ∙ member_read p old n k l.reader s r f.0 (omega (arith, l.invariant.2)) named f.1,
      found_here c.args.name.now k (map (λ x. x.now) c.args.path.now) f.0 old (named_texts c.in_ok-found.found) ((bytes_eq-Decides k c.args.name.now).0 tested) f.2,
    )

pub find_in-members-preserved : goal.find_in-members-preserved
find_in-members-preserved t c =
    let p = value c.args.depth in
    let l = c.members in
    let n = l.invariant.0 in
    let old = l.invariant.1 in
    let k = c.in-Some.key.now in
    let s = c.next_key.new.self in
    let r = c.pass_value.new.reader in
    let named : read_key l.reader ≡ Some (Some k, s) = grind arith in
    let tested : bytes_eq k c.args.name.now ≡ false = grind arith in
    let done = c.in_ok-pass_value.ensures in
    let d = done.passed.0 in
    let less = read_key-shorter l.reader (Some k) s named in
    let lesser = done.shorter in (
      n - 1,
      put k d old,
      omega (arith, l.invariant.2),
      omega (arith, l.invariant.3),
      l.invariant.4 ∙ member_read p old n k l.reader s r d (omega (arith, l.invariant.2)) named done.passed.1,
      found_before c.args.name.now k (map (λ x. x.now) c.args.path.now) d old (named_texts l.found) (λ e. true≢false (sym ((bytes_eq-Decides k c.args.name.now).1 (sym e)) ∙ tested)) l.invariant.5,
    )

pub find-returns-then-not-begins_object-clause-found : goal.find-returns-then-not-begins_object-clause-found
find-returns-then-not-begins_object-clause-found t c =
    let rest = c.next.new.self in
    let token = token_of c.in_ok-token.token in
    let p = c.in_ok-pass_from.ensures.passed in
    let is : c.args.reader.now ≡ token ∷ rest = grind arith in
    let other : begins_object token ≡ false = grind arith in
    let empty : named_texts c.new.result ≡ [] = ap (map (λ e. (string_bytes e.0, string_bytes e.1))) c.new.ensures.empty in (
      p.0,
      ap (reads c.args.depth) is ∙ p.1,
      empty ∙ no_texts c.args.depth token rest c.pass_from.new.reader p.0 (map (λ x. x.now) c.args.path.now) other p.1,
    )

pub find-returns-in-Some-clause-found : goal.find-returns-in-Some-clause-found
find-returns-in-Some-clause-found t c =
    let rest = c.next.new.self in
    let token = token_of c.in_ok-token.token in
    let opens : begins_object token ≡ true = grind arith in
    let began : c.args.reader.now ≡ token ∷ rest = grind arith in
    let is : c.args.reader.now ≡ Token.begin_object ∷ rest = began ∙ ap (λ x. x ∷ rest) (object_begins token opens) in
    when_ok c.find_in.result _ _
    (λ m h. (
      object h.0,
      ap (reads c.args.depth) is ∙ object_read c.args.depth rest c.find_in.new.reader h.0 (omega arith) h.1,
      h.2 ∙ sym (ap (λ ps. labels_by (data_at (map (λ x. x.now) ps) (object h.0))) c.in-Some.ensures.cases.0),
    ))
    c.find_in.ensures.found

pub find-returns-in-None-clause-found : goal.find-returns-in-None-clause-found
find-returns-in-None-clause-found t c =
    let rest = c.next.new.self in
    let token = token_of c.in_ok-token.token in
    let opens : begins_object token ≡ true = grind arith in
    let began : c.args.reader.now ≡ token ∷ rest = grind arith in
    let is : c.args.reader.now ≡ Token.begin_object ∷ rest = began ∙ ap (λ x. x ∷ rest) (object_begins token opens) in
    let none : c.args.path.now ≡ [] = no_path c.args.path.now c.in-None.ensures.cases in
    when_ok c.read_texts.result _ _
    (λ m h. (
      object h.0,
      ap (reads c.args.depth) is ∙ object_read c.args.depth rest c.read_texts.new.reader h.0 (omega arith) h.1,
      sym (ap (λ ps. labels_by (data_at (map (λ x. x.now) ps) (object h.0))) none ∙ ap (λ o. unwrap_or o []) h.2),
    ))
    c.read_texts.ensures.texts
