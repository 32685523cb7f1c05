use Rattle.std.proofs.Common.{◌≡◌, ◌-◌, ◌∷◌, suc, length, map, string_bytes, Some, None, sym, ap, ◌∙◌, arith}
use Rattle.json.specs.Token.{Token}
use Rattle.json.specs.Json.{members, read_key, value}
use Rattle.json.specs.Reads.{token_of}
use Rattle.json.proofs.Grammar.{read_key-shorter}
use Rattle.serde_json.specs.Data.{string}
use Rattle.serde_json.specs.Read.{converted, of_members}
use Rattle.json_values.specs.Texts.{named_texts}
use Rattle.lists.specs.Finding.{reads}
use Rattle.lists.proofs.Turns.{as_members, member_read, members_over, string_read, text_put, texts_back}
use Rattle.lists.proofs.finding.read_texts.Goals as goal

pub members-init : goal.members-init
members-init c =
    let all = members (value c.args.depth) (length c.args.reader.now) c.args.reader.now in
    (length c.args.reader.now, omega arith, omega arith, ap (λ es. converted (λ ms. of_members ms (as_members (map (λ e. (string_bytes e.0, string_bytes e.1)) es))) all) (sym c.new-texts.ensures.empty))

pub members-preserved : goal.members-preserved
members-preserved c =
    let p = value c.args.depth in
    let l = c.members in
    let n = l.invariant.0 in
    let old = as_members (named_texts l.texts) in
    let k = c.in-Some.name.now in
    let v = c.in-String.text.now in
    let s = c.next_key.new.self in
    let r = c.next.new.self in
    let named : read_key l.reader ≡ Some (Some k, s) = grind arith in
    let first : s ≡ token_of c.in_ok-token.token ∷ r = grind arith in
    let is : s ≡ Token.string v ∷ r = first ∙ ap (λ t. token_of t ∷ r) c.in-String.is in
    let less = read_key-shorter l.reader (Some k) s named in
    let lesser : length s ≡ suc (length r) = ap length is in
    let text : reads c.args.depth s ≡ Some (string v, r) = ap (reads c.args.depth) is ∙ string_read c.args.depth v r in (
      n - 1,
      omega (arith, l.invariant.1),
      omega (arith, l.invariant.2),
      l.invariant.3 ∙ member_read p old n k l.reader s r (string v) (omega (arith, l.invariant.1)) named text
          ∙ ap (λ found. converted (λ ms. of_members ms found) (members p (n - 1) r)) (sym (ap as_members c.in_ok-put_text.ensures ∙ text_put (named_texts l.texts) k v)),
    )

pub returns-clause-texts : goal.returns-clause-texts
returns-clause-texts c =
    let l = c.members in
    let old = as_members (named_texts l.texts) in
    (old, l.invariant.3 ∙ members_over (value c.args.depth) old l.invariant.0 l.reader c.next_key.new.self l.invariant.1 (grind arith), texts_back (named_texts l.texts))

pub returns-clause-shorter : goal.returns-clause-shorter
returns-clause-shorter c =
    let l = c.members in
    omega (arith, l.invariant.2, read_key-shorter l.reader None c.next_key.new.self (grind arith))
