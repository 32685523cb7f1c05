use Rattle.std.proofs.Common.{string_bytes, arith, rules}
use Rattle.std.proofs.lemmas.Str.Pattern.{split_parts}
use Rattle.json_patch.specs.Pointers.{token}
use Rattle.json_patch.proofs.Tokens.{escape_read, escape_bad, last_read}
use Rattle.json_patch.proofs.pointer.read_token.Goals as goal

pub returns-in_default-escaped : goal.returns-in_default-escaped
returns-in_default-escaped c =
    let l = c.escapes in
    let cut = rw c.in-Some.is at (split_parts 126 l.rest.now c.split_once.result c.split_once.ensures.cases (omega arith)) in
    escape_bad (token c.args.text.now) (string_bytes l.token) l.rest.now c.in-Some.before.now c.in-Some.after.now l.invariant.0 cut.0 cut.1 c.in_default-escaped.ensures

pub escapes-preserved : goal.escapes-preserved
escapes-preserved c =
    let l = c.escapes in
    let cut = rw c.in-Some.is at (split_parts 126 l.rest.now c.split_once.result c.split_once.ensures.cases (omega arith)) in (
      escape_read (token c.args.text.now) (string_bytes l.token) l.rest.now c.in-Some.before.now c.in-Some.after.now l.invariant.0 cut.0 cut.1
          (string_bytes c.push_both.new.token) c.in-Some-escaped.meant.now c.in-Some-escaped.more.now c.in-Some-escaped.ensures.0 c.in_ok-push_both.ensures,
      search rules,
    )

pub returns : goal.returns
returns c =
    let l = c.escapes in
    let none = rw c.in_default.is at (split_parts 126 l.rest.now c.split_once.result c.split_once.ensures.cases (omega arith)) in
    last_read (token c.args.text.now) (string_bytes l.token) l.rest.now (string_bytes c.push_str.new.self) l.invariant.0 none c.in_ok-push_str.ensures.bytes
