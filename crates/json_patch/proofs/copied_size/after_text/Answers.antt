use Rattle.std.proofs.Common.{length, ◌∙◌}
use Rattle.json.specs.Print.{quoted}
use Rattle.json_patch.specs.CopiedSize.{left_of}
use Rattle.json_patch.proofs.Sizes.{byte_counted, byte_too_long, text_ended, text_too_long}
use Rattle.json_patch.proofs.copied_size.after_text.Goals as goal

pub returns-in_err-left : goal.returns-in_err-left
returns-in_err-left c = c.from_residual.ensures ∙ text_too_long c.args.room c.args.text.now c.in_err-left.ensures

pub returns-in_err-left-2 : goal.returns-in_err-left-2
returns-in_err-left-2 c =
    c.from_residual-in_err-left-2.ensures
    ∙ byte_too_long (left_of c.args.room (length (quoted c.args.text.now))) c.as_bytes-bytes.result.now c.loop-byte.byte-index c.loop-byte.left c.escaped_size.result c.loop-byte-test.true c.escaped_size.ensures
    c.loop-byte.invariant c.in_err-left-2.ensures

pub loop-byte-preserved : goal.loop-byte-preserved
loop-byte-preserved c =
    byte_counted (left_of c.args.room (length (quoted c.args.text.now))) c.as_bytes-bytes.result.now c.loop-byte.byte-index c.loop-byte.left c.escaped_size.result c.loop-byte-test.true c.escaped_size.ensures
    c.loop-byte.invariant c.in_ok-left-2.left c.in_ok-left-2.ensures

pub returns : goal.returns
returns c = text_ended (left_of c.args.room (length (quoted c.args.text.now))) c.as_bytes-bytes.result.now c.loop-byte.byte-index c.loop-byte.left c.loop-byte-test.false c.loop-byte.invariant
