use Rattle.std.proofs.Common.{sym, lt-ltb, le-ltb, ◌∙◌}
use Rattle.json_patch.proofs.Sizes.{control_size, plain_size, short_size}
use Rattle.json_patch.proofs.copied_size.escaped_size.Goals as goal

pub returns-then-has_short_escape : goal.returns-then-has_short_escape
returns-then-has_short_escape c = short_size c.args.byte (sym c.has_short_escape.ensures ∙ c.if-has_short_escape.true)

pub returns-then-byte-lt32 : goal.returns-then-byte-lt32
returns-then-byte-lt32 c = control_size c.args.byte (sym c.has_short_escape.ensures ∙ c.if-has_short_escape.false) (lt-ltb c.args.byte 32 c.if-byte-lt32.true)

pub returns-else-byte-lt32 : goal.returns-else-byte-lt32
returns-else-byte-lt32 c = plain_size c.args.byte (sym c.has_short_escape.ensures ∙ c.if-has_short_escape.false) (le-ltb c.args.byte 32 c.if-byte-lt32.false)
