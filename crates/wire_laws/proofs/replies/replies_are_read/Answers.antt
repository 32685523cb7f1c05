use Rattle.wire_laws.proofs.PrintedReplies.{Reader, reply_read, short_sent}
use Rattle.wire_laws.proofs.replies.replies_are_read.Goals as goal

pub returns : goal.returns
returns c =
    let reader : Reader = record { reply = c.reply_reads_back.ensures.reply; counted = c.reply_reads_back.ensures.length; none = c.long_replies_are_malformed.ensures.reply; uncounted = c.long_replies_are_malformed.ensures.length } in
    record { replies = reply_read reader; short = short_sent }
