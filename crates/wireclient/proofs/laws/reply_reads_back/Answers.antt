use Rattle.wireclient.proofs.ReadBack.{length_reads, reply_read}
use Rattle.wireclient.proofs.laws.reply_reads_back.Goals as goal

pub returns : goal.returns
returns c = record { reply = reply_read; length = length_reads }
