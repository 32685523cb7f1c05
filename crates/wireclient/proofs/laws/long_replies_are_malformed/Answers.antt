use Rattle.wireclient.proofs.TooLong.{no_length, unframed_read}
use Rattle.wireclient.proofs.laws.long_replies_are_malformed.Goals as goal

pub returns : goal.returns
returns c = record { reply = unframed_read; length = no_length }
