use Rattle.wire_laws.proofs.MalformedBytes.{Readings, no_reply, no_watch, stays}
use Rattle.wire_laws.proofs.malformed.malformed_is_final.Goals as goal

readings : (c : goal.After-prefixes_stand) → Readings
readings c = record { one = c.one_reading.ensures.items; closed = c.prefixes_stand.ensures.closed }

pub returns-clause-stays : goal.returns-clause-stays
returns-clause-stays c = λ bytes more held items hold is. stays (readings c) bytes more held hold is items

pub returns-clause-reply : goal.returns-clause-reply
returns-clause-reply c = λ bytes more held code body hold is. no_reply (readings c) bytes more held hold is code body

pub returns-clause-watch : goal.returns-clause-watch
returns-clause-watch c = λ bytes more held code lines hold is. no_watch (readings c) bytes more held hold is code lines
