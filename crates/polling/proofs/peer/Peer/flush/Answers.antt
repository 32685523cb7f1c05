use Rattle.polling.proofs.peer.Peer.flush.Goals as goal

pub returns-in_default : goal.returns-in_default
returns-in_default g c =
    let sends = c.write_out-written.ensures.sent_bytes in
    (c.write_out-written.new.writer, sends.0, sends.1, sends.2)

pub returns : goal.returns
returns g c =
    let sends = c.write_out-written.ensures.sent_bytes in
    (c.write_out-written.new.writer, sends.0, sends.1, sends.2)
