-- What a client reads of a reply.
use Rattle.std.specs.Prelude.{ℕ, List, [], ◌∷◌, length, nat_le, if◌then◌else◌}
use Rattle.wireclient.specs.Reads.{max_body}
use Rattle.wireclient.specs.Reply.{ReplyItem, end, head, malformed, whole}

-- the status, the body and the end; where the body is too long for a client a bad byte alone
abbrev pub reply_sent : ℕ → List ℕ → List ReplyItem
reply_sent code body = if nat_le (length body) max_body then head code ∷ whole body ∷ end ∷ [] else malformed ∷ []
