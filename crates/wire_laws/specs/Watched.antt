-- What a client reads of a watch.
use Rattle.std.specs.Prelude.{ℕ, Bool, List, [], ◌∷◌, length, nat_lt, if◌then◌else◌}
use Rattle.std.specs.List.{flat_map}
use Rattle.wireclient.specs.Reply.{ReplyItem, end, head, line, malformed, max_line}

abbrev pub end_sent : Bool → List ReplyItem
end_sent has_ended = if has_ended then end ∷ [] else []

-- each line, and then these; where a line is too long for a client a bad byte, and no more
abbrev pub lines_sent : List (List ℕ) → List ReplyItem → List ReplyItem
lines_sent [] last = last
lines_sent (text ∷ texts) last = if nat_lt (length text) max_line then line text ∷ lines_sent texts last else malformed ∷ []

-- the status, the lines, and the end, where the watch has ended
abbrev pub sent_of : ℕ → List (List ℕ) → Bool → List ReplyItem
sent_of code texts has_ended = head code ∷ lines_sent texts (end_sent has_ended)

-- the texts of each turn, one turn after the other
abbrev pub joined : List (List (List ℕ)) → List (List ℕ)
joined turns = flat_map (λ texts. texts) turns
