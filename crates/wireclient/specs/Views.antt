-- What the crate's values say, without where they lie in memory.
use Rattle.std.specs.Prelude.{ℕ, Option, option_map}
use Rattle.wireclient.specs.declared.item.Item as items
use Rattle.wireclient.specs.declared.item.Item.TheVariants as item
use Rattle.wireclient.specs.declared.state.Framing as framings
use Rattle.wireclient.specs.declared.state.Framing.TheVariants as framing
use Rattle.wireclient.specs.declared.state.State as states
use Rattle.wireclient.specs.declared.state.State.TheVariants as state
use Rattle.wireclient.specs.Reply.{HeadCheck, Framing, by_length, by_chunks, ReplyItem, head, whole, line, end, malformed, State, heading, body, size, size_lf, data_in, data_cr, data_lf, last_cr, last_lf, ended, broken}

abbrev pub framing_in : framings.Framing → Framing
framing_in (framing.Length n) = by_length n
framing_in framing.Chunks = by_chunks

abbrev pub reply_item_of : items.Item → ReplyItem
reply_item_of (item.Head status) = head status
reply_item_of (item.Body bytes) = whole bytes.items
reply_item_of (item.Line bytes) = line bytes.items
reply_item_of item.End = end
reply_item_of item.Malformed = malformed

abbrev pub state_of : states.State → State
state_of (state.Heading bytes p) = heading bytes.items p
state_of (state.Body left bytes) = body left bytes.items
state_of (state.Size count value text) = size count value text.items
state_of (state.SizeLf value text) = size_lf value text.items
state_of (state.Data left text) = data_in left text.items
state_of (state.DataCr text) = data_cr text.items
state_of (state.DataLf text) = data_lf text.items
state_of (state.LastCr text) = last_cr text.items
state_of (state.LastLf text) = last_lf text.items
state_of state.Ended = ended
state_of state.Broken = broken

abbrev pub check_of : Option (ℕ × framings.Framing) → HeadCheck
check_of o = option_map (λ r. (r.0, framing_in r.1)) o
