-- What an item of a reply says to a client that asks a list or a watch. All that doesn't fit the question says the same.
use Rattle.std.specs.Prelude.{◌==◌, if◌then◌else◌}
use Rattle.std.specs.declared.result.Result.TheVariants.{Ok, Err}
use Rattle.wireclient.specs.Reply.{ReplyItem, head, whole, end, malformed}
use Rattle.wireclient.specs.Reply as reply
use Rattle.decoder.specs.Wanted.{Wanted}
use Rattle.decoder.specs.Members.{Read}
use Rattle.decoder.specs.Pages.{Page, page_in}
use Rattle.decoder.specs.Lines.{Line, line_in}

pub data Response : Type 0 where
  begun : Response  -- the reply is an answer (200)
  page : Page → Response
  line : Line → Response
  over : Response  -- the watch has ended
  unexpected : Response

abbrev pub page_or_unexpected : Read Page → Response
page_or_unexpected (Ok p) = page p
page_or_unexpected (Err m) = unexpected

abbrev pub line_or_unexpected : Read Line → Response
line_or_unexpected (Ok l) = line l
line_or_unexpected (Err m) = unexpected

-- a list is answered by one body
abbrev pub said_of_list : Wanted → ReplyItem → Response
said_of_list wanted (head status) = if status == 200 then begun else unexpected
said_of_list wanted (whole bytes) = page_or_unexpected (page_in wanted bytes)
said_of_list wanted (reply.line bytes) = unexpected
said_of_list wanted end = unexpected
said_of_list wanted malformed = unexpected

-- a watch is answered by lines
abbrev pub said_of_watch : Wanted → ReplyItem → Response
said_of_watch wanted (head status) = if status == 200 then begun else unexpected
said_of_watch wanted (whole bytes) = unexpected
said_of_watch wanted (reply.line bytes) = line_or_unexpected (line_in wanted bytes)
said_of_watch wanted end = over
said_of_watch wanted malformed = unexpected
