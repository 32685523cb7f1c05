-- What an item said, and what it leaves to ask.
use Rattle.std.specs.Prelude.{◌≡◌, ℕ, ◌==◌, Bool, true, false, List, [], ◌++◌, Option, Some, None, if◌then◌else◌}
use Rattle.wireclient.specs.Reply.{ReplyItem}
use Rattle.decoder.specs.Pages.{Page}
use Rattle.decoder.specs.Views.{line_seen, page_seen}
use Rattle.decoder.specs.Wanted.{Wanted}
use Rattle.reflector.specs.declared.mirror.Mirror.{Mirror}
use Rattle.reflector.specs.declared.response.Response as response
use Rattle.reflector.specs.declared.response.Response.TheVariants as said
use Rattle.reflector.specs.declared.relist_reason.RelistReason.{RelistReason}
use Rattle.reflector.specs.declared.relist_reason.RelistReason.TheVariants.{NotAList, NotAWatch}
use Rattle.indexer.specs.Objects.{Stored}
use Rattle.reflector.specs.Client.{SyncPhase, next, streaming, Cache, Client}
use Rattle.reflector.specs.Items.{Response, begun, page, line, over, unexpected}
use Rattle.reflector.specs.Run.{receives_all, with_next, with_page}
use Rattle.reflector.specs.MirrorRepresentsViews.{MirrorRepresents}
use Rattle.reflector.specs.RelistReasons.{line_reason, next_page_reason, page_reason}

abbrev pub response_of : response.Response → Response
response_of said.Begun = begun
response_of (said.Page p) = page (page_seen p)
response_of (said.Line l) = line (line_seen l)
response_of said.Over = over
response_of (said.Unexpected t) = unexpected

abbrev pub is_streaming : SyncPhase → Bool
is_streaming streaming = true
is_streaming _ = false

-- after a page: of a continued list the pages so far are kept beside; of any other question there are none
abbrev pub with_page_after : Client → SyncPhase → Page → Client
with_page_after c (next revision token paged_list) = with_next c revision paged_list
with_page_after c _ = with_page c []

abbrev pub head_said : ℕ → Response
head_said status = if status == 200 then begun else unexpected

-- some of these items were received, the first ones, and what is kept is as it was after them
abbrev pub ReceivedSome : {I : Type 0} → (I → Stored → List (List ℕ)) → Wanted → Mirror I → Client → List ReplyItem → Type 0
ReceivedSome keys wanted m c items = (received : List ReplyItem) × (rest : List ReplyItem) × (items ≡ received ++ rest) × MirrorRepresents keys m (receives_all wanted c received)

-- ---- what is wrong with it

abbrev pub page_reason_after : SyncPhase → Page → Option RelistReason
page_reason_after (next revision token paged_list) = next_page_reason revision paged_list
page_reason_after _ = page_reason []

abbrev pub list_relist_reason : (Page → Option RelistReason) → response.Response → Option RelistReason
list_relist_reason rules said.Begun = None
list_relist_reason rules (said.Page p) = rules (page_seen p)
list_relist_reason rules (said.Line l) = Some NotAList
list_relist_reason rules said.Over = Some NotAList
list_relist_reason rules (said.Unexpected t) = Some t

abbrev pub watch_relist_reason : Option Cache → response.Response → Option RelistReason
watch_relist_reason now said.Begun = None
watch_relist_reason now (said.Page p) = Some NotAWatch
watch_relist_reason now (said.Line l) = line_reason now (line_seen l)
watch_relist_reason now said.Over = None
watch_relist_reason now (said.Unexpected t) = Some t
