-- Why a client gives a reply up: what is wrong with an item of it, none where the item fits. What the client does with an
-- item stands in `Run`; each of these is one of its ways to begin again.
use Rattle.std.specs.Prelude.{ℕ, ◌==◌, nat_eq, nat_lt, nat_le, if◌then◌else◌, List, [], ◌∷◌, ◌++◌, length, Option, Some, None}
use Rattle.std.specs.FinMap as fin
use Rattle.std.specs.declared.result.Result.TheVariants.{Ok, Err}
use Rattle.indexer.specs.Objects.{Stored}
use Rattle.wireclient.specs.Reply.{ReplyItem, head, whole, end, malformed}
use Rattle.wireclient.specs.Reply as reply
use Rattle.decoder.specs.Wanted.{Wanted}
use Rattle.decoder.specs.Members.{Read}
use Rattle.decoder.specs.Pages.{Page, page_in}
use Rattle.decoder.specs.Lines.{Line, line_in, put, deleted, bookmark, error}
use Rattle.reflector.specs.declared.relist_reason.RelistReason.{RelistReason}
use Rattle.reflector.specs.declared.relist_reason.RelistReason.TheVariants.{Status, MalformedHttp, NotAList, NotAWatch, InconsistentList, NotAscending, TooManyObjects, StaleEvent, StaleBookmark, ErrorEvent}
use Rattle.reflector.specs.declared.relist_reason.RelistReason.TheVariants as relist_reason
use Rattle.reflector.specs.Client.{place_in, max_objects, Cache, SyncPhase, first, next, streaming, Client}
use Rattle.reflector.specs.Run.{receives, ascends_within_limit}

abbrev pub status_reason : ℕ → Option RelistReason
status_reason status = if status == 200 then None else Some (Status status)

-- ---- lists

-- too many, or else keys that don't ascend
abbrev pub objects_reason : List Stored → Option RelistReason
objects_reason all = if ascends_within_limit all then None else Some (if nat_le (length all) max_objects then NotAscending else TooManyObjects)

-- with all objects so far
abbrev pub page_reason : List Stored → Page → Option RelistReason
page_reason paged_list p = objects_reason (paged_list ++ p.objects)

-- a later page is of the first one's revision
abbrev pub next_page_reason : ℕ → List Stored → Page → Option RelistReason
next_page_reason revision paged_list p = if nat_eq p.revision revision then page_reason paged_list p else Some InconsistentList

abbrev pub body_reason : (Page → Option RelistReason) → Read Page → Option RelistReason
body_reason rules (Ok p) = rules p
body_reason rules (Err m) = Some (relist_reason.Malformed m)

-- a list is answered by one body
abbrev pub list_item_reason : Wanted → (Page → Option RelistReason) → ReplyItem → Option RelistReason
list_item_reason wanted rules (head status) = status_reason status
list_item_reason wanted rules (whole bytes) = body_reason rules (page_in wanted bytes)
list_item_reason wanted rules (reply.line bytes) = Some NotAList
list_item_reason wanted rules end = Some NotAList
list_item_reason wanted rules malformed = Some MalformedHttp

-- ---- watches

abbrev pub put_reason : Cache → Stored → Option RelistReason
put_reason now o =
    if nat_lt now.revision o.revision
    then (if nat_le (fin.len (fin.insert now.objects (place_in o) o)) max_objects then None else Some TooManyObjects)
    else Some StaleEvent

abbrev pub deleted_reason : Cache → Stored → Option RelistReason
deleted_reason now o = if nat_lt now.revision o.revision then None else Some StaleEvent

abbrev pub bookmark_reason : Cache → ℕ → Option RelistReason
bookmark_reason now revision = if nat_le now.revision revision then None else Some StaleBookmark

-- a client without a cache asks a list
abbrev pub line_reason : Option Cache → Line → Option RelistReason
line_reason None l = Some NotAList
line_reason (Some now) (put o) = put_reason now o
line_reason (Some now) (deleted o) = deleted_reason now o
line_reason (Some now) (bookmark revision) = bookmark_reason now revision
line_reason (Some now) error = Some ErrorEvent

abbrev pub text_reason : Option Cache → Read Line → Option RelistReason
text_reason now (Ok l) = line_reason now l
text_reason now (Err m) = Some (relist_reason.Malformed m)

-- a watch is answered by lines, and may end
abbrev pub watch_item_reason : Wanted → Option Cache → ReplyItem → Option RelistReason
watch_item_reason wanted now (head status) = status_reason status
watch_item_reason wanted now (whole bytes) = Some NotAWatch
watch_item_reason wanted now (reply.line bytes) = text_reason now (line_in wanted bytes)
watch_item_reason wanted now end = None
watch_item_reason wanted now malformed = Some MalformedHttp

-- ---- items

-- an item of the reply to what is asked
abbrev pub item_reason : Wanted → Option Cache → SyncPhase → ReplyItem → Option RelistReason
item_reason wanted now first x = list_item_reason wanted (page_reason []) x
item_reason wanted now (next revision token paged_list) x = list_item_reason wanted (next_page_reason revision paged_list) x
item_reason wanted now streaming x = watch_item_reason wanted now x

-- why the reply was given up, after an item more; what comes after it was isn't received
abbrev pub relist_reason_with : Wanted → Client → Option RelistReason → ReplyItem → Option RelistReason
relist_reason_with wanted c t x = if c.is_awaiting_reply then item_reason wanted c.cache c.sync x else t

-- after these items of the reply
abbrev pub relist_reason_after : Wanted → Client → Option RelistReason → List ReplyItem → Option RelistReason
relist_reason_after wanted c t [] = t
relist_reason_after wanted c t (x ∷ xs) = relist_reason_after wanted (receives wanted c x) (relist_reason_with wanted c t x) xs
