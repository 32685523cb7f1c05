-- The client run: lists in pages, then a watch from the list's revision (Kubernetes API Concepts, "Efficient detection of
-- changes", "Retrieving large results sets in chunks", "410 Gone responses").
use Rattle.std.specs.Prelude.{ℕ, Bool, true, false, ◌&&◌, nat_eq, nat_lt, nat_le, if◌then◌else◌, List, [], ◌∷◌, ◌++◌, length, Option, Some, None}
use Rattle.std.specs.FinMap as fin
use Rattle.indexer.specs.Objects.{place_cmp, Stored}
use Rattle.wireclient.specs.Reply.{ReplyItem}
use Rattle.decoder.specs.Wanted.{Wanted}
use Rattle.decoder.specs.Pages.{Page}
use Rattle.decoder.specs.Lines.{Line, put, deleted, bookmark, error}
use Rattle.reflector.specs.Client.{Objects, place_in, by_place, max_objects, Notice, Cache, SyncPhase, first, next, streaming, Client, fresh, kept, notice_of, differences}
use Rattle.reflector.specs.Items.{Response, begun, page, line, over, unexpected, said_of_list, said_of_watch}

-- what ends the request at once and makes the next one a first page; cache and notices stay
abbrev pub relisting : Client → Client
relisting c = record c { sync = first; is_awaiting_reply = false }

-- ---- pages

-- the cache as the whole list has it
abbrev pub listed : Client → ℕ → Objects → Client
listed c revision objects =
    record c { cache = Some (record { revision = revision; objects = objects }); sync = streaming; is_awaiting_reply = false; notices = c.notices ++ differences (kept c.cache) objects }

-- all objects so far, which are set aside until the last page
abbrev pub keep_paged : Client → ℕ → List Stored → Option (List ℕ) → Client
keep_paged c revision all None = listed c revision (fin.from_sorted {R = place_cmp} (by_place all))
keep_paged c revision all (Some token) = record c { sync = next revision token all; is_awaiting_reply = false }

-- their places strictly ascend, and they are not too many
abbrev pub ascends_within_limit : List Stored → Bool
ascends_within_limit all = fin.is_sorted place_cmp (by_place all) && nat_le (length all) max_objects

abbrev pub with_page : Client → List Stored → Page → Client
with_page c paged_list p = if ascends_within_limit (paged_list ++ p.objects) then keep_paged c p.revision (paged_list ++ p.objects) p.token else relisting c

-- ---- lines

-- another revision, with the objects as they are then, and the notices of it
abbrev pub moved : Client → ℕ → Objects → List Notice → Client
moved c revision objects notices = record c { cache = Some (record { revision = revision; objects = objects }); sync = streaming; is_awaiting_reply = true; notices = c.notices ++ notices }

abbrev pub with_put : Client → Cache → Stored → Client
with_put c now o =
    if nat_lt now.revision o.revision && nat_le (fin.len (fin.insert now.objects (place_in o) o)) max_objects
    then moved c o.revision (fin.insert now.objects (place_in o) o) (notice_of (fin.get now.objects (place_in o)) (Some o))
    else relisting c

abbrev pub with_deleted : Client → Cache → Stored → Client
with_deleted c now o =
    if nat_lt now.revision o.revision
    then moved c o.revision (fin.remove now.objects (place_in o)) (notice_of (fin.get now.objects (place_in o)) None)
    else relisting c

abbrev pub with_bookmark : Client → Cache → ℕ → Client
with_bookmark c now revision = if nat_le now.revision revision then moved c revision now.objects [] else relisting c

abbrev pub with_line : Client → Cache → Line → Client
with_line c now (put o) = with_put c now o
with_line c now (deleted o) = with_deleted c now o
with_line c now (bookmark revision) = with_bookmark c now revision
with_line c now error = relisting c

-- ---- items

-- of a list, behind what is set aside
abbrev pub with_list : Client → (Page → Client) → Response → Client
with_list c on_page begun = c
with_list c on_page (page p) = on_page p
with_list c on_page _ = relisting c

-- a later page is of the first one's revision
abbrev pub with_next : Client → ℕ → List Stored → Page → Client
with_next c revision paged_list p = if nat_eq p.revision revision then with_page c paged_list p else relisting c

abbrev pub after_watch_end : Client → Client
after_watch_end c = record c { sync = streaming; is_awaiting_reply = false }

abbrev pub with_watch : Client → Option Cache → Response → Client
with_watch c now begun = c
with_watch c None (line l) = relisting c
with_watch c (Some now) (line l) = with_line c now l
with_watch c now over = after_watch_end c
with_watch c now (page p) = relisting c
with_watch c now unexpected = relisting c

abbrev pub with_item : Wanted → Client → SyncPhase → ReplyItem → Client
with_item wanted c first x = with_list c (with_page c []) (said_of_list wanted x)
with_item wanted c (next revision token paged_list) x = with_list c (with_next c revision paged_list) (said_of_list wanted x)
with_item wanted c streaming x = with_watch c c.cache (said_of_watch wanted x)

-- one item of the reply; with no request under way it changes nothing
abbrev pub receives : Wanted → Client → ReplyItem → Client
receives wanted c x = if c.is_awaiting_reply then with_item wanted c c.sync x else c

abbrev pub receives_all : Wanted → Client → List ReplyItem → Client
receives_all wanted c [] = c
receives_all wanted c (x ∷ xs) = receives_all wanted (receives wanted c x) xs

-- ---- the other events

abbrev pub asked : Client → Client
asked c = record c { is_awaiting_reply = true }

-- a list that was cut begins again, a watch goes on from the revision that it reached
abbrev pub after_cut : SyncPhase → SyncPhase
after_cut first = first
after_cut (next revision token paged_list) = first
after_cut streaming = streaming

-- the connection has ended or was cut; with no request under way it changes nothing
abbrev pub closed : Client → Client
closed c = if c.is_awaiting_reply then record c { sync = after_cut c.sync; is_awaiting_reply = false } else c

abbrev pub restarted : Client → Client
restarted c = fresh

abbrev pub taken : Client → Client
taken c = record c { notices = [] }
