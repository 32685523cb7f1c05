-- What the crate's values say, without where they lie in memory.
use Rattle.std.specs.Prelude.{ℕ, List, [], ◌∷◌, Option, Some, None, String, option_map, string_bytes}
use Rattle.std.specs.declared.alloc.Global.{Global}
use Rattle.std.specs.FinMap as fin
use Rattle.indexer.specs.Kept.{IndexedObjects}
use Rattle.indexer.specs.Objects.{Place, Shared, Stored, place_of, shared_of}
use Rattle.indexer.specs.declared.object.ObjectKey.{ObjectKey}
use Rattle.decoder.specs.declared.wanted.Source as sources
use Rattle.decoder.specs.Views.{wanted_from, wanted_of}
use Rattle.reflector.specs.PagedListViews.{paged_list_of}
use Rattle.reflector.specs.Client.{SyncPhase, first, next, streaming, Notice, added, updated, deleted}
use Rattle.reflector.specs.Requests.{Settings}
use Rattle.reflector.specs.declared.settings.Settings as settings
use Rattle.reflector.specs.declared.sync.SyncPhase as sync
use Rattle.reflector.specs.declared.sync.SyncPhase.TheVariants as ask
use Rattle.reflector.specs.declared.notice.Notice as notices
use Rattle.reflector.specs.declared.notice.Notice.TheVariants as notice

-- what an informer is made with
abbrev pub settings_from : sources.Source → Option (String Global) → String Global → ℕ → Settings
settings_from source namespace selector page = record { wanted = wanted_from source namespace; selector = string_bytes selector; page = page }

abbrev pub settings_of : settings.Settings → Settings
settings_of s = record { wanted = wanted_of s.wanted; selector = string_bytes s.selector; page = s.page }

abbrev pub sync_of : sync.SyncPhase → SyncPhase
sync_of ask.First = first
sync_of (ask.Next revision token paged_list) = next revision (string_bytes token) (paged_list_of paged_list)
sync_of ask.Streaming = streaming

abbrev pub notice_seen : notices.Notice → Notice
notice_seen (notice.Added new) = added (shared_of new)
notice_seen (notice.Updated old new) = updated (shared_of old) (shared_of new)
notice_seen (notice.Deleted old) = deleted (shared_of old)

-- an object beside its key
abbrev pub held_seen : ObjectKey × Shared → Place × Stored
held_seen e = (place_of e.0, shared_of e.1)

-- none or one
abbrev pub notice_list : Option notices.Notice → List Notice
notice_list None = []
notice_list (Some n) = notice_seen n ∷ []

-- the object that an indexer holds at a place, without its keys
abbrev pub object_in : IndexedObjects → Place → Option Stored
object_in held p = option_map (λ h. h.0) (fin.get held p)
