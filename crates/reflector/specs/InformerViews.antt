-- An informer, beside a client and the reply that it has read.
use Rattle.std.specs.Prelude.{◌≡◌, ℕ, if◌then◌else◌, List, Option, Some, None, is_some}
use Rattle.indexer.specs.Indexer.{indexes_of, names_of}
use Rattle.indexer.specs.Objects.{Stored}
use Rattle.wireclient.specs.Reply.{ReplyItem}
use Rattle.reflector.specs.declared.informer.Informer.{Informer}
use Rattle.reflector.specs.declared.relist_reason.RelistReason.{RelistReason}
use Rattle.reflector.specs.Client.{Client}
use Rattle.reflector.specs.ReadingViews.{IsRead, reader_of, relist_reason_of}
use Rattle.reflector.specs.Requests.{Settings, request_of}
use Rattle.reflector.specs.Views.{sync_of, settings_of}
use Rattle.reflector.specs.MirrorRepresentsViews.{MirrorRepresents}

abbrev pub settings_in : {I : Type 0} → Informer I → Settings
settings_in i = settings_of i.settings

abbrev pub indexes_in : {I : Type 0} → Informer I → List I
indexes_in i = indexes_of i.mirror.indexer

-- the names of its indexes
abbrev pub names_in : {I : Type 0} → Informer I → List (List ℕ)
names_in i = names_of i.mirror.indexer

-- why the last reply was given up, if it was
abbrev pub relist_reason_in : {I : Type 0} → Informer I → Option RelistReason
relist_reason_in i = relist_reason_of i.reply

-- what it mirrors, its index functions and their names stay
pub record SameSetup {I : Type 0} (old new : Informer I) : Type 0 where
  pub settings : settings_in new ≡ settings_in old
  pub indexes : indexes_in new ≡ indexes_in old
  pub names : names_in new ≡ names_in old

-- it keeps and asks what this client does, and this is why the last reply was given up, if it was
pub record RepresentsExceptReader {I : Type 0} (keys : I → Stored → List (List ℕ)) (i : Informer I) (c : Client) (t : Option RelistReason) : Type 0 where
  pub mirror : MirrorRepresents keys i.mirror c
  pub sync : sync_of i.sync ≡ c.sync
  pub awaiting_reply : is_some (reader_of i.reply) ≡ c.is_awaiting_reply
  pub relist_reason : relist_reason_in i ≡ t

-- it is this client; of the reply to what it asks, if it asks, these bytes came, and they hold these items
pub record InformerRepresents {I : Type 0} (keys : I → Stored → List (List ℕ)) (i : Informer I) (c : Client) (bytes : List ℕ) (emitted : List ReplyItem) : Type 0 where
  pub kept : RepresentsExceptReader keys i c (relist_reason_in i)
  pub read : IsRead (reader_of i.reply) bytes emitted

-- the request that is due: none while one is under way
abbrev pub due : Settings → Client → Option (List ℕ)
due s c = if c.is_awaiting_reply then None else Some (request_of s c)
