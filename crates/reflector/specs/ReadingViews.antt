-- A reply, read as far as it came.
use Rattle.std.specs.Prelude.{ℕ, List, ◌++◌, take, Option, Some, None, ⊤}
use Rattle.wireclient.specs.Reads.{Items, ReaderRepresents}
use Rattle.wireclient.specs.Reply.{State, ReplyItem}
use Rattle.reflector.specs.declared.reply.Reply as replies
use Rattle.reflector.specs.declared.reply.Reply.TheVariants as reply
use Rattle.reflector.specs.declared.relist_reason.RelistReason.{RelistReason}

-- the reader of a reply that is under way
abbrev pub reader_of : replies.Reply → Option (Option State)
reader_of (reply.Open reader) = Some reader
reader_of reply.Over = None
reader_of (reply.GivenUp t) = None

-- why it was given up, if it was
abbrev pub relist_reason_of : replies.Reply → Option RelistReason
relist_reason_of (reply.Open reader) = None
relist_reason_of reply.Over = None
relist_reason_of (reply.GivenUp t) = Some t

-- the reader of an open reply took these bytes, and emitted these items of them
abbrev pub IsRead : Option (Option State) → List ℕ → List ReplyItem → Type 0
IsRead None bytes emitted = ⊤
IsRead (Some reader) bytes emitted = ReaderRepresents reader bytes × Items bytes emitted

-- a reply that goes on is read as far as it was
abbrev pub ReadsOn : replies.Reply → replies.Reply → Type 0
ReadsOn old new = (bytes : List ℕ) (emitted : List ReplyItem) → IsRead (reader_of old) bytes emitted → IsRead (reader_of new) bytes emitted

-- these are the first of the items that a prefix of the piece emits, after those emitted before
abbrev pub AreReceived : List ℕ → List ReplyItem → List ℕ → List ReplyItem → Type 0
AreReceived bytes emitted piece received = (n : ℕ) × (rest : List ReplyItem) × Items (bytes ++ take n piece) (emitted ++ (received ++ rest))
