-- An informer's calls, beside the client.
use Rattle.std.proofs.Common.{◌≡◌, ℕ, true, false, true≢false, List, [], ◌++◌, Option, Some, None, is_some, refl, sym, subst, ◌∙◌, append-nil, length, take_all, arith}
use Rattle.std.specs.FinMap as fin
use Rattle.indexer.specs.Kept.{IndexedObjects}
use Rattle.indexer.specs.Objects.{Stored}
use Rattle.wireclient.specs.Reads.{Items}
use Rattle.wireclient.specs.Reply.{State, ReplyItem}
use Rattle.reflector.specs.Client.{Client, Notice, fresh}
use Rattle.reflector.specs.InformerViews.{RepresentsExceptReader}
use Rattle.reflector.specs.ReadingViews.{AreReceived, IsRead, reader_of, relist_reason_of}
use Rattle.reflector.specs.MirrorViews.{Keys, Mirrors}
use Rattle.reflector.specs.declared.informer.Informer.{Informer}
use Rattle.reflector.specs.declared.reply.Reply as replies
use Rattle.reflector.specs.declared.reply.Reply.TheVariants as reply
use Rattle.reflector.specs.declared.relist_reason.RelistReason.{RelistReason}
use Rattle.reflector.proofs.Keyed.{keyed-empty}

pub nothing_kept : (ks : Keys) (held : IndexedObjects) (waiting : List Notice) → held ≡ fin.empty → waiting ≡ [] → Mirrors ks held None waiting fresh
nothing_kept ks held waiting is none = record { objects = is ∙ keyed-empty ks; revision = refl; notices = none }

-- nothing of a piece was received
pub none_received : (bytes : List ℕ) (emitted : List ReplyItem) (piece : List ℕ) → Items bytes emitted → AreReceived bytes emitted piece []
none_received bytes emitted piece is = (0, [], subst (λ bs. Items bs (emitted ++ [])) (sym (append-nil bytes)) (subst (Items bytes) (sym (append-nil emitted)) is))

-- all of the piece was read, and some of what it told was received
pub some_received : (bytes : List ℕ) (emitted items : List ReplyItem) (piece : List ℕ) (received rest : List ReplyItem) → Items (bytes ++ piece) (emitted ++ items) → items ≡ received ++ rest → AreReceived bytes emitted piece received
some_received bytes emitted items piece received rest is same =
    (length piece, rest, subst (λ ps. Items (bytes ++ ps) (emitted ++ (received ++ rest))) (sym (take_all (length piece) piece (omega arith))) (subst (λ xs. Items (bytes ++ piece) (emitted ++ xs)) same is))

-- a reply that is under way was not given up
open_without_reason : (r : replies.Reply) → is_some (reader_of r) ≡ true → relist_reason_of r ≡ None
open_without_reason (reply.Open reader) is = refl
open_without_reason reply.Over is = absurd (true≢false (sym is))
open_without_reason (reply.GivenUp t) is = absurd (true≢false (sym is))

pub without_reason : {I : Type 0} (keys : I → Stored → List (List ℕ)) (i : Informer I) (c : Client) (t : Option RelistReason) → is_some (reader_of i.reply) ≡ true → RepresentsExceptReader keys i c t → RepresentsExceptReader keys i c None
without_reason keys i c t is k = record { mirror = k.mirror; sync = k.sync; awaiting_reply = k.awaiting_reply; relist_reason = open_without_reason i.reply is }

-- nothing is read of one that is not under way
pub not_read : (o : Option (Option State)) (bytes : List ℕ) (emitted : List ReplyItem) → is_some o ≡ false → IsRead o bytes emitted
not_read None bytes emitted is = tt
not_read (Some reader) bytes emitted is = absurd (true≢false is)
