-- Pieces of a reply that are received and written out, one after another.
use Rattle.std.specs.Prelude.{◌≡◌, ℕ, List, ◌++◌, Option, None}
use Rattle.std.specs.Io.KnownBytes.{Appends, Consumes}
use Rattle.indexer.specs.Objects.{Stored}
use Rattle.wireclient.specs.Reads.{Items}
use Rattle.wireclient.specs.Reply.{ReplyItem}
use Rattle.decoder.specs.Wanted.{Wanted}
use Rattle.reflector.specs.Client.{Client}
use Rattle.reflector.specs.InformerViews.{InformerRepresents, relist_reason_in}
use Rattle.reflector.specs.Run.{asked, receives_all, taken}
use Rattle.reflector.specs.RelistReasons.{relist_reason_after}
use Rattle.reflector.specs.declared.informer.Informer.{Informer}
use Rattle.mirroring.specs.Turns.{WritesPrefix, text_between}

-- a piece more was received of a reply, and told
abbrev pub Emits : {I : Type 0} → (I → Stored → List (List ℕ)) → Wanted → Client → List ℕ → List ReplyItem → List ℕ → Informer I → Option (List ℕ) → Option (List ℕ) → Type 0
Emits keys wanted c bytes items piece i old new =
    (response : List ReplyItem) × Items (bytes ++ piece) (items ++ response) × InformerRepresents keys i (taken (receives_all wanted c response)) (bytes ++ piece) (items ++ response)
    × Appends old new (text_between c (receives_all wanted c response)) × (relist_reason_in i ≡ relist_reason_after wanted c None response)

-- a prefix was written of some more that came
abbrev pub EmitsPrefix : Wanted → Client → List ℕ → List ReplyItem → Option (List ℕ) → Option (List ℕ) → Type 0
EmitsPrefix wanted c bytes items old new =
    (more : List ℕ) × (response : List ReplyItem) × Items (bytes ++ more) (items ++ response) × WritesPrefix old new (text_between c (receives_all wanted c response))

-- all that left the reader, since the request was sent, was received and written out
abbrev pub ReceivedSoFar : {I : Type 0} → (I → Stored → List (List ℕ)) → Wanted → Client → Informer I → Option (List ℕ) → Option (List ℕ) → Option (List ℕ) → Option (List ℕ) → Type 0
ReceivedSoFar keys wanted c i unread left old new =
    (bytes : List ℕ) × (items : List ReplyItem) × Items bytes items × Consumes unread left bytes × InformerRepresents keys i (taken (receives_all wanted (asked c) items)) bytes items
    × Appends old new (text_between c (receives_all wanted (asked c) items)) × (relist_reason_in i ≡ relist_reason_after wanted (asked c) None items)

-- a prefix was written of some that came since
abbrev pub ReceivedPrefix : Wanted → Client → Option (List ℕ) → Option (List ℕ) → Type 0
ReceivedPrefix wanted c old new = (bytes : List ℕ) × (items : List ReplyItem) × Items bytes items × WritesPrefix old new (text_between c (receives_all wanted (asked c) items))
