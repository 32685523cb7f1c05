-- The turns of a client: connections that are dialled one after another, each for one request and its reply.
use Rattle.std.specs.Prelude.{◌≡◌, ℕ, zero, suc, ◌<◌, Bool, true, false, List, [], ◌++◌, Option, Some, None, option_map}
use Rattle.std.specs.Io.KnownBytes.{Appends, Consumes}
use Rattle.indexer.specs.Objects.{Stored}
use Rattle.wireclient.specs.Reads.{Items}
use Rattle.wireclient.specs.Reply.{ReplyItem}
use Rattle.reflector.specs.Client.{Cache, Client}
use Rattle.reflector.specs.InformerViews.{InformerRepresents, relist_reason_in}
use Rattle.reflector.specs.Requests.{Settings, request_of}
use Rattle.reflector.specs.Run.{asked, closed, receives_all, taken}
use Rattle.reflector.specs.RelistReasons.{relist_reason_after}
use Rattle.reflector.specs.declared.informer.Informer.{Informer}
use Rattle.reflector.specs.declared.relist_reason.RelistReason.{RelistReason}
use Rattle.mirroring.specs.Printing.{mirror_text}
use Rattle.mirroring.specs.declared.fault.MirrorFault as faults
use Rattle.mirroring.specs.declared.fault.MirrorFault.TheVariants as fault

-- the informer is this client
abbrev pub Is : {I : Type 0} → (I → Stored → List (List ℕ)) → Informer I → Client → Type 0
Is keys i c = (bytes : List ℕ) × (emitted : List ReplyItem) × InformerRepresents keys i c bytes emitted

-- it asks nothing now, and no notice waits
abbrev pub IsIdle : Client → Type 0
IsIdle c = (c.is_awaiting_reply ≡ false) × (c.notices ≡ [])

-- the revision of the first list, where this kept one and nothing was kept before
abbrev pub synced_by : Option Cache → Option Cache → Option ℕ
synced_by None after = option_map (λ now. now.revision) after
synced_by (Some now) after = None

-- the first of two, where there is one
abbrev pub first_with : Option ℕ → Option Cache → Option Cache → Option ℕ
first_with None before after = synced_by before after
first_with (Some r) before after = Some r

-- a dialer becomes another as it answers a request with a reader, of which these bytes are read
abbrev pub Answers : {D R : Type 0} → (D → List ℕ → R → D → Type 0) → (R → Option (List ℕ)) → D → List ℕ → List ℕ → D → Type 0
Answers {D} {R} dials remaining a request bytes b = (reader : R) × (left : R) × dials a request reader b × Consumes (remaining reader) (remaining left) bytes

-- the request that is due is answered, all items of the bytes are received, and the connection ends; the notices wait. Last
-- comes why the reply was given up, if it was
abbrev pub Turned : {D : Type 0} → (D → List ℕ → List ℕ → D → Type 0) → Settings → D → Client → D → Client → Option RelistReason → Type 0
Turned answers s a c b d t =
    (bytes : List ℕ) × (items : List ReplyItem) × answers a (request_of s c) bytes b × Items bytes items
    × (d ≡ closed (receives_all s.wanted (asked c) items)) × (t ≡ relist_reason_after s.wanted (asked c) None items)

-- a dialer is told why it relists, if there is one
abbrev pub LearnsReason : {D : Type 0} → (D → RelistReason → D → Type 0) → Option RelistReason → D → D → Type 0
LearnsReason learns None a b = b ≡ a
LearnsReason learns (Some t) a b = learns a t b

-- so many of them, each with the dialer told, and the revision of the first list, where one of them kept it
abbrev pub Turns : {D : Type 0} → (D → List ℕ → List ℕ → D → Type 0) → (D → RelistReason → D → Type 0) → Settings → ℕ → D → Client → D → Client → Option ℕ → Type 0
Turns {D} answers learns s zero a c b d first = (b ≡ a) × (d ≡ c) × (first ≡ None)
Turns {D} answers learns s (suc n) a c b d first =
    (mid : D) × (m : Client) × (before : Option ℕ) × Turns answers learns s n a c mid m before
    × (next : D) × (t : Option RelistReason) × Turned answers s mid m next d t × LearnsReason learns t next b × (first ≡ first_with before m.cache d.cache)

-- a part of a turn: some items are received, of bytes that came
abbrev pub ReceivesSome : Settings → Client → Client → Type 0
ReceivesSome s c d = (bytes : List ℕ) × (items : List ReplyItem) × Items bytes items × (d ≡ receives_all s.wanted (asked c) items)

-- a prefix of the text was written
abbrev pub WritesPrefix : Option (List ℕ) → Option (List ℕ) → List ℕ → Type 0
WritesPrefix old new text = (emitted : List ℕ) × (rest : List ℕ) × (text ≡ emitted ++ rest) × Appends old new emitted

-- a turn ended, as its connection couldn't be dialled
abbrev pub is_undialled : faults.MirrorFault → Bool
is_undialled (fault.Dial e) = true
is_undialled (fault.Output e) = false
is_undialled fault.Memory = false

-- what is told of a client that had no notices waiting, and what it became
abbrev pub text_between : Client → Client → List ℕ
text_between c d = mirror_text (synced_by c.cache d.cache) d.notices

-- the informer and its dialer after a turn, and what was written of it
abbrev pub MirrorsOnce : {I D : Type 0} → (I → Stored → List (List ℕ)) → (D → List ℕ → List ℕ → D → Type 0) → Settings → D → Client → D → Informer I → Option (List ℕ) → Option (List ℕ) → Type 0
MirrorsOnce keys answers s a c b i old new =
    (d : Client) × Turned answers s a c b d (relist_reason_in i) × Is keys i (taken d) × Appends old new (text_between c d)

-- the same of so many turns
abbrev pub MirrorsAll : {I D : Type 0} → (I → Stored → List (List ℕ)) → (D → List ℕ → List ℕ → D → Type 0) → (D → RelistReason → D → Type 0) → Settings → ℕ → D → Client → D → Informer I → Option (List ℕ) → Option (List ℕ) → Type 0
MirrorsAll keys answers learns s turns a c b i old new =
    (d : Client) × (first : Option ℕ) × Turns answers learns s turns a c b d first × Is keys i (taken d) × Appends old new (mirror_text first d.notices)

-- the same between two turns, when nothing is asked and no notice came before the first list
abbrev pub MirrorsSoFar : {I D : Type 0} → (I → Stored → List (List ℕ)) → (D → List ℕ → List ℕ → D → Type 0) → (D → RelistReason → D → Type 0) → Settings → ℕ → D → Client → D → Informer I → Option (List ℕ) → Option (List ℕ) → Type 0
MirrorsSoFar keys answers learns s turns a c b i old new =
    (d : Client) × (first : Option ℕ) × Turns answers learns s turns a c b d first × Is keys i (taken d) × (d.is_awaiting_reply ≡ false)
    × (d.cache ≡ None → (first ≡ None) × (d.notices ≡ [])) × Appends old new (mirror_text first d.notices)

-- after some turns, which are fewer, a prefix of what was to be written of them and of a part of the next
abbrev pub MirrorsPrefix : {D : Type 0} → (D → List ℕ → List ℕ → D → Type 0) → (D → RelistReason → D → Type 0) → Settings → ℕ → D → Client → Option (List ℕ) → Option (List ℕ) → Type 0
MirrorsPrefix {D} answers learns s turns a c old new =
    (n : ℕ) × (n < turns) × (mid : D) × (m : Client) × (first : Option ℕ) × Turns answers learns s n a c mid m first
    × (d : Client) × ReceivesSome s m d × WritesPrefix old new (mirror_text (first_with first m.cache d.cache) d.notices)

-- after some turns, which are fewer, all of them was told, and the next one found no connection
abbrev pub MirrorsSome : {I D : Type 0} → (I → Stored → List (List ℕ)) → (D → List ℕ → List ℕ → D → Type 0) → (D → RelistReason → D → Type 0) → Settings → ℕ → D → Client → Informer I → Option (List ℕ) → Option (List ℕ) → Type 0
MirrorsSome {I} {D} keys answers learns s turns a c i old new =
    (n : ℕ) × (n < turns) × (mid : D) × (m : Client) × (first : Option ℕ) × Turns answers learns s n a c mid m first × Is keys i (closed (asked (taken m))) × Appends old new (mirror_text first m.notices)
