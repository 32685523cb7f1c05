-- What the crate's values say, without where they lie in memory.
use Rattle.std.specs.Prelude.{◌≡◌, ◌≤◌, ℕ, drop, length, Bool, true, ◌&&◌, ◌==◌, not, if◌then◌else◌, List, [], ◌∷◌, Option, option_map, ⊤}
use Rattle.std.specs.Char.{is_ascii_digit}
use Rattle.std.specs.List.{list_all}
use Rattle.httparse.specs.Grammar.{RequestHead, ReadsRequest}
use Rattle.httparse.specs.declared.spans.HeaderSpan.{HeaderSpan}
use Rattle.httparse.specs.declared.spans.RequestSpans.{RequestSpans}
use Rattle.httparse.specs.Spans.{IsRequestAt}
use Rattle.serde_json.specs.Data.{Data}
use Rattle.std.specs.declared.result.Result.{Result}
use Rattle.std.specs.declared.result.Result.TheVariants.{Ok, Err}
use Rattle.api_request.specs.declared.admitting.Denied.{Denied as TheDenied}
use Rattle.api_request.specs.declared.body.Body.{Body}
use Rattle.api_request.specs.Calls.{Denied}
use Rattle.api_request.specs.Views.{body_seen, denied_of}
use Rattle.wire.specs.Lengths.{decimal_value}
use Rattle.requests.specs.declared.refusal.Refusal as refusals
use Rattle.requests.specs.declared.refusal.Refusal.TheVariants as refusal
use Rattle.requests.specs.declared.decision.Decision as decisions
use Rattle.requests.specs.declared.decision.Decision.TheVariants as decision
use Rattle.requests.specs.declared.head.Length as lengths
use Rattle.requests.specs.declared.head.Length.TheVariants as some_length
use Rattle.requests.specs.declared.head.Head as heads
use Rattle.requests.specs.declared.head.RequestLine as lines
use Rattle.requests.specs.Refusals.{Refusal, head_too_large, bad_head, wrong_version, not_one_host, transfer_encoding, no_length, bad_length, body_too_large, not_json, too_many_connections}
use Rattle.requests.specs.Decision.{Decision, undecided, refused, accepted}
use Rattle.requests.specs.Heads.{Length, missing, malformed, number, Request}

abbrev pub refusal_seen : refusals.Refusal → Refusal
refusal_seen refusal.HeadTooLarge = head_too_large
refusal_seen refusal.BadHead = bad_head
refusal_seen refusal.WrongVersion = wrong_version
refusal_seen refusal.NotOneHost = not_one_host
refusal_seen refusal.TransferEncoding = transfer_encoding
refusal_seen refusal.NoLength = no_length
refusal_seen refusal.BadLength = bad_length
refusal_seen refusal.BodyTooLarge = body_too_large
refusal_seen refusal.NotJson = not_json
refusal_seen refusal.TooManyConnections = too_many_connections

abbrev pub decision_of : {A B : Type 0} → (A → B) → decisions.Decision A → Decision B
decision_of view decision.Undecided = undecided
decision_of view (decision.Refused d) = refused (denied_of d)
decision_of view (decision.Accepted a) = accepted (view a)

abbrev pub length_of : lengths.Length → Length
length_of some_length.Missing = missing
length_of some_length.Malformed = malformed
length_of (some_length.Digits ds) = number (decimal_value ds.now)

-- digits without leading zeros
abbrev pub without_zeros : List ℕ → List ℕ
without_zeros [] = []
without_zeros (b ∷ bytes) = if b == 48 then without_zeros bytes else b ∷ bytes

-- the first is no zero
abbrev pub begins_plain : List ℕ → Bool
begins_plain [] = true
begins_plain (b ∷ bytes) = not (b == 48)

-- digits without a leading zero: two numbers are equal just where these are
abbrev pub is_plain : List ℕ → Bool
is_plain ds = list_all is_ascii_digit ds && begins_plain ds

abbrev pub IsPlain : lengths.Length → Type 0
IsPlain some_length.Missing = ⊤
IsPlain some_length.Malformed = ⊤
IsPlain (some_length.Digits ds) = is_plain ds.now ≡ true

abbrev pub request_in : heads.Head → Request
request_in h = record {
  method = h.method.now;
  request_target = h.request_target.now;
  media = option_map (λ m. m.now) h.media;
  agent = option_map (λ a. a.now) h.agent;
  transfer_encoded = h.is_transfer_encoded;
  length = length_of h.length;
}

-- these bytes are a head, and the offsets are those of its parts
abbrev pub IsWholeAt : List ℕ → List HeaderSpan → RequestSpans → Type 0
IsWholeAt bytes headers parts = (h : RequestHead) × ReadsRequest bytes h [] × IsRequestAt bytes headers parts h

abbrev pub line_seen : lines.RequestLine → List ℕ × List ℕ
line_seen line = (line.method.now, line.request_target.now)

-- an accepted head is so many of these bytes, and the others are after it
abbrev pub EndsIn : List ℕ → decisions.Decision heads.Head → Type 0
EndsIn bytes decision.Undecided = ⊤
EndsIn bytes (decision.Refused d) = ⊤
EndsIn bytes (decision.Accepted h) = (h.size ≤ length bytes) × (drop h.size bytes ≡ h.rest.now)

-- the head, and the bytes after it
abbrev pub head_of : heads.Head → Request × List ℕ
head_of h = (request_in h, h.rest.now)

abbrev pub data_of : Option Body → Option Data
data_of o = option_map body_seen o

-- what a head declares of its body
abbrev pub declared_of : Result (Option ℕ) TheDenied → Result (Option ℕ) Denied
declared_of (Ok length) = Ok length
declared_of (Err d) = Err (denied_of d)
