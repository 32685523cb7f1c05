-- What the head of a request says (RFC 9112, sections 2.2, 3, 5 and 6), and when a prefix of a connection's bytes has it.
use Rattle.std.specs.Prelude.{◌≡◌, ◌⊎◌, ℕ, Bool, ◌==◌, not, nat_lt, if◌then◌else◌, List, [], ◌∷◌, ◌++◌, length, map, take, drop, Option, Some, None, option_map, codes, nat_eq}
use Rattle.std.specs.List.{before_first, list_any, starts_with, filter}
use Rattle.httparse.specs.Grammar.{RequestHead, ReadsRequest}
use Rattle.httparse.specs.Spans.{name_and_value}
use Rattle.wire.specs.Heads.{Named, has_name, head_end, is_content_length, is_transfer_encoding, max_fields, max_head}
use Rattle.wire.specs.Lengths.{length_in}
use Rattle.requests.specs.Decision.{Decision, undecided, refused, accepted}
use Rattle.requests.specs.Refusals.{head_too_large, bad_head, wrong_version, not_one_host, refuse}

-- ---- its fields

abbrev pub is_host : Named → Bool
is_host field = has_name (codes "host") field

-- the first Content-Type
abbrev pub media_in : List Named → Option (List ℕ)
media_in [] = None
media_in (field ∷ fields) = if has_name (codes "content-type") field then Some field.1 else media_in fields

-- what the client calls itself: the first User-Agent, up to its first slash (RFC 9110, section 10.1.5)
abbrev pub agent_in : List Named → Option (List ℕ)
agent_in [] = None
agent_in (field ∷ fields) = if has_name (codes "user-agent") field then Some (before_first (λ b. b == 47) field.1) else agent_in fields

abbrev pub is_transfer_encoded : List Named → Bool
is_transfer_encoded fields = list_any is_transfer_encoding fields

-- ---- its length

-- what the Content-Length fields say: there is none, they say no one number, or this one
pub data Length : Type 0 where
  missing malformed : Length
  number : ℕ → Length

-- a field that is no length says no number
abbrev pub length_said : Option ℕ → Length
length_said None = malformed
length_said (Some n) = number n

-- several fields have to say one number, where the client of this repository takes one field at most; a list in one field, which RFC 9112, section 6.3, lets a server
-- take, is refused here
abbrev pub agreed : Length → Length → Length
agreed missing other = other
agreed malformed other = malformed
agreed (number m) missing = number m
agreed (number m) malformed = malformed
agreed (number m) (number n) = if m == n then number m else malformed

-- after what earlier fields said
abbrev pub length_after : Length → List Named → Length
length_after said [] = said
length_after said (field ∷ fields) = length_after (if is_content_length field then agreed said (length_said (length_in field.1)) else said) fields

-- ---- the head

-- what the server takes from a head
pub record Request : Type 0 where
  pub method : List ℕ
  pub request_target : List ℕ
  pub media : Option (List ℕ)
  pub agent : Option (List ℕ)
  pub transfer_encoded : Bool
  pub length : Length

abbrev pub request_of : List ℕ → List ℕ → List Named → Request
request_of method request_target fields = record {
  method = method;
  request_target = request_target;
  media = media_in fields;
  agent = agent_in fields;
  transfer_encoded = is_transfer_encoded fields;
  length = length_after missing fields;
}

-- a head of the grammar is validated in this order: the number of its fields, the version (RFC 9110, section 15.6.6), one Host (RFC 9112, section 3.2),
-- a target that is a path (section 3.2.1); rest is what came after it
abbrev pub validated : List ℕ → List ℕ → ℕ → List Named → List ℕ → Decision (Request × List ℕ)
validated method request_target minor fields rest =
    if nat_lt max_fields (length fields) then refuse head_too_large
    else if not (minor == 1) then refuse wrong_version
    else if not (length (filter is_host fields) == 1) then refuse not_one_host
    else if not (starts_with nat_eq request_target (codes "/")) then refuse bad_head
    else accepted (request_of method request_target fields, rest)

-- ---- its request line

-- the head of the grammar that these bytes are, if they are one
abbrev pub IsHead : List ℕ → Option RequestHead → Type 0
IsHead bytes None = (h : RequestHead) → ¬ (ReadsRequest bytes h [])
IsHead bytes (Some h) = ReadsRequest bytes h []

-- the method and the request target
abbrev pub line_in : RequestHead → List ℕ × List ℕ
line_in h = (h.method, h.target)

-- those of a head of these bytes, whatever else it says
abbrev pub IsLineOf : List ℕ → Option (List ℕ × List ℕ) → Type 0
IsLineOf bytes line = (head : Option RequestHead) × IsHead bytes head × (line ≡ option_map line_in head)

abbrev pub IsLineAt : List ℕ → Option ℕ → Option (List ℕ × List ℕ) → Type 0
IsLineAt bytes None line = line ≡ None
IsLineAt bytes (Some n) line = IsLineOf (take n bytes) line

-- the method and the request target of the head that these bytes begin with: none where it hasn't come whole within the limit, or is no head
abbrev pub ReadsLine : List ℕ → Option (List ℕ × List ℕ) → Type 0
ReadsLine bytes line = IsLineAt bytes (head_end (take max_head bytes)) line

-- ---- what it says

-- the same with more bytes after it
abbrev pub with_more : List ℕ → Decision (Request × List ℕ) → Decision (Request × List ℕ)
with_more more undecided = undecided
with_more more (refused r) = refused r
with_more more (accepted (request, rest)) = accepted (request, rest ++ more)

abbrev pub validated_head : RequestHead → List ℕ → Decision (Request × List ℕ)
validated_head h rest = validated h.method h.target h.minor (map name_and_value h.fields) rest

-- what can be said of a head: the request, and the bytes after it
abbrev pub HeadDecision : Type 0
HeadDecision = Decision (Request × List ℕ)

-- these bytes are the head of a request, or no head, and this is what they say with the rest
abbrev pub ReadsWholeHead : List ℕ → List ℕ → HeadDecision → Type 0
ReadsWholeHead bytes rest said =
    ((h : RequestHead) × ReadsRequest bytes h [] × (said ≡ validated_head h rest))
    ⊎ (((h : RequestHead) → ¬ (ReadsRequest bytes h [])) × (said ≡ refuse bad_head))

abbrev pub ReadsHeadAt : List ℕ → Option ℕ → HeadDecision → Type 0
ReadsHeadAt bytes None said = said ≡ (if nat_lt max_head (length bytes) then refuse head_too_large else undecided)
ReadsHeadAt bytes (Some n) said = ReadsWholeHead (take n bytes) (drop n bytes) said

-- what the bytes that came on a connection say of the request's head
abbrev pub ReadsHead : List ℕ → HeadDecision → Type 0
ReadsHead bytes said = ReadsHeadAt bytes (head_end (take max_head bytes)) said
