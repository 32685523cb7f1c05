-- The members of the JSON objects that a reply consists of (Kubernetes API conventions, "Types (Kinds)" and "Metadata").
-- A member that is null is absent, and an empty text is no text.
use Rattle.std.specs.Prelude.{ℕ, Bool, false, if◌then◌else◌, List, Option, Some, None, option_and_then, is_some, codes, ⊤}
use Rattle.std.specs.declared.result.Result.{Result}
use Rattle.std.specs.declared.result.Result.TheVariants.{Ok, Err}
use Rattle.std.specs.Str.{bytes_eq, is_utf8}
use Rattle.serde_json.specs.Data.{Data, Members}
use Rattle.serde_json.specs.Find.{get_member, as_null, as_str, as_object}
use Rattle.serde_json.specs.Read.{read}
use Rattle.json_values.specs.Texts.{unless_empty}
use Rattle.names.specs.Decimals.{version_of}
use Rattle.decoder.specs.declared.malformed.Malformed.{Malformed}
use Rattle.decoder.specs.declared.malformed.Malformed.TheVariants.{Json, Object, ApiVersion, Kind, Metadata, Version}

-- what was read, or the error
abbrev pub Read : Type 0 → Type 0
Read A = Result A Malformed

infixl 10 ◌>>=◌
abbrev pub ◌>>=◌ : {A B : Type 0} → Read A → (A → Read B) → Read B
(Ok x) >>= f = f x
(Err m) >>= f = Err m

abbrev pub or_malformed : {A : Type 0} → Malformed → Option A → Read A
or_malformed m (Some x) = Ok x
or_malformed m None = Err m

abbrev pub unless : Bool → Malformed → Read ⊤
unless b m = if b then Ok tt else Err m

-- the JSON value that these bytes are
abbrev pub value_in : List ℕ → Read Data
value_in bytes = or_malformed Json (if is_utf8 bytes then read bytes else None)

abbrev pub members_of : Data → Read Members
members_of d = or_malformed Object (as_object d)

-- ---- members

abbrev pub unless_null : Data → Option Data
unless_null d = if is_some (as_null d) then None else Some d

abbrev pub at : List ℕ → Members → Option Data
at k ms = option_and_then unless_null (get_member k ms)

abbrev pub text_at : List ℕ → Members → Option (List ℕ)
text_at k ms = option_and_then unless_empty (option_and_then as_str (at k ms))

abbrev pub is_text : List ℕ → Option (List ℕ) → Bool
is_text s None = false
is_text s (Some t) = bytes_eq t s

-- ---- what lists, objects and bookmarks have in common

-- of this `apiVersion` and `kind`
abbrev pub is_of : List ℕ → List ℕ → Members → Read ⊤
is_of api_version kind top = unless (is_text api_version (text_at (codes "apiVersion") top)) ApiVersion >>= λ u. unless (is_text kind (text_at (codes "kind") top)) Kind

abbrev pub metadata_in : Members → Read Members
metadata_in top = or_malformed Metadata (option_and_then as_object (at (codes "metadata") top))

abbrev pub version_in : Members → Read ℕ
version_in metadata = or_malformed Version (option_and_then version_of (text_at (codes "resourceVersion") metadata))
