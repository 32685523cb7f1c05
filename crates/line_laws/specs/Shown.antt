-- A line of a watch without its line feed, as a client gets it (WatchEvent v1 meta), and what may stand in it.
use Rattle.std.specs.Prelude.{◌≡◌, ℕ, ◌<◌, Bool, true, false, ◌==◌, List, [], ◌++◌, codes}
use Rattle.std.specs.declared.result.Result.TheVariants.{Ok}
use Rattle.serde_json.specs.Data.{Data, string, object, no_members, put, depth}
use Rattle.serde_json.specs.Read.{max_depth}
use Rattle.serde_json.specs.Written.{has_float}
use Rattle.fieldpath.specs.Encodable.{IsEncodable}
use Rattle.history.specs.Seen.{SeenKind, Added, Modified, Deleted}
use Rattle.indexer.specs.Objects.{Stored}
use Rattle.schema.specs.Shape.{Shape}
use Rattle.typed.specs.Printing.{print}
use Rattle.objects.specs.State.{State}
use Rattle.objects.specs.SystemMetadata.{Stamp, at_version}
use Rattle.objects.specs.ObjectText.{Identity, metadata_members, object_text}
use Rattle.decoder.specs.Lines as reads
use Rattle.decoder.specs.Members.{at}
use Rattle.decoder.specs.Objects.{labels_of}
use Rattle.decoder.specs.Wanted.{Wanted, api_version_of, is_in}
use Rattle.watchline.specs.declared.event.EventType.{EventType}
use Rattle.watchline.specs.Lines.{type_text}

abbrev pub shown : EventType → List ℕ → List ℕ
shown what text = codes "{\"type\":\"" ++ type_text what ++ codes "\",\"object\":" ++ text ++ codes "}"

-- the line as a JSON value
abbrev pub line_value : EventType → Data → Data
line_value what d = object (put (codes "object") d (put (codes "type") (string (type_text what)) no_members))

abbrev pub is_feed : ℕ → Bool
is_feed b = b == 10

-- a value with a compact text that a reader follows, also where it stands in a line, one deeper
pub record IsShown (d : Data) : Type 0 where
  pub encodable : IsEncodable d
  pub whole : has_float d ≡ false
  pub shallow : depth d < max_depth

-- what the system says in the text that a line shows: at the body's own version, or at the deletion's
abbrev pub stamp_shown : SeenKind → Stamp → ℕ → Stamp
stamp_shown Added own revision = own
stamp_shown Modified own revision = own
stamp_shown Deleted own revision = at_version revision own

-- what a client takes from the line of such a change
abbrev pub taken : SeenKind → Stored → reads.Line
taken Added o = reads.put o
taken Modified o = reads.put o
taken Deleted o = reads.deleted o

-- ---- objects

-- an identity of what is asked for, none of whose texts is empty
pub record HasPlace (wanted : Wanted) (of : Identity) : Type 0 where
  pub of_version : of.api_version ≡ api_version_of wanted
  pub of_kind : of.kind ≡ wanted.kind
  pub within : is_in wanted.namespace of.namespace ≡ true
  pub has_api_version : of.api_version ≡ [] → ⊥
  pub has_kind : of.kind ≡ [] → ⊥
  pub has_namespace : of.namespace ≡ [] → ⊥
  pub has_name : of.name ≡ [] → ⊥

-- what a client keeps of an object is that object: its key, its version, the labels that its content prints, its text
pub record IsStored (s : Shape) (of : Identity) (stamp : Stamp) (state : State) (o : Stored) : Type 0 where
  pub of_namespace : o.namespace ≡ of.namespace
  pub of_name : o.name ≡ of.name
  pub of_revision : o.revision ≡ stamp.version
  pub labels_are : labels_of (at (codes "labels") (metadata_members (print s state.content))) ≡ Ok o.labels
  pub text_is : o.text ≡ object_text s of stamp state
