-- An object, as a list's item or in a watch's line (Kubernetes API conventions, "Metadata").
use Rattle.std.specs.Prelude.{ℕ, if◌then◌else◌, List, [], Option, Some, None, option_and_then, codes}
use Rattle.std.specs.declared.result.Result.TheVariants.{Ok, Err}
use Rattle.serde_json.specs.Data.{Data, Members}
use Rattle.serde_json.specs.Find.{as_object}
use Rattle.serde_json.specs.Written.{has_float, compact_text}
use Rattle.json_values.specs.Texts.{texts_of}
use Rattle.indexer.specs.Objects.{Stored}
use Rattle.decoder.specs.declared.malformed.Malformed.TheVariants.{Name, Namespace, Labels, Number}
use Rattle.decoder.specs.Wanted.{Wanted, api_version_of, is_in}
use Rattle.decoder.specs.Members.{Read, ◌>>=◌, or_malformed, unless, members_of, at, text_at, is_of, metadata_in, version_in}

abbrev pub namespace_in : Option (List ℕ) → Members → Read (List ℕ)
namespace_in asked metadata = or_malformed Namespace (text_at (codes "namespace") metadata) >>= λ namespace. unless (is_in asked namespace) Namespace >>= λ u. Ok namespace

abbrev pub labels_of : Option Data → Read (List (List ℕ × List ℕ))
labels_of None = Ok []
labels_of (Some d) = or_malformed Labels (option_and_then texts_of (as_object d))

-- its compact JSON, which has no text for a float
abbrev pub text_of : Data → Read (List ℕ)
text_of d = if has_float d then Err Number else Ok (compact_text d)

-- the object that a JSON value is; its text is the value's
abbrev pub object_of : Wanted → Data → Read Stored
object_of wanted d =
    members_of d >>= λ top.
    is_of (api_version_of wanted) wanted.kind top >>= λ u.
    metadata_in top >>= λ metadata.
    or_malformed Name (text_at (codes "name") metadata) >>= λ name.
    namespace_in wanted.namespace metadata >>= λ namespace.
    version_in metadata >>= λ revision.
    labels_of (at (codes "labels") metadata) >>= λ labels.
    text_of d >>= λ text.
    Ok (record { namespace = namespace; name = name; revision = revision; labels = labels; text = text })
