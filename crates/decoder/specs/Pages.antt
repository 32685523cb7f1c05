-- The body of a list's answer (Kubernetes API Concepts, "Retrieving large results sets in chunks").
use Rattle.std.specs.Prelude.{ℕ, List, [], ◌∷◌, ◌++◌, Option, Some, None, option_map, option_and_then, codes}
use Rattle.std.specs.declared.result.Result.TheVariants.{Ok}
use Rattle.serde_json.specs.Data.{Data, Items, no_items, item}
use Rattle.serde_json.specs.Find.{as_str, as_array}
use Rattle.indexer.specs.Objects.{Stored}
use Rattle.decoder.specs.declared.malformed.Malformed.TheVariants.{Token}
use Rattle.decoder.specs.declared.malformed.Malformed.TheVariants as malformed
use Rattle.decoder.specs.Wanted.{Wanted, api_version_of}
use Rattle.json_values.specs.Texts.{unless_empty}
use Rattle.decoder.specs.Members.{Read, ◌>>=◌, or_malformed, value_in, members_of, at, is_of, metadata_in, version_in}
use Rattle.decoder.specs.Objects.{object_of}

-- the revision that the list is of, its objects, and where it goes on, if some are left
pub record Page : Type 0 where
  pub revision : ℕ
  pub token : Option (List ℕ)
  pub objects : List Stored

-- `continue`; an empty one is none
abbrev pub token_of : Option Data → Read (Option (List ℕ))
token_of None = Ok None
token_of (Some d) = or_malformed Token (option_map unless_empty (as_str d))

abbrev pub objects_of : Wanted → Items → Read (List Stored)
objects_of wanted no_items = Ok []
objects_of wanted (item d ds) = object_of wanted d >>= λ o. objects_of wanted ds >>= λ os. Ok (o ∷ os)

abbrev pub page_of : Wanted → Data → Read Page
page_of wanted d =
    members_of d >>= λ top.
    is_of (api_version_of wanted) (wanted.kind ++ codes "List") top >>= λ u.
    metadata_in top >>= λ metadata.
    version_in metadata >>= λ revision.
    token_of (at (codes "continue") metadata) >>= λ token.
    or_malformed malformed.Items (option_and_then as_array (at (codes "items") top)) >>= λ ds.
    objects_of wanted ds >>= λ objects.
    Ok (record { revision = revision; token = token; objects = objects })

-- what the body says
abbrev pub page_in : Wanted → List ℕ → Read Page
page_in wanted bytes = value_in bytes >>= λ d. page_of wanted d
