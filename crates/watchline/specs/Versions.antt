-- An object's text at another version (Kubernetes API conventions, "Metadata"): its JSON, printed anew with the version in `metadata`.
use Rattle.std.specs.Prelude.{ℕ, List, if◌then◌else◌, Option, Some, None, option_map, option_and_then, unwrap_or, codes, decimal}
use Rattle.serde_json.specs.Data.{Data, string, object, Members, put}
use Rattle.serde_json.specs.Find.{as_object}
use Rattle.serde_json.specs.Read.{read}
use Rattle.serde_json.specs.Written.{compact_text, has_float}
use Rattle.json_values.specs.Members.{split_off}

abbrev pub metadata_at : ℕ → Members → Members
metadata_at revision metadata = put (codes "resourceVersion") (string (decimal revision)) metadata

abbrev pub value_of : ℕ → Members → Members → Data
value_of revision others metadata = object (put (codes "metadata") (object (metadata_at revision metadata)) others)

-- none where there is no `metadata`
abbrev pub value_at : ℕ → Data → Option Data
value_at revision d = option_map (λ p. value_of revision p.0 p.1) (option_and_then (split_off (codes "metadata")) (as_object d))

-- a number that is no integer has no one text, and no object has one
abbrev pub text_of : Data → Option (List ℕ)
text_of d = if has_float d then None else Some (compact_text d)

-- a text that is no object's stays as it is
abbrev pub text_at_version : ℕ → List ℕ → List ℕ
text_at_version revision text = unwrap_or (option_and_then text_of (option_and_then (value_at revision) (read text))) text
