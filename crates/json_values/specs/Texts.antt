-- Texts that the members of a JSON object have.
use Rattle.std.specs.Prelude.{ℕ, List, [], ◌∷◌, map, Option, Some, None, option_map, option_and_then, String, string_bytes}
use Rattle.std.specs.BTreeMap.{BTreeMap}
use Rattle.std.specs.declared.alloc.Global.{Global}
use Rattle.serde_json.specs.Data.{Members, no_members, member}
use Rattle.serde_json.specs.Find.{as_str}

-- names and texts, where each member is a text
abbrev pub texts_of : Members → Option (List (List ℕ × List ℕ))
texts_of no_members = Some []
texts_of (member k d ms) = option_and_then (λ v. option_map (λ more. (k, v) ∷ more) (texts_of ms)) (as_str d)

-- an empty text is none
abbrev pub unless_empty : List ℕ → Option (List ℕ)
unless_empty [] = None
unless_empty (b ∷ bs) = Some (b ∷ bs)

-- the names and texts that a map holds
abbrev pub named_texts : BTreeMap (String Global) (String Global) → List (List ℕ × List ℕ)
named_texts texts = map (λ e. (string_bytes e.0, string_bytes e.1)) texts.entries
