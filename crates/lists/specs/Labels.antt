-- The labels that an object's text gives, and which objects a list is of by them and by name (Kubernetes documentation, "Labels and
-- Selectors", "Field Selectors").
use Rattle.std.specs.Prelude.{ℕ, ◌&&◌, codes, List, [], Option, Some, option_and_then, unwrap_or}
use Rattle.serde_json.specs.Data.{Data, Members}
use Rattle.serde_json.specs.Find.{as_object, get}
use Rattle.serde_json.specs.Read.{read}
use Rattle.json_values.specs.Texts.{texts_of}
use Rattle.selector.specs.Fields.{attributes}
use Rattle.selector.specs.Labels.{Labels}
use Rattle.selector.specs.Requirement.{Requirement, selects}
use Rattle.history.specs.History.{Key}
use Rattle.history.specs.Page.{is_within}
use Rattle.history.specs.Seen.{Selection}

-- the members of `metadata.labels`
abbrev pub label_members : Data → Option Members
label_members d = option_and_then as_object (option_and_then (get (codes "labels")) (get (codes "metadata") d))

-- without such members there are no labels
abbrev pub labels_of : List ℕ → Labels
labels_of text = unwrap_or (option_and_then texts_of (option_and_then label_members (read text))) []

-- the same in two steps: what stands at `metadata.labels` of a value, and the labels that this gives
abbrev pub labels_value : Data → Option Data
labels_value d = option_and_then (get (codes "labels")) (get (codes "metadata") d)

abbrev pub labels_by : Option Data → Labels
labels_by value = unwrap_or (option_and_then texts_of (option_and_then as_object value)) []

-- what selectors see of an object: the labels that its text gives, and its key's name, which its text gives as `metadata.name`
abbrev pub attributes_of : Key → List ℕ → Labels
attributes_of k text = attributes (Some k.name) (labels_of text)

-- of the type, in the namespace if one is named, and with labels and a name that meet the requirements
abbrev pub selection_of : ℕ → Option (List ℕ) → List Requirement → Selection
selection_of kind namespace requirements = λ k body. is_within kind namespace k && selects requirements (attributes_of k body)
