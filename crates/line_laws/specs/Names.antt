-- The name that selectors see of an object, and what asks for it: a field selector does, a label selector never does.
use Rattle.std.specs.Prelude.{◌≡◌, ◌↔◌, ◌++◌, ℕ, true, List, Option, Some, codes, option_and_then}
use Rattle.std.specs.declared.result.Result.TheVariants.{Ok}
use Rattle.serde_json.specs.Data.{Data}
use Rattle.serde_json.specs.Find.{as_str, get}
use Rattle.serde_json.specs.Read.{read}
use Rattle.selector.specs.Fields.{LabelsDecide, attributes, fields_of, is_plain_text}
use Rattle.selector.specs.Grammar.{parse_selector}
use Rattle.selector.specs.Requirement.{Requirement, selects}
use Rattle.schema.specs.ObjectShape.{IsObjectShape}
use Rattle.schema.specs.Shape.{Shape}
use Rattle.history.specs.History.{Key}
use Rattle.lists.specs.Labels.{attributes_of, labels_of}
use Rattle.objects.specs.State.{State}
use Rattle.objects.specs.SystemMetadata.{Stamp}
use Rattle.objects.specs.ObjectText.{Identity}
use Rattle.objects.specs.ReadBack.{IsObjectText}

-- what a label selector's text asks, the labels alone decide, whatever the name is
abbrev pub LabelSelectorsAskLabels : Type 0
LabelSelectorsAskLabels = (text : List ℕ) (requirements : List Requirement) → parse_selector text ≡ Ok requirements → LabelsDecide requirements

-- the text at `metadata.name` of a value, and of a text
abbrev pub name_in : Data → Option (List ℕ)
name_in d = option_and_then as_str (option_and_then (get (codes "name")) (get (codes "metadata") d))

abbrev pub name_of : List ℕ → Option (List ℕ)
name_of text = option_and_then name_in (read text)

-- the name that an object's text gives is the object's
abbrev pub NamesAreOfObjects : Type 0
NamesAreOfObjects = (s : Shape) (of : Identity) (stamp : Stamp) (state : State) (text : List ℕ) → IsObjectShape s → IsObjectText s of stamp state text → name_of text ≡ Some of.name

-- so what selectors see of an object, by the name of its key, is what its text says
abbrev pub KeysNameTexts : Type 0
KeysNameTexts =
    (k : Key) (s : Shape) (of : Identity) (stamp : Stamp) (state : State) (text : List ℕ) → IsObjectShape s → IsObjectText s of stamp state text → of.name ≡ k.name
    → attributes_of k text ≡ attributes (name_of text) (labels_of text)

-- what selects an object selects it just where its key has this name
abbrev pub SelectByName : List ℕ → List Requirement → Type 0
SelectByName name requirements = (k : Key) (text : List ℕ) → (selects requirements (attributes_of k text) ≡ true) ↔ (k.name ≡ name)

-- `metadata.name=NAME` is a field selector, and selects just the objects of that name
abbrev pub NamesSelectObjects : Type 0
NamesSelectObjects =
    (name : List ℕ) → is_plain_text name ≡ true → (requirements : List Requirement) × (fields_of (codes "metadata.name=" ++ name) ≡ Some requirements) × SelectByName name requirements
