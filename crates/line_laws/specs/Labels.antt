-- The labels of a content (Kubernetes documentation, "Labels and Selectors"): what stands below its `metadata.labels`.
use Rattle.std.specs.Prelude.{◌≡◌, ℕ, List, [], ◌∷◌, Option, Some, None, option_and_then, codes}
use Rattle.std.specs.FinMap as fin
use Rattle.selector.specs.Labels.{value_at}
use Rattle.fieldpath.specs.Elements.{name_text}
use Rattle.fieldpath.specs.Paths.{PathTexts}
use Rattle.pathmap.specs.Contents.{Content, LeafValue}
use Rattle.pathmap.specs.Contents as leaf_value
use Rattle.schema.specs.ObjectShape.{IsObjectShape}
use Rattle.schema.specs.Shape.{Shape}
use Rattle.lists.specs.Labels.{labels_of}
use Rattle.objects.specs.State.{State}
use Rattle.objects.specs.SystemMetadata.{Stamp}
use Rattle.objects.specs.ObjectText.{Identity}
use Rattle.objects.specs.ReadBack.{IsObjectText}

-- where a label's value stands
abbrev pub label_path : List ℕ → PathTexts
label_path key = name_text (codes "metadata") ∷ name_text (codes "labels") ∷ name_text key ∷ []

abbrev pub text_leaf_value : LeafValue → Option (List ℕ)
text_leaf_value (leaf_value.text s) = Some s
text_leaf_value (leaf_value.whole n) = None
text_leaf_value (leaf_value.truth b) = None
text_leaf_value (leaf_value.plain s) = None
text_leaf_value leaf_value.mark = None

-- the value of a label
abbrev pub label_in : Content → List ℕ → Option (List ℕ)
label_in c key = option_and_then text_leaf_value (fin.get c (label_path key))

-- by each key, an object's text gives the label that its content has
abbrev pub LabelsAreOfContents : Type 0
LabelsAreOfContents =
    (s : Shape) (of : Identity) (stamp : Stamp) (state : State) (text key : List ℕ) → IsObjectShape s → IsObjectText s of stamp state text
    → value_at key (labels_of text) ≡ label_in state.content key
