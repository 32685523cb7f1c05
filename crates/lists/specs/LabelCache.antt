-- What is kept of texts: the labels that they give.
use Rattle.std.specs.Prelude.{◌≡◌, IfSome, List, Option, string_bytes}
use Rattle.std.specs.List.{All}
use Rattle.selector.specs.Views as selector
use Rattle.lists.specs.Labels.{labels_of}
use Rattle.lists.specs.declared.label_cache.LabelledText.{LabelledText}

-- the text gives the labels beside it
abbrev pub IsRight : LabelledText → Type 0
IsRight l = selector.labels_of l.labels ≡ labels_of (string_bytes l.text)

-- so it is in each slot that holds one
abbrev pub AreRight : List (Option LabelledText) → Type 0
AreRight slots = All (λ slot. IfSome slot IsRight) slots
