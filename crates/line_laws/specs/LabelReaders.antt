-- The two readers of labels: the server's, by which lists and watches select, and the client's.
use Rattle.std.specs.Prelude.{◌≡◌, ℕ, List, Some}
use Rattle.std.specs.declared.result.Result.TheVariants.{Ok}
use Rattle.serde_json.specs.Data.{Data}
use Rattle.serde_json.specs.Read.{read}
use Rattle.indexer.specs.Objects.{Stored}
use Rattle.decoder.specs.Objects.{object_of}
use Rattle.decoder.specs.Wanted.{Wanted}
use Rattle.lists.specs.Labels.{labels_of}

-- of a text that a client takes as an object, both read the same labels
abbrev pub ReadersAgree : Type 0
ReadersAgree = (wanted : Wanted) (text : List ℕ) (d : Data) (x : Stored) → read text ≡ Some d → object_of wanted d ≡ Ok x → x.labels ≡ labels_of text
