-- An object and its own text: what is kept of it is what that text says, wherever the object was shown.
use Rattle.std.specs.Prelude.{◌≡◌, ℕ, List, ⊤}
use Rattle.std.specs.List.{AllByRecursion}
use Rattle.std.specs.declared.result.Result.TheVariants.{Ok}
use Rattle.serde_json.specs.Read.{read}
use Rattle.indexer.specs.Objects.{Stored}
use Rattle.decoder.specs.declared.malformed.Malformed.TheVariants.{Json}
use Rattle.decoder.specs.Wanted.{Wanted}
use Rattle.decoder.specs.Members.{Read, ◌>>=◌, or_malformed}
use Rattle.decoder.specs.Objects.{object_of}
use Rattle.decoder.specs.Lines.{Line, put, deleted, bookmark, error}

-- the object that a JSON text is
abbrev pub object_in : Wanted → List ℕ → Read Stored
object_in wanted text = or_malformed Json (read text) >>= λ d. object_of wanted d

-- all that is kept of an object (namespace, name, revision, labels and text) is read from the text that is kept
abbrev pub IsItsText : Wanted → Stored → Type 0
IsItsText wanted o = object_in wanted o.text ≡ Ok o

abbrev pub AreTheirTexts : Wanted → List Stored → Type 0
AreTheirTexts wanted os = AllByRecursion (IsItsText wanted) os

-- the same of the object that a line shows, if it shows one
abbrev pub ShowsItsText : Wanted → Line → Type 0
ShowsItsText wanted (put o) = IsItsText wanted o
ShowsItsText wanted (deleted o) = IsItsText wanted o
ShowsItsText wanted (bookmark r) = ⊤
ShowsItsText wanted error = ⊤
