-- What texts that are in order are read as, and which texts are in order.
use Rattle.std.specs.Prelude.{◌≡◌, ◌≤◌, ℕ, List, false, Some}
use Rattle.serde_json.specs.Data.{Data, depth}
use Rattle.serde_json.specs.Read.{read, max_depth}
use Rattle.serde_json.specs.Written.{has_float, compact_text}
use Rattle.fieldpath.specs.Encodable.{IsEncodable}
use Rattle.json_texts.specs.InOrder.{in_order}

-- a text that is in order is read as the same data by `serde_json`
abbrev pub OrderedTextsAreRead : Type 0
OrderedTextsAreRead = (text : List ℕ) (d : Data) → in_order text ≡ Some d → read text ≡ Some d

-- the compact text of a encodable value without floats is in order, and represents it
abbrev pub CompactTextsAreOrdered : Type 0
CompactTextsAreOrdered = (d : Data) → IsEncodable d → has_float d ≡ false → depth d ≤ max_depth → in_order (compact_text d) ≡ Some d
