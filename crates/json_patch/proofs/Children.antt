-- What lies at one token of an array.
use Rattle.std.proofs.Common.{◌≡◌, ℕ, List, Some, option_and_then, ap}
use Rattle.serde_json.specs.Data.{Data, array, Items}
use Rattle.serde_json.specs.Find.{at, get_item, index_of}
use Rattle.json_patch.specs.Places.{child}

pub at-child : (t : List ℕ) (i : ℕ) (ds : Items) (d : Data) → d ≡ array ds → Some i ≡ index_of t → at i d ≡ child t d
at-child t i ds d is found = rw is (ap (option_and_then (λ j. get_item j ds)) found)
