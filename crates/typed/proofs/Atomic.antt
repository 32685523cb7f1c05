-- Atomic values and set items.
use Rattle.std.proofs.Common.{◌≡◌, Bool, true, false, true≢false, ◌==◌, List, [], ◌∷◌, length, refl, arith}
use Rattle.std.specs.Bool.{IsTrue}
use Rattle.serde_json.specs.Data.{Data, null, boolean, number, string, array, object, no_items, item, no_members, member}
use Rattle.serde_json.specs.View.{items_view, members_view}
use Rattle.serde_json.specs.declared.value.Value.{Value}
use Rattle.serde_json.specs.Written.{compact_text}
use Rattle.pathmap.specs.Contents.{here}
use Rattle.pathmap.specs.Contents as leaf_value
use Rattle.typed.specs.Reading.{leaf}
use Rattle.typed.specs.Steps.{is_empty}
use Rattle.typed.proofs.Plains.{Entry}

pub leaf-full : (d : Data) → is_empty d ≡ false → leaf d ≡ here (leaf_value.plain (compact_text d))
leaf-full null h = refl
leaf-full (boolean b) h = refl
leaf-full (number n) h = refl
leaf-full (string s) h = refl
leaf-full (array no_items) h = absurd (true≢false h)
leaf-full (array (item d ds)) h = refl
leaf-full (object no_members) h = absurd (true≢false h)
leaf-full (object (member k d ms)) h = refl

pub object-is_empty : (b : Bool) (es : List Entry) → (IsTrue b → length es ≡ 0) → (length es ≡ 0 → IsTrue b) → b ≡ is_empty (object (members_view es))
object-is_empty b [] only holds = holds refl
object-is_empty true (e ∷ es) only holds = absurd (omega (arith, only refl))
object-is_empty false (e ∷ es) only holds = refl

pub array-is_empty : (vs : List Value) → (length vs == 0) ≡ is_empty (array (items_view vs))
array-is_empty [] = refl
array-is_empty (v ∷ vs) = grind arith
