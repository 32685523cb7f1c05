-- What a value is, by its data.
use Rattle.std.proofs.Common.{◌≡◌, true, false, true≢false, Option, Some, None, is_some, refl, sym}
use Rattle.json.specs.Find as find
use Rattle.json.specs.Json as json
use Rattle.serde_json.specs.Data.{Num}
use Rattle.serde_json.specs.Find.{as_array, as_null, as_object, as_str}
use Rattle.serde_json.specs.Read.{number_of}
use Rattle.json_texts.specs.InOrder.{data_of, is_ordered, is_whole, number_or_null}

number_str : (o : Option Num) → None ≡ as_str (number_or_null o)
number_str None = refl
number_str (Some n) = refl

pub as_str-data : (j : json.Json) → find.as_str j ≡ as_str (data_of j)
as_str-data json.null = refl
as_str-data (json.boolean b) = refl
as_str-data (json.number s) = number_str (number_of s)
as_str-data (json.string s) = refl
as_str-data (json.array js) = refl
as_str-data (json.object ms) = refl

number_null : (o : Option Num) → is_whole o ≡ true → false ≡ is_some (as_null (number_or_null o))
number_null None h = absurd (true≢false (sym h))
number_null (Some n) h = refl

pub is_null-data : (j : json.Json) → is_ordered j ≡ true → find.is_null j ≡ is_some (as_null (data_of j))
is_null-data json.null h = refl
is_null-data (json.boolean b) h = refl
is_null-data (json.number s) h = number_null (number_of s) h
is_null-data (json.string s) h = refl
is_null-data (json.array js) h = refl
is_null-data (json.object ms) h = refl

number_object : (o : Option Num) → None ≡ as_object (number_or_null o)
number_object None = refl
number_object (Some n) = refl

-- a value that is no object
pub no_object : (j : json.Json) → ((ms : json.Members) → j ≡ json.object ms → ⊥) → None ≡ as_object (data_of j)
no_object json.null other = refl
no_object (json.boolean b) other = refl
no_object (json.number s) other = number_object (number_of s)
no_object (json.string s) other = refl
no_object (json.array js) other = refl
no_object (json.object ms) other = absurd (other ms refl)

number_array : (o : Option Num) → None ≡ as_array (number_or_null o)
number_array None = refl
number_array (Some n) = refl

-- a value that is no array
pub no_array : (j : json.Json) → ((js : json.Items) → j ≡ json.array js → ⊥) → None ≡ as_array (data_of j)
no_array json.null other = refl
no_array (json.boolean b) other = refl
no_array (json.number s) other = number_array (number_of s)
no_array (json.string s) other = refl
no_array (json.array js) other = absurd (other js refl)
no_array (json.object ms) other = refl
