-- What a change stores whose text its call answers.
use mathlib.Core.HLevel.{Unit-prop}
use denote.Struct.Props as logic
use Rattle.std.specs.Prelude.{◌≡◌, ℕ, IfSome, List, Option, Some, None, string_bytes}
use Rattle.api_request.specs.declared.change.Change.{Change}
use Rattle.api_request.specs.declared.changes.Changes.{Changes}
use Rattle.api_request.specs.declared.changes.Changes.TheVariants as made

-- a deletion stores none
abbrev pub Stores : List ℕ → Change → Type 0
Stores text c = IfSome c.text (λ s. string_bytes s.value ≡ text)

-- where several are made, each has its own
abbrev pub IsAnswered : List ℕ → Changes → Type 0
IsAnswered text made.None = Unit {0}
IsAnswered text (made.Answered c) = Stores text c
IsAnswered text (made.Each writes) = Unit {0}

-- ---- one proof at most

if_some-prop : {A : Type 0} (P : A → Type 0) → ((x : A) → IsProp (P x)) → (o : Option A) → IsProp (IfSome o P)
if_some-prop P is None = Unit-prop
if_some-prop P is (Some x) = is x

pub IsAnswered-prop : (text : List ℕ) (changes : Changes) → IsProp (IsAnswered text changes)
IsAnswered-prop text made.None = Unit-prop
IsAnswered-prop text (made.Answered c) = if_some-prop (λ s. string_bytes s.value ≡ text) (λ s. Prim.hlevel logic.props) c.text
IsAnswered-prop text (made.Each writes) = Unit-prop
