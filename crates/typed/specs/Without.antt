-- Objects without some of their members.
use Rattle.std.specs.Prelude.{ℕ, Bool, List, map, if◌then◌else◌}
use Rattle.std.specs.Str.{bytes_eq}
use Rattle.serde_json.specs.Data.{Data, null, boolean, number, string, array, object, Members, no_members, member}
use Rattle.schema.specs.Among.{is_in}
use Rattle.typed.specs.declared.omitted.Omitted.{Omitted as TheOmitted}

-- what is left out of an object: its members of these names, and of its member `inside` those of the inner names
pub record Omitted : Type 0 where
  pub names : List (List ℕ)
  pub inside : List ℕ
  pub inner : List (List ℕ)

abbrev pub omitted_of : TheOmitted → Omitted
omitted_of o = record { names = map (λ n. n.now) o.names.now; inside = o.inside.now; inner = map (λ n. n.now) o.inner.now }

-- the members in their order but for those that are out, each with the value that it keeps
abbrev pub members_kept : (List ℕ → Bool) → (List ℕ → Data → Data) → Members → Members
members_kept out keep no_members = no_members
members_kept out keep (member k d ms) = if out k then members_kept out keep ms else member k (keep k d) (members_kept out keep ms)

-- an object with these members; what is no object stays
abbrev pub value_kept : (List ℕ → Bool) → (List ℕ → Data → Data) → Data → Data
value_kept out keep null = null
value_kept out keep (boolean b) = boolean b
value_kept out keep (number n) = number n
value_kept out keep (string s) = string s
value_kept out keep (array ds) = array ds
value_kept out keep (object ms) = object (members_kept out keep ms)

-- a value without its members of these names
abbrev pub but : List (List ℕ) → Data → Data
but names = value_kept (is_in names) (λ k d. d)

-- what a member keeps of its value
abbrev pub kept : Omitted → List ℕ → Data → Data
kept o k d = if bytes_eq k o.inside then but o.inner d else d

-- a value without what is left out
abbrev pub without : Omitted → Data → Data
without o = value_kept (is_in o.names) (kept o)
