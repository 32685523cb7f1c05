-- What a mirror prints, from its start to its end.
use Rattle.std.specs.Prelude.{◌≡◌, ◌<◌, ◌⊎◌, ℕ, List, [], Option, Some}
use Rattle.std.specs.Io.KnownBytes.{Appends}
use Rattle.reflector.specs.Client.{Client, fresh}
use Rattle.reflector.specs.Requests.{Settings}
use Rattle.reflector.specs.declared.relist_reason.RelistReason.{RelistReason}
use Rattle.mirroring.specs.Printing.{mirror_text}
use Rattle.mirroring.specs.Turns.{MirrorsPrefix, Turns}

-- so many turns of a client that kept nothing at the start, each with the dialer told why it relists, and all of them was told
abbrev pub Prints : {D : Type 0} → (D → List ℕ → List ℕ → D → Type 0) → (D → RelistReason → D → Type 0) → Settings → ℕ → D → D → Option (List ℕ) → Option (List ℕ) → Type 0
Prints answers learns s turns a b old new = (d : Client) × (first : Option ℕ) × Turns answers learns s turns a fresh b d first × Appends old new (mirror_text first d.notices)

-- fewer turns, and all of them was told
abbrev pub PrintsFewer : {D : Type 0} → (D → List ℕ → List ℕ → D → Type 0) → (D → RelistReason → D → Type 0) → Settings → ℕ → D → Option (List ℕ) → Option (List ℕ) → Type 0
PrintsFewer {D} answers learns s turns a old new = (n : ℕ) × (n < turns) × (b : D) × Prints answers learns s n a b old new

-- nothing, or a prefix of what was to be written of fewer turns and of a part of the next
abbrev pub PrintsPrefix : {D : Type 0} → (D → List ℕ → List ℕ → D → Type 0) → (D → RelistReason → D → Type 0) → Option Settings → ℕ → D → Option (List ℕ) → Option (List ℕ) → Type 0
PrintsPrefix answers learns asked turns a old new = Appends old new [] ⊎ ((s : Settings) × (asked ≡ Some s) × MirrorsPrefix answers learns s turns a fresh old new)
