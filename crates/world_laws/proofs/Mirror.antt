-- A machine as the server that a client mirrors: what the proofs join it with the client's law by.
use Rattle.std.specs.Prelude.{ℕ, Bool, false, List, [], ◌∷◌, Option, Some, None}
use Rattle.std.specs.FinMap as fin
use Rattle.std.specs.List.{flat_map, last_or}
use Rattle.std.specs.Str.{bytes_eq}
use Rattle.std.specs.declared.result.Result.TheVariants.{Ok, Err}
use Rattle.history.specs.History.{History}
use Rattle.history.specs.History as history
use Rattle.params.specs.Texts.{token_text}
use Rattle.indexer.specs.Objects.{Stored, place_cmp}
use Rattle.decoder.specs.Members.{Read}
use Rattle.decoder.specs.OwnTexts.{object_in}
use Rattle.decoder.specs.Wanted.{Wanted}
use Rattle.reflector.specs.Client.{Objects, by_place}
use Rattle.reflector.specs.FollowsLaws.{Server}
use Rattle.world_laws.specs.Tasks.{Task, selected_at, wanted_by}

-- the object that was read, if it was
abbrev pub stored_by : Read Stored → List Stored
stored_by (Ok o) = o ∷ []
stored_by (Err m) = []

-- the objects as a client keeps them: each as it is read from its text
abbrev pub mirrored : Wanted → history.Objects → Objects
mirrored wanted s = fin.from_sorted {R = place_cmp} (by_place (flat_map (λ e. stored_by (object_in wanted e.1.body)) (fin.entries s)))

-- the token by which a list of the revision goes on behind its last object so far
abbrev pub is_token_behind : Option Stored → ℕ → List ℕ → Bool
is_token_behind None revision token = false
is_token_behind (Some o) revision token = bytes_eq token (token_text (record { revision = revision; namespace = o.namespace; name = o.name }))

-- what the task's client may see of the machine
abbrev pub server_of : Task → History → Server
server_of task machine =
    record { at = λ revision. mirrored (wanted_by task) (selected_at task machine revision); top = machine.current; continues = λ revision objects token. is_token_behind (last_or None objects) revision token }
