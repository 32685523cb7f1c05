-- What an `Owned`, an `Identity` and what the system says stand for.
use Rattle.std.specs.Prelude.{option_map, string_bytes}
use Rattle.objects.specs.ObjectText as text
use Rattle.objects.specs.State.{State}
use Rattle.objects.specs.declared.object.Identity.{Identity}
use Rattle.objects.specs.declared.owned.Owned.{Owned}
use Rattle.objects.specs.SystemMetadata as said
use Rattle.objects.specs.declared.system.Stamp.{Stamp}
use Rattle.objects.specs.declared.system.Stored.{Stored}
use Rattle.objects.specs.declared.system.System.{System}

abbrev pub state_of : Owned → State
state_of o = record { content = o.tree; owners = o.managers }

abbrev pub identity_of : Identity → text.Identity
identity_of i = record { api_version = i.api_version.now; kind = i.kind.now; namespace = i.namespace.now; name = i.name.now }

abbrev pub system_of : System → said.System
system_of s = record { uid = string_bytes s.uid; created = string_bytes s.created; generation = s.generation; deleted = option_map string_bytes s.deleted }

abbrev pub stamp_of : Stamp → said.Stamp
stamp_of s = record { version = s.version; system = option_map (λ b. system_of b.now) s.system }

-- what the system says of an object that was read
abbrev pub stored_stamp : Stored → said.Stamp
stored_stamp o = record { version = o.version; system = option_map system_of o.system }
