-- What the system says in each object's metadata, and no manager owns (Kubernetes API conventions, "Metadata"; ObjectMeta v1).
use Rattle.std.specs.Prelude.{ℕ, Bool, ◌||◌, List, Option, Some, None, codes}
use Rattle.std.specs.Str.{bytes_eq}
use Rattle.serde_json.specs.Data.{Data, number, unsigned, string, Members, put}

-- a uid, two moments as they are printed (of its creation, and from which it is being deleted), and how often what it asks for has changed
pub record System : Type 0 where
  pub uid : List ℕ
  pub created : List ℕ
  pub generation : ℕ
  pub deleted : Option (List ℕ)

-- an object's version, and what else the system says of it: some types have nothing else
pub record Stamp : Type 0 where
  pub version : ℕ
  pub system : Option System

abbrev pub stamped : ℕ → Option System → Stamp
stamped version system = record { version = version; system = system }

-- a version alone
abbrev pub plain_stamp : ℕ → Stamp
plain_stamp version = stamped version None

-- the same at another version
abbrev pub at_version : ℕ → Stamp → Stamp
at_version version stamp = stamped version stamp.system

abbrev pub whole_value : ℕ → Data
whole_value n = number (unsigned n)

-- an object that is being deleted is left no time
abbrev pub put_deletion : Option (List ℕ) → Members → Members
put_deletion None ms = ms
put_deletion (Some moment) ms = put (codes "deletionGracePeriodSeconds") (whole_value 0) (put (codes "deletionTimestamp") (string moment) ms)

-- creation, generation and deletion
abbrev pub put_life : Option System → Members → Members
put_life None ms = ms
put_life (Some s) ms = put (codes "creationTimestamp") (string s.created) (put (codes "generation") (whole_value s.generation) (put_deletion s.deleted ms))

abbrev pub put_uid : Option System → Members → Members
put_uid None ms = ms
put_uid (Some s) ms = put (codes "uid") (string s.uid) ms

-- all that the system says beside the version
abbrev pub put_system : Option System → Members → Members
put_system system ms = put_uid system (put_life system ms)

-- the names of these members
abbrev pub is_system_name : List ℕ → Bool
is_system_name k =
    bytes_eq k (codes "uid") || (bytes_eq k (codes "creationTimestamp") || (bytes_eq k (codes "generation") || (bytes_eq k (codes "deletionTimestamp") || bytes_eq k (codes "deletionGracePeriodSeconds"))))
