-- The names of a type (Kubernetes docs, "Object Names and IDs").
use Rattle.std.specs.Prelude.{ℕ, Bool, not, ◌&&◌, ◌==◌, length, List, codes}
use Rattle.std.specs.Char.{is_ascii_alphanumeric}
use Rattle.std.specs.List.{list_all}
use Rattle.std.specs.Str.{bytes_eq}
use Rattle.names.specs.Names.{is_dns_label}

-- one or more ASCII letters and digits
abbrev pub is_kind_name : List ℕ → Bool
is_kind_name s = not (length s == 0) && list_all is_ascii_alphanumeric s

-- a DNS label, and not the word that stands before a namespace in a path
abbrev pub is_plural : List ℕ → Bool
is_plural s = is_dns_label s && not (bytes_eq s (codes "namespaces"))
