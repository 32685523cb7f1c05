-- What a client can't mirror.
use Rattle.std.specs.Prelude.{ℕ, Bool, true, ◌&&◌, nat_le, if◌then◌else◌, List, Option, Some, None}
use Rattle.names.specs.Names.{is_dns_label}
use Rattle.reflector.specs.declared.settings.SettingsFault.{SettingsFault}
use Rattle.reflector.specs.declared.settings.SettingsFault.TheVariants.{Page, Namespace}
use Rattle.reflector.specs.Requests.{Settings}

abbrev pub is_page_size : ℕ → Bool
is_page_size size = nat_le 1 size && nat_le size 500

-- a DNS label, or all namespaces
abbrev pub is_namespace_or_all : Option (List ℕ) → Bool
is_namespace_or_all None = true
is_namespace_or_all (Some namespace) = is_dns_label namespace

-- the first fault
abbrev pub fault_in : Settings → Option SettingsFault
fault_in s = if is_page_size s.page then (if is_namespace_or_all s.wanted.namespace then None else Some Namespace) else Some Page
