-- The names of types that are served.
use Rattle.std.specs.Prelude.{Bool, ◌&&◌, List}
use Rattle.std.specs.List.{list_all}
use Rattle.names.specs.Names.{is_dns_label, is_dns_subdomain}
use Rattle.api_types.specs.Names.{is_kind_name, is_plural}
use Rattle.api_types.specs.TypesFile.{ServedShape, names_differ}

-- a DNS subdomain as group, DNS labels as version and plural, a word as kind
abbrev pub has_names : ServedShape → Bool
has_names t = is_dns_subdomain t.group && (is_dns_label t.version && (is_kind_name t.kind && is_plural t.plural))

-- all have lawful names, and no two the same; unfoldable, so that no search looks into it where types are at hand
unfoldable pub are_named : List ServedShape → Bool
are_named ts = list_all has_names ts && names_differ ts
