-- What a lawful change of a type leaves of its subresources.
use Rattle.std.proofs.Common.{◌≡◌, true, refl}
use Rattle.std.specs.Prelude.{codes}
use Rattle.api_types.specs.Profiles.{is_same}
use Rattle.std.specs.Str.{bytes_eq}
use Rattle.std.proofs.lemmas.Bool.{and_parts}
use Rattle.schema.specs.Becoming.{may_become}
use Rattle.api_types.specs.Retyping.{type_may_become}
use Rattle.api_types.specs.Subresources.{has_status, is_apart}
use Rattle.api_types.specs.TypesFile.{ServedShape}
use Rattle.api_types.proofs.Keeping.{fields_stay}

pub status_stays : (t u : ServedShape) → type_may_become t u ≡ true → has_status u ≡ has_status t
status_stays t u may =
    let group = and_parts (bytes_eq t.group u.group) _ (and_parts (is_same t.profile u.profile) _ may).1 in
    let version = and_parts (bytes_eq t.version u.version) _ group.1 in
    let kind = and_parts (bytes_eq t.kind u.kind) _ version.1 in
    fields_stay t.shape u.shape (and_parts (bytes_eq t.plural u.plural) (may_become t.shape u.shape) kind.1).1 (codes "status")

pub apart_stays : (t u : ServedShape) → type_may_become t u ≡ true → is_apart u ≡ is_apart t
unfolding is_apart
apart_stays t u may = refl
