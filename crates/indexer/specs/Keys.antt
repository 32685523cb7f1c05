-- Keys of objects, and their order.
use Rattle.std.specs.Prelude.{◌≡◌, Bool}
use Rattle.std.specs.Cmp.Lexicographic.{slice_cmp}
use Rattle.std.specs.Ordering.{is_eq, nat_cmp, ordering_then}
use Rattle.std.specs.Rc.{rc_str_bytes}
use Rattle.std.specs.declared.cmp.Ordering.{Ordering}
use Rattle.indexer.specs.declared.object.Object.{Object}
use Rattle.indexer.specs.declared.object.ObjectKey.{ObjectKey}

-- by namespace, then by name
abbrev pub key_cmp : ObjectKey → ObjectKey → Ordering
key_cmp a b = ordering_then (slice_cmp nat_cmp (rc_str_bytes a.namespace) (rc_str_bytes b.namespace)) (slice_cmp nat_cmp (rc_str_bytes a.name) (rc_str_bytes b.name))

abbrev pub is_same : ObjectKey → ObjectKey → Bool
is_same a b = is_eq (key_cmp a b)

pub record IsKeyOf (object : Object) (key : ObjectKey) : Type 0 where
  pub namespace : rc_str_bytes key.namespace ≡ rc_str_bytes object.namespace
  pub name : rc_str_bytes key.name ≡ rc_str_bytes object.name

pub record IsCopyOf (key copy : ObjectKey) : Type 0 where
  pub namespace : rc_str_bytes copy.namespace ≡ rc_str_bytes key.namespace
  pub name : rc_str_bytes copy.name ≡ rc_str_bytes key.name
