-- Which schemas a schema may become while objects of its type stand: the same, but that some sets, map lists and granular maps have become atomic.
-- Server-Side Apply, "Compatibility across topology changes".
use Rattle.std.specs.Prelude.{ℕ, Bool, true, false, ◌&&◌, List, if◌then◌else◌}
use Rattle.std.specs.Bool.{beq}
use Rattle.std.specs.List.{list_any, list_all}
use Rattle.std.specs.Str.{bytes_eq}
use Rattle.schema.specs.ObjectTest.{is_text}
use Rattle.schema.specs.Shape.{Kind, atomic, set, keyed, Shape, text, whole, truth, struct_of, map_of, list_of, Fields, no_fields, field}

abbrev pub is_whole : Shape → Bool
is_whole whole = true
is_whole _ = false

abbrev pub is_truth : Shape → Bool
is_truth truth = true
is_truth _ = false

-- ---- kinds of lists

abbrev pub is_atomic : Kind → Bool
is_atomic atomic = true
is_atomic _ = false

abbrev pub is_set : Kind → Bool
is_set set = true
is_set _ = false

-- whether each name is one of the others
abbrev pub are_among : List (List ℕ) → List (List ℕ) → Bool
are_among names others = list_all (λ n. list_any (bytes_eq n) others) names

abbrev pub is_keyed_by : List (List ℕ) → Kind → Bool
is_keyed_by names (keyed others) = are_among names others && are_among others names
is_keyed_by names _ = false

abbrev pub is_same_kind : Kind → Kind → Bool
is_same_kind atomic to = is_atomic to
is_same_kind set to = is_set to
is_same_kind (keyed names) to = is_keyed_by names to

-- ---- shapes

-- a struct stays granular or atomic, whatever becomes of its fields
abbrev pub stays_struct : Bool → (Fields → Bool) → Shape → Bool
stays_struct was inner (struct_of others is) = beq was is && inner others
stays_struct was inner _ = false

-- a map stays what it is, whatever becomes of its values; or it has become atomic, and its values are the same
abbrev pub stays_map : Bool → Bool → (Bool → Shape → Bool) → Shape → Bool
stays_map rises was inner (map_of t is) = if beq was is then inner rises t else rises && (is && inner false t)
stays_map rises was inner _ = false

-- so does a list
abbrev pub stays_list : Bool → Kind → (Bool → Shape → Bool) → Shape → Bool
stays_list rises was inner (list_of t is) = if is_same_kind was is then inner rises t else rises && (is_atomic is && inner false t)
stays_list rises was inner _ = false

abbrev pub stays_field : List ℕ → (Shape → Bool) → (Fields → Bool) → Fields → Bool
stays_field f inner rest no_fields = false
stays_field f inner rest (field g t more) = bytes_eq f g && (inner t && rest more)

abbrev pub is_end : Fields → Bool
is_end no_fields = true
is_end (field f s more) = false

-- the same shape, but that, where it rises, sets, map lists and granular maps may have become atomic
abbrev mutual
  pub becomes : Bool → Shape → Shape → Bool
  becomes rises text t = is_text t
  becomes rises whole t = is_whole t
  becomes rises truth t = is_truth t
  becomes rises (struct_of all was) t = stays_struct was (λ others. fields_become rises all others) t
  becomes rises (map_of s was) t = stays_map rises was (λ r u. becomes r s u) t
  becomes rises (list_of s was) t = stays_list rises was (λ r u. becomes r s u) t

  pub fields_become : Bool → Fields → Fields → Bool
  fields_become rises no_fields others = is_end others
  fields_become rises (field f s more) others = stays_field f (λ u. becomes rises s u) (λ rest. fields_become rises more rest) others

abbrev pub may_become : Shape → Shape → Bool
may_become = becomes true
