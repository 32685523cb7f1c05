-- A type's own fields and the `metadata` of every type make the shape of an object.
use Rattle.std.proofs.Common.{◌≡◌, ℕ, Bool, true, false, cond, List, Some, None, nat_cmp, codes, refl, ap, ◌∙◌}
use Rattle.std.proofs.lemmas.Bool.{or_parts}
use Rattle.std.proofs.lemmas.Slice.Eq.{bytes_eq-Decides}
use Rattle.std.specs.Cmp.Lexicographic.{slice_cmp}
use Rattle.std.specs.Ordering.{is_lt}
use Rattle.std.specs.Str.{bytes_eq}
use Rattle.api_types.specs.Depths.{AreFieldsAt}
use Rattle.schema.specs.Lawful.{names_of}
use Rattle.schema.specs.ObjectShape.{IsMetadata, IsObjectShape}
use Rattle.schema.specs.Shape.{Shape, struct_of, Fields, no_fields, field, shape_at}
use Rattle.api_types.specs.Profiles.{metadata_of}
use Rattle.api_types.specs.TypesFile.{is_envelope, put_field}
use Rattle.api_types.specs.declared.profile.Profile.{Profile}
use Rattle.api_types.specs.declared.profile.Profile.TheVariants.{Plain, Discovered, Kubernetes}
use Rattle.api_types.proofs.Depths.{Lacks, type_kept}
use Rattle.api_types.proofs.Items.{bytes_eq-swap}

-- a name that no field has
pub absent : (k : List ℕ) (all : Fields) → Lacks k (names_of all) → shape_at k all ≡ None
absent k no_fields lack = refl
absent k (field f s more) lack =
    let parts = or_parts (bytes_eq k f) _ lack in
    ap (λ b. cond b (Some s) (shape_at k more)) (bytes_eq-swap (bytes_eq f k) false f k refl parts.0) ∙ absent k more parts.1

-- the field that was put in place stands there
put_found_at : (f g : List ℕ) (s t : Shape) (more : Fields) (b : Bool) → bytes_eq f g ≡ false → shape_at f (put_field f s more) ≡ Some s
    → shape_at f (cond b (field g t (put_field f s more)) (field f s (field g t more))) ≡ Some s
put_found_at f g s t more true other later = ap (λ b. cond b (Some t) (shape_at f (put_field f s more))) (bytes_eq-swap (bytes_eq g f) false g f refl other) ∙ later
put_found_at f g s t more false other later = ap (λ b. cond b (Some s) (shape_at f (field g t more))) ((bytes_eq-Decides f f).1 refl)

put_found : (f : List ℕ) (s : Shape) (all : Fields) → Lacks f (names_of all) → shape_at f (put_field f s all) ≡ Some s
put_found f s no_fields lack = ap (λ b. cond b (Some s) None) ((bytes_eq-Decides f f).1 refl)
put_found f s (field g t more) lack =
    let parts = or_parts (bytes_eq f g) _ lack in put_found_at f g s t more (is_lt (slice_cmp nat_cmp g f)) parts.0 (put_found f s more parts.1)

-- and what lacks another name lacks it still
put_absent_at : (k f g : List ℕ) (s t : Shape) (more : Fields) (b : Bool) → bytes_eq f k ≡ false → bytes_eq g k ≡ false → shape_at k more ≡ None → shape_at k (put_field f s more) ≡ None
    → shape_at k (cond b (field g t (put_field f s more)) (field f s (field g t more))) ≡ None
put_absent_at k f g s t more true other next rest later = ap (λ b. cond b (Some t) (shape_at k (put_field f s more))) next ∙ later
put_absent_at k f g s t more false other next rest later = ap (λ b. cond b (Some s) (shape_at k (field g t more))) other ∙ ap (λ b. cond b (Some t) (shape_at k more)) next ∙ rest

put_absent : (k f : List ℕ) (s : Shape) (all : Fields) → bytes_eq f k ≡ false → Lacks k (names_of all) → shape_at k (put_field f s all) ≡ None
put_absent k f s no_fields other lack = ap (λ b. cond b (Some s) None) other
put_absent k f s (field g t more) other lack =
    let parts = or_parts (bytes_eq k g) _ lack in
    put_absent_at k f g s t more (is_lt (slice_cmp nat_cmp g f)) other (bytes_eq-swap (bytes_eq g k) false g k refl parts.0) (absent k more parts.1) (put_absent k f s more other parts.1)

metadata_is : (p : Profile) → IsMetadata (metadata_of p)
metadata_is Plain = record { granular = refl; labels = refl; annotations = refl; others = refl }
metadata_is Discovered = record { granular = refl; labels = refl; annotations = refl; others = refl }
metadata_is (Kubernetes epoch) = record { granular = refl; labels = refl; annotations = refl; others = refl }

pub object_shape : (p : Profile) (all : Fields) → AreFieldsAt 1 all → ((k : List ℕ) → is_envelope k ≡ true → Lacks k (names_of all)) → IsObjectShape (struct_of (put_field (codes "metadata") (metadata_of p) all) false)
object_shape p all kept lack = (
  refl,
  type_kept p all kept (lack (codes "metadata") refl),
  (metadata_of p, put_found (codes "metadata") (metadata_of p) all (lack (codes "metadata") refl), metadata_is p),
  put_absent (codes "apiVersion") (codes "metadata") (metadata_of p) all refl (lack (codes "apiVersion") refl),
  put_absent (codes "kind") (codes "metadata") (metadata_of p) all refl (lack (codes "kind") refl),
)
