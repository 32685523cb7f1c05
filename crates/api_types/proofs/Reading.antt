-- Reading, member after member.
use Rattle.std.proofs.Common.{◌≡◌, ℕ, suc, cond, List, [], ◌∷◌, ◌++◌, Option, Some, None, Ok, Err, String, Global, string_bytes, Ordering, Less, Equal, Greater, is_eq, nat_cmp, codes, refl, sym, ap, subst, ◌∙◌}
use Rattle.std.proofs.lemmas.Map.Text.{is_eq-slice_cmp}
use Rattle.std.specs.Cmp.Lexicographic.{slice_cmp}
use Rattle.std.specs.Ordering.{match_ordering}
use Rattle.std.specs.Str.{bytes_eq}
use Rattle.std.specs.declared.result.Result.{Result}
use Rattle.serde_json.specs.Data.{Data, Members, no_members, member}
use Rattle.serde_json.specs.Find.{get_member}
use Rattle.serde_json.specs.View.{view}
use Rattle.api_types.specs.Refusals.{Refusal, misfit, and_then}
use Rattle.schema.specs.Shape.{Shape, shape, Fields, no_fields, field, fields_in}
use Rattle.api_types.specs.TypesFile.{shape_in, schema_at, properties_in, fields_at, one_field}
use Rattle.api_types.specs.Views.{Returns, FailsWith}
use Rattle.api_types.specs.declared.fault.TypesFault.{TypesFault}
use Rattle.api_types.specs.declared.fault.TypesFault.TheVariants as faults
use Rattle.schema.specs.declared.schema.Schema.{Schema}

-- ---- what stands at a keyword is what is looked up there

abbrev pub schema_or : ℕ → Option Data → Result Shape Refusal
schema_or depth None = Err misfit
schema_or depth (Some d) = shape_in (suc depth) d

abbrev pub fields_or : ℕ → Option Data → Result Fields Refusal
fields_or depth None = Ok no_fields
fields_or depth (Some d) = fields_at depth d

found_or : {X : Type 0} (of : Option Data → X) (o : Ordering) (d : Data) (rest : Option Data) → of (match_ordering o rest (Some d) rest) ≡ cond (is_eq o) (of (Some d)) (of rest)
found_or of Less d rest = refl
found_or of Equal d rest = refl
found_or of Greater d rest = refl

pub at_name : {X : Type 0} (of : Option Data → X) (k l : List ℕ) (d : Data) (ms : Members) → of (get_member k (member l d ms)) ≡ cond (bytes_eq k l) (of (Some d)) (of (get_member k ms))
at_name of k l d ms = found_or of (slice_cmp nat_cmp k l) d (get_member k ms) ∙ ap (λ b. cond b (of (Some d)) (of (get_member k ms))) (is_eq-slice_cmp k l)

pub schema_at-is : (k : List ℕ) (depth : ℕ) (ms : Members) → schema_at k depth ms ≡ schema_or depth (get_member k ms)
schema_at-is k depth no_members = refl
schema_at-is k depth (member l d ms) = ap (cond (bytes_eq k l) (shape_in (suc depth) d)) (schema_at-is k depth ms) ∙ sym (at_name (schema_or depth) k l d ms)

pub properties_in-is : (depth : ℕ) (ms : Members) → properties_in depth ms ≡ fields_or depth (get_member (codes "properties") ms)
properties_in-is depth no_members = refl
properties_in-is depth (member l d ms) = ap (cond (bytes_eq (codes "properties") l) (fields_at depth d)) (properties_in-is depth ms) ∙ sym (at_name (fields_or depth) (codes "properties") l d ms)

-- ---- fields so far, with those that are left

abbrev pub both : Fields → Fields → Fields
both no_fields more = more
both (field f s all) more = field f s (both all more)

abbrev pub after : Fields → Result Fields Refusal → Result Fields Refusal
after done left = and_then left (λ more. Ok (both done more))

pub after_none : (left : Result Fields Refusal) → after no_fields left ≡ left
after_none (Ok all) = refl
after_none (Err e) = refl

pub both_none : (all : Fields) → both all no_fields ≡ all
both_none no_fields = refl
both_none (field f s all) = ap (field f s) (both_none all)

both_pushed : (fs : List (String Global × Schema)) (f : String Global × Schema) (more : Fields) → both (fields_in (fs ++ f ∷ [])) more ≡ both (fields_in fs) (field (string_bytes f.0) (shape f.1) more)
both_pushed [] f more = refl
both_pushed (g ∷ fs) f more = ap (field (string_bytes g.0) (shape g.1)) (both_pushed fs f more)

after_pushed : (fs : List (String Global × Schema)) (f : String Global × Schema) (left : Result Fields Refusal)
    → after (fields_in fs) (one_field (string_bytes f.0) (Ok (shape f.1)) left) ≡ after (fields_in (fs ++ f ∷ [])) left
after_pushed fs f (Err e) = refl
after_pushed fs f (Ok more) = ap Ok (sym (both_pushed fs f more))

pub fails_first : (e : TypesFault) (done : Fields) (k : List ℕ) (s : Result Shape Refusal) (left : Result Fields Refusal) → FailsWith e s → FailsWith e (after done (one_field k s left))
fails_first faults.UnknownKeyword done k s left h = rw h refl
fails_first faults.UnknownType done k s left h = rw h refl
fails_first faults.Misfit done k s left h = rw h refl
fails_first faults.TooDeep done k s left h = rw h refl
fails_first faults.SameNames done k s left h = rw h refl
fails_first faults.NotTheForm done k s left h = rw h refl
fails_first faults.Memory done k s left h = tt

-- a member of a struct read, and pushed
pub pushed : (whole : Result Fields Refusal) (fs : List (String Global × Schema)) (n : String Global) (s : Schema) (k : List ℕ) (one : Result Shape Refusal) (left : Result Fields Refusal)
    → whole ≡ after (fields_in fs) (one_field k one left) → one ≡ Ok (shape s) → string_bytes n ≡ k → whole ≡ after (fields_in (fs ++ (n, s) ∷ [])) left
pushed whole fs n s k one left kept read named =
    kept ∙ ap (λ r. after (fields_in fs) (one_field k r left)) read ∙ ap (λ f. after (fields_in fs) (one_field f (Ok (shape s)) left)) (sym named) ∙ after_pushed fs (n, s) left

-- a fault that `?` hands on
pub passed_on : {X Y : Type 0} (view : X → Y) (e f : TypesFault) (r : Result X TypesFault) (answer : Result Y Refusal) → r ≡ Err e → e ≡ f → FailsWith f answer → Returns view r answer
passed_on view e f r answer is same h = subst (λ s. Returns view s answer) (sym is) (subst (λ x. FailsWith x answer) (sym same) h)
