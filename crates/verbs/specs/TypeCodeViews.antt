-- Lists of types as lists of numbers, by which a proof tells two of them apart: what a model's value wants.
use Rattle.std.specs.Prelude.{◌≡◌, ◌==◌, refl, ℕ, zero, suc, Bool, false, List, [], ◌∷◌, if◌then◌else◌}
use Rattle.std.specs.Coded.{Coded, code_by, coded×, coded_bool, coded_list, coded_ℕ}
use Rattle.schema.specs.Shape.{Shape, text, whole, truth, struct_of, map_of, list_of, Fields, no_fields, field, Kind, atomic, set, keyed}
use Rattle.api_types.specs.TypesFile.{ServedShape}
use Rattle.api_types.specs.declared.profile.Profile.{Profile}
use Rattle.api_types.specs.declared.profile.Profile.TheVariants.{Plain, Discovered, Kubernetes}

-- ---- a shape as what a machine with a stack of shapes and one of fields builds it by: after its parts

-- what is built, the truth value of a struct or map, and the names of a field or of keys
abbrev Token : Type 0
Token = ℕ × (Bool × List (List ℕ))

abbrev of_list : Kind → Token
of_list atomic = (5, (false, []))
of_list set = (6, (false, []))
of_list (keyed names) = (7, (false, names))

abbrev mutual
  built : Shape → List Token → List Token
  built text more = (0, (false, [])) ∷ more
  built whole more = (1, (false, [])) ∷ more
  built truth more = (2, (false, [])) ∷ more
  built (struct_of all is_atomic) more = built_fields all ((3, (is_atomic, [])) ∷ more)
  built (map_of inner is_atomic) more = built inner ((4, (is_atomic, [])) ∷ more)
  built (list_of inner kind) more = built inner (of_list kind ∷ more)

  built_fields : Fields → List Token → List Token
  built_fields no_fields more = (8, (false, [])) ∷ more
  built_fields (field name inner more_fields) more = built inner (built_fields more_fields ((9, (false, name ∷ [])) ∷ more))

abbrev top : {X : Type 0} → X → List X → X
top x [] = x
top x (y ∷ ys) = y

abbrev under : {X : Type 0} → List X → List X
under [] = []
under (y ∷ ys) = ys

abbrev step : ℕ → Bool → List (List ℕ) → (List Shape → List Fields → Shape) → List Shape → List Fields → Shape
step n b names next ss fs =
    if n == 0 then next (text ∷ ss) fs else
    if n == 1 then next (whole ∷ ss) fs else
    if n == 2 then next (truth ∷ ss) fs else
    if n == 3 then next (struct_of (top no_fields fs) b ∷ ss) (under fs) else
    if n == 4 then next (map_of (top text ss) b ∷ under ss) fs else
    if n == 5 then next (list_of (top text ss) atomic ∷ under ss) fs else
    if n == 6 then next (list_of (top text ss) set ∷ under ss) fs else
    if n == 7 then next (list_of (top text ss) (keyed names) ∷ under ss) fs else
    if n == 8 then next ss (no_fields ∷ fs) else
    next (under ss) (field (top [] names) (top text ss) (top no_fields fs) ∷ under fs)

abbrev run : List Token → List Shape → List Fields → Shape
run [] ss fs = top text ss
run (t ∷ ts) ss fs = step t.0 t.1.0 t.1.1 (run ts) ss fs

mutual
  built_back : (s : Shape) (more : List Token) (ss : List Shape) (fs : List Fields) (x : Shape) → run more (s ∷ ss) fs ≡ x → run (built s more) ss fs ≡ x
  built_back text more ss fs x e = e
  built_back whole more ss fs x e = e
  built_back truth more ss fs x e = e
  built_back (struct_of all is_atomic) more ss fs x e = fields_back all ((3, (is_atomic, [])) ∷ more) ss fs x e
  built_back (map_of inner is_atomic) more ss fs x e = built_back inner ((4, (is_atomic, [])) ∷ more) ss fs x e
  built_back (list_of inner atomic) more ss fs x e = built_back inner ((5, (false, [])) ∷ more) ss fs x e
  built_back (list_of inner set) more ss fs x e = built_back inner ((6, (false, [])) ∷ more) ss fs x e
  built_back (list_of inner (keyed names)) more ss fs x e = built_back inner ((7, (false, names)) ∷ more) ss fs x e

  fields_back : (all : Fields) (more : List Token) (ss : List Shape) (fs : List Fields) (x : Shape) → run more ss (all ∷ fs) ≡ x → run (built_fields all more) ss fs ≡ x
  fields_back no_fields more ss fs x e = e
  fields_back (field name inner more_fields) more ss fs x e =
      built_back inner (built_fields more_fields ((9, (false, name ∷ [])) ∷ more)) ss fs x (fields_back more_fields ((9, (false, name ∷ [])) ∷ more) (inner ∷ ss) fs x e)

coded_shape : Coded Shape
coded_shape =
    code_by (List Token) (coded_list (coded× coded_ℕ (coded× coded_bool (coded_list (coded_list coded_ℕ))))) (λ s. built s []) (λ ts. run ts [] []) (λ s. built_back s [] [] [] s refl)

abbrev coded_text : Coded (List ℕ)
coded_text = coded_list coded_ℕ

-- ---- profiles

abbrev profile_code : Profile → ℕ
profile_code Plain = 0
profile_code Discovered = 1
profile_code (Kubernetes epoch) = suc (suc epoch)

abbrev profile_from : ℕ → Profile
profile_from zero = Plain
profile_from (suc zero) = Discovered
profile_from (suc (suc epoch)) = Kubernetes epoch

profile_back : (p : Profile) → profile_from (profile_code p) ≡ p
profile_back Plain = refl
profile_back Discovered = refl
profile_back (Kubernetes epoch) = refl

coded_profile : Coded Profile
coded_profile = code_by ℕ coded_ℕ profile_code profile_from profile_back

-- ---- types

pub coded_type : Coded ServedShape
coded_type =
    code_by (List ℕ × (List ℕ × (List ℕ × (List ℕ × (Profile × Shape))))) (coded× coded_text (coded× coded_text (coded× coded_text (coded× coded_text (coded× coded_profile coded_shape)))))
    (λ t. (t.group, (t.version, (t.kind, (t.plural, (t.profile, t.shape))))))
    (λ p. record { group = p.0; version = p.1.0; kind = p.1.1.0; plural = p.1.1.1.0; shape = p.1.1.1.1.1; profile = p.1.1.1.1.0 }) (λ _. refl)

abbrev pub coded_types : Coded (List ServedShape)
coded_types = coded_list coded_type
