-- What lawful changes of types keep.
use Rattle.std.proofs.Common.{◌≡◌, ℕ, suc, Bool, true, false, true≢false, cond, ◌&&◌, ◌||◌, List, [], ◌∷◌, Option, Some, is_some, refl, sym, ap, ap₂, ◌∙◌, subst}
use Rattle.std.specs.Bool.{beq}
use Rattle.std.specs.Cmp.Derive.{both_true}
use Rattle.std.specs.List.{list_any}
use Rattle.std.specs.Str.{bytes_eq}
use Rattle.std.proofs.lemmas.Bool.{and_parts, eq-eqb}
use Rattle.std.proofs.lemmas.Slice.Eq.{bytes_eq-Decides}
use Rattle.schema.specs.Becoming.{are_among, becomes, fields_become, is_same_kind, may_become}
use Rattle.api_types.specs.Profiles.{is_same}
use Rattle.api_types.specs.declared.profile.Profile.{Profile}
use Rattle.api_types.specs.declared.profile.Profile.TheVariants.{Plain, Discovered, Kubernetes}
use Rattle.api_types.specs.Retyping.{type_may_become, types_may_become}
use Rattle.schema.specs.Becoming as becoming
use Rattle.api_types.specs.ChangeLaws.{FieldsStay, NumbersStay, SameIsLawful}
use Rattle.schema.specs.Shape.{Kind, atomic, set, keyed, Shape, text, whole, truth, struct_of, map_of, list_of, Fields, no_fields, field, shape_at}
use Rattle.api_types.specs.TypesFile.{ServedShape, is_named, number_from}

never : {P : Type 0} → false ≡ true → P
never h = absurd (true≢false (sym h))

-- ---- types may stay as they are

bytes_same : (s : List ℕ) → bytes_eq s s ≡ true
bytes_same s = (bytes_eq-Decides s s).1 refl

or_right : (a b : Bool) → b ≡ true → (a || b) ≡ true
or_right true b h = refl
or_right false b h = h

among_more : (names others : List (List ℕ)) (m : List ℕ) → are_among names others ≡ true → are_among names (m ∷ others) ≡ true
among_more [] others m h = refl
among_more (n ∷ ns) others m h =
    let parts = and_parts (list_any (bytes_eq n) others) (are_among ns others) h in both_true (or_right (bytes_eq n m) (list_any (bytes_eq n) others) parts.0) (among_more ns others m parts.1)

among_same : (names : List (List ℕ)) → are_among names names ≡ true
among_same [] = refl
among_same (n ∷ ns) = both_true (ap (λ b. b || list_any (bytes_eq n) ns) (bytes_same n)) (among_more ns ns n (among_same ns))

kind_itself : (k : Kind) → is_same_kind k k ≡ true
kind_itself atomic = refl
kind_itself set = refl
kind_itself (keyed names) = both_true (among_same names) (among_same names)

bool_itself : (b : Bool) → beq b b ≡ true
bool_itself true = refl
bool_itself false = refl

mutual
  shape_itself : (r : Bool) (s : Shape) → becomes r s s ≡ true
  shape_itself r text = refl
  shape_itself r whole = refl
  shape_itself r truth = refl
  shape_itself r (struct_of all was) = both_true (bool_itself was) (fields_itself r all)
  shape_itself r (map_of s was) = ap (λ b. cond b (becomes r s s) (r && (was && becomes false s s))) (bool_itself was) ∙ shape_itself r s
  shape_itself r (list_of s was) = ap (λ b. cond b (becomes r s s) (r && (becoming.is_atomic was && becomes false s s))) (kind_itself was) ∙ shape_itself r s

  fields_itself : (r : Bool) (all : Fields) → fields_become r all all ≡ true
  fields_itself r no_fields = refl
  fields_itself r (field f s more) = both_true (bytes_same f) (both_true (shape_itself r s) (fields_itself r more))

profile_itself : (p : Profile) → is_same p p ≡ true
profile_itself Plain = refl
profile_itself Discovered = refl
profile_itself (Kubernetes epoch) = eq-eqb epoch epoch refl

pub itself : SameIsLawful
itself [] = refl
itself (t ∷ ts) = both_true (both_true (profile_itself t.profile) (both_true (bytes_same t.group) (both_true (bytes_same t.version) (both_true (bytes_same t.kind) (both_true (bytes_same t.plural) (shape_itself true t.shape)))))) (itself ts)

-- ---- numbers

named_still : (g v p : List ℕ) (t u : ServedShape) → type_may_become t u ≡ true → is_named g v p u ≡ is_named g v p t
named_still g v p t u h =
    let group = and_parts (bytes_eq t.group u.group) _ (and_parts (is_same t.profile u.profile) _ h).1 in
    let version = and_parts (bytes_eq t.version u.version) _ group.1 in
    let kind = and_parts (bytes_eq t.kind u.kind) _ version.1 in
    let plural = and_parts (bytes_eq t.plural u.plural) _ kind.1 in
    sym (ap₂ (λ a b. a && b) (ap₂ (λ a b. a && b) (ap (bytes_eq g) ((bytes_eq-Decides t.group u.group).0 group.0)) (ap (bytes_eq v) ((bytes_eq-Decides t.version u.version).0 version.0)))
    (ap (bytes_eq p) ((bytes_eq-Decides t.plural u.plural).0 plural.0)))

numbers_from : (ts us : List ServedShape) → types_may_become ts us ≡ true → (n : ℕ) (g v p : List ℕ) → number_from n g v p us ≡ number_from n g v p ts
numbers_from [] [] h n g v p = refl
numbers_from [] (u ∷ us) h n g v p = never h
numbers_from (t ∷ ts) [] h n g v p = never h
numbers_from (t ∷ ts) (u ∷ us) h n g v p =
    let parts = and_parts (type_may_become t u) (types_may_become ts us) h in ap₂ (λ b o. cond b (Some n) o) (named_still g v p t u parts.0) (numbers_from ts us parts.1 (suc n) g v p)

pub numbers_stay : NumbersStay
numbers_stay ts us h g v p = numbers_from ts us h 0 g v p

-- ---- fields

some_still : (b : Bool) (s t : Shape) (o p : Option Shape) → is_some p ≡ is_some o → is_some (cond b (Some t) p) ≡ is_some (cond b (Some s) o)
some_still true s t o p h = refl
some_still false s t o p h = h

names_stay : (fs gs : Fields) → fields_become true fs gs ≡ true → (k : List ℕ) → is_some (shape_at k gs) ≡ is_some (shape_at k fs)
names_stay no_fields no_fields h k = refl
names_stay no_fields (field g t rest) h k = never h
names_stay (field f s more) no_fields h k = never h
names_stay (field f s more) (field g t rest) h k =
    let named = and_parts (bytes_eq f g) (becomes true s t && fields_become true more rest) h in
    let parts = and_parts (becomes true s t) (fields_become true more rest) named.1 in
    subst (λ n. is_some (shape_at k (field n t rest)) ≡ is_some (shape_at k (field f s more))) ((bytes_eq-Decides f g).0 named.0)
    (some_still (bytes_eq f k) s t (shape_at k more) (shape_at k rest) (names_stay more rest parts.1 k))

pub fields_stay : FieldsStay
fields_stay (struct_of all was) (struct_of others is) h f = names_stay all others (and_parts (beq was is) (fields_become true all others) h).1 f
fields_stay (struct_of all was) text h f = never h
fields_stay (struct_of all was) whole h f = never h
fields_stay (struct_of all was) truth h f = never h
fields_stay (struct_of all was) (map_of t is) h f = never h
fields_stay (struct_of all was) (list_of t is) h f = never h
fields_stay text (struct_of others is) h f = never h
fields_stay whole (struct_of others is) h f = never h
fields_stay truth (struct_of others is) h f = never h
fields_stay (map_of s was) (struct_of others is) h f = never h
fields_stay (list_of s was) (struct_of others is) h f = never h
fields_stay text text h f = refl
fields_stay text whole h f = refl
fields_stay text truth h f = refl
fields_stay text (map_of t is) h f = refl
fields_stay text (list_of t is) h f = refl
fields_stay whole text h f = refl
fields_stay whole whole h f = refl
fields_stay whole truth h f = refl
fields_stay whole (map_of t is) h f = refl
fields_stay whole (list_of t is) h f = refl
fields_stay truth text h f = refl
fields_stay truth whole h f = refl
fields_stay truth truth h f = refl
fields_stay truth (map_of t is) h f = refl
fields_stay truth (list_of t is) h f = refl
fields_stay (map_of s was) text h f = refl
fields_stay (map_of s was) whole h f = refl
fields_stay (map_of s was) truth h f = refl
fields_stay (map_of s was) (map_of t is) h f = refl
fields_stay (map_of s was) (list_of t is) h f = refl
fields_stay (list_of s was) text h f = refl
fields_stay (list_of s was) whole h f = refl
fields_stay (list_of s was) truth h f = refl
fields_stay (list_of s was) (map_of t is) h f = refl
fields_stay (list_of s was) (list_of t is) h f = refl
