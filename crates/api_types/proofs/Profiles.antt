-- What a types file declares for one profile, and for another.
use Rattle.std.proofs.Common.{◌≡◌, ◌||◌, ◌&&◌, ℕ, not, Bool, true, false, true≢false, cond, List, [], ◌∷◌, map, Option, Some, None, Result, Ok, Err, codes, refl, sym, ap, ap₂, ◌∙◌}
use Rattle.std.specs.List.{list_any}
use Rattle.serde_json.specs.Data.{Data, Items, no_items, item, Members}
use Rattle.serde_json.specs.Find.{get_member, as_object}
use Rattle.names.specs.Names.{is_dns_label, is_dns_subdomain}
use Rattle.json_values.specs.Members.{text_at}
use Rattle.schema.specs.Shape.{Shape, text, struct_of, Fields}
use Rattle.api_types.specs.Discovered.{discovered}
use Rattle.api_types.specs.Forms.{own_form}
use Rattle.api_types.specs.Names.{is_kind_name, is_plural}
use Rattle.api_types.specs.ProfileLaws.{AreRefusedAlike, DiscoveryIsAMark}
use Rattle.api_types.specs.Profiles.{metadata_of}
use Rattle.api_types.specs.Refusals.{Refusal, and_then, misfit, not_the_form, same_names, some_or}
use Rattle.api_types.specs.TypesFile.{ServedShape, declared_types, fields_of, is_named, listed, names_differ, object_of, one_type, own_properties, put_field, text_where, type_members, type_of, type_properties, type_shape, types_of}
use Rattle.api_types.specs.Views.{FailsWith}
use Rattle.api_types.specs.declared.fault.TypesFault.{TypesFault}
use Rattle.api_types.specs.declared.fault.TypesFault.TheVariants as faults
use Rattle.api_types.specs.declared.profile.Profile.{Profile}
use Rattle.api_types.specs.declared.profile.Profile.TheVariants.{Plain, Discovered}

-- ---- what keeps the names of types

abbrev KeepsNames : (ServedShape → ServedShape) → Type 0
KeepsNames f = (group version plural : List ℕ) (t : ServedShape) → (is_named (f t).group (f t).version (f t).plural ≡ is_named t.group t.version t.plural) × (is_named group version plural (f t) ≡ is_named group version plural t)

named_still : (f : ServedShape → ServedShape) → KeepsNames f → (group version plural : List ℕ) (ts : List ServedShape) → list_any (is_named group version plural) (map f ts) ≡ list_any (is_named group version plural) ts
named_still f keeps group version plural [] = refl
named_still f keeps group version plural (t ∷ ts) = ap₂ (λ a b. a || b) (keeps group version plural t).1 (named_still f keeps group version plural ts)

names_still : (f : ServedShape → ServedShape) → KeepsNames f → (ts : List ServedShape) → names_differ (map f ts) ≡ names_differ ts
names_still f keeps [] = refl
names_still f keeps (t ∷ ts) =
    ap₂ (λ a b. not a && b)
    (ap (λ p. list_any p (map f ts)) (keeps t.group t.version t.plural t).0 ∙ named_still f keeps t.group t.version t.plural ts)
    (names_still f keeps ts)

-- ---- two profiles

abbrev made : Profile → List ℕ → List ℕ → List ℕ → List ℕ → Fields → ServedShape
made p group version kind plural all =
    record { group = group; version = version; kind = kind; plural = plural; shape = struct_of (put_field (codes "metadata") (metadata_of p) all) false; profile = p }

abbrev one : (ServedShape → ServedShape) → Result ServedShape Refusal → Result ServedShape Refusal
one h r = and_then r (λ t. Ok (h t))

abbrev each : (ServedShape → ServedShape) → Result (List ServedShape) Refusal → Result (List ServedShape) Refusal
each h r = and_then r (λ ts. Ok (map h ts))

module _ (p q : Profile) (f g : ServedShape → ServedShape) (keeps : KeepsNames f) (keep : KeepsNames g)
    (alike : (group version kind plural : List ℕ) (all : Fields) → f (made p group version kind plural all) ≡ g (made q group version kind plural all)) where
  step : {A : Type 0} (r : Result A Refusal) (x y : A → Result ServedShape Refusal) → ((a : A) → one f (x a) ≡ one g (y a)) → one f (and_then r x) ≡ one g (and_then r y)
  step (Ok a) x y h = h a
  step (Err e) x y h = refl

  inner : {A : Type 0} (r : Result A Refusal) (x y : A → Result Shape Refusal) (k l : Shape → Result ServedShape Refusal) → ((a : A) → one f (and_then (x a) k) ≡ one g (and_then (y a) l))
      → one f (and_then (and_then r x) k) ≡ one g (and_then (and_then r y) l)
  inner (Ok a) x y k l h = h a
  inner (Err e) x y k l h = refl

  shaped : (group version kind plural : List ℕ) (o : Option Members)
      → one f (and_then (type_shape p o) (λ s. Ok (record { group = group; version = version; kind = kind; plural = plural; shape = s; profile = p })))
      ≡ one g (and_then (type_shape q o) (λ s. Ok (record { group = group; version = version; kind = kind; plural = plural; shape = s; profile = q })))
  shaped group version kind plural None = refl
  shaped group version kind plural (Some ms) =
      inner (own_form 1 ms) _ _ _ _ (λ form.
      inner (some_or misfit (type_properties form ms)) _ _ _ _ (λ ps.
      inner (fields_of 1 (own_properties ps)) _ _ _ _ (λ all. ap Ok (alike group version kind plural all))))

  of_type : (d : Data) → one f (type_of p d) ≡ one g (type_of q d)
  of_type d =
      step (object_of type_members (as_object d)) _ _ (λ ms.
      step (text_where is_dns_subdomain (text_at (codes "group") ms)) _ _ (λ group.
      step (text_where is_dns_label (text_at (codes "version") ms)) _ _ (λ version.
      step (text_where is_kind_name (text_at (codes "kind") ms)) _ _ (λ kind.
      step (text_where is_plural (text_at (codes "plural") ms)) _ _ (λ plural.
      step (some_or not_the_form (get_member (codes "schema") ms)) _ _ (λ schema. shaped group version kind plural (as_object schema)))))))

  one_more : (r s : Result ServedShape Refusal) (rest others : Result (List ServedShape) Refusal) → one f r ≡ one g s → each f rest ≡ each g others → each f (one_type r rest) ≡ each g (one_type s others)
  one_more (Err e) (Err d) rest others h k = let same : e ≡ d = cc in ap Err same
  one_more (Err e) (Ok u) rest others h k = absurd cc
  one_more (Ok t) (Err d) rest others h k = absurd cc
  one_more (Ok t) (Ok u) (Err e) (Err d) h k = let same : e ≡ d = cc in ap Err same
  one_more (Ok t) (Ok u) (Err e) (Ok us) h k = absurd cc
  one_more (Ok t) (Ok u) (Ok ts) (Err d) h k = absurd cc
  one_more (Ok t) (Ok u) (Ok ts) (Ok us) h k =
      let first : f t ≡ g u = cc in
      let more : map f ts ≡ map g us = cc in
      ap Ok (ap₂ (λ x xs. x ∷ xs) first more)

  of_types : (ds : Items) → each f (types_of p ds) ≡ each g (types_of q ds)
  of_types no_items = refl
  of_types (item d ds) = one_more (type_of p d) (type_of q d) (types_of p ds) (types_of q ds) (of_type d) (of_types ds)

  checked : (b c : Bool) (ts us : List ServedShape) → b ≡ c → map f ts ≡ map g us → each f (cond b (Ok ts) (Err same_names)) ≡ each g (cond c (Ok us) (Err same_names))
  checked true true ts us is h = ap Ok h
  checked true false ts us is h = absurd (true≢false is)
  checked false true ts us is h = absurd (true≢false (sym is))
  checked false false ts us is h = refl

  all_checked : (r s : Result (List ServedShape) Refusal) → each f r ≡ each g s
      → each f (and_then r (λ ts. cond (names_differ ts) (Ok ts) (Err same_names))) ≡ each g (and_then s (λ ts. cond (names_differ ts) (Ok ts) (Err same_names)))
  all_checked (Err e) (Err d) h = h
  all_checked (Err e) (Ok us) h = absurd cc
  all_checked (Ok ts) (Err d) h = absurd cc
  all_checked (Ok ts) (Ok us) h =
      let same : map f ts ≡ map g us = cc in checked (names_differ ts) (names_differ us) ts us (sym (names_still f keeps ts) ∙ ap names_differ same ∙ names_still g keep us) same

  listed_alike : (r : Result Items Refusal)
      → each f (and_then r (λ ds. and_then (types_of p ds) (λ ts. cond (names_differ ts) (Ok ts) (Err same_names))))
      ≡ each g (and_then r (λ ds. and_then (types_of q ds) (λ ts. cond (names_differ ts) (Ok ts) (Err same_names))))
  listed_alike (Err e) = refl
  listed_alike (Ok ds) = all_checked (types_of p ds) (types_of q ds) (of_types ds)

  pub declared_alike : (file : Data) → each f (declared_types p file) ≡ each g (declared_types q file)
  declared_alike file = listed_alike (listed file)

-- ---- the mark of discovered types

same_types : (r : Result (List ServedShape) Refusal) → and_then r (λ ts. Ok (map (λ t. t) ts)) ≡ r
same_types (Err e) = refl
same_types (Ok ts) = ap Ok (go ts)
  where
    go : (us : List ServedShape) → map (λ t. t) us ≡ us
    go [] = refl
    go (u ∷ us) = ap (λ vs. u ∷ vs) (go us)

pub discovery_is_a_mark : DiscoveryIsAMark
discovery_is_a_mark file =
    sym (same_types (declared_types Discovered file)) ∙ declared_alike Discovered Plain (λ t. t) discovered (λ g v p t. (refl, refl)) (λ g v p t. (refl, refl)) (λ g v k p all. refl) file

-- ---- refusals

abbrev names_alone : ServedShape → ServedShape
names_alone t = record t { shape = text; profile = Plain }

abbrev alone : Result (List ServedShape) Refusal → Result (List ServedShape) Refusal
alone = each names_alone

same_refusal : (r s : Result (List ServedShape) Refusal) (e : Refusal) → alone r ≡ alone s → r ≡ Err e → s ≡ Err e
same_refusal (Ok ts) s e h is = absurd cc
same_refusal (Err d) (Ok us) e h is = absurd cc
same_refusal (Err d) (Err c) e h is = sym h ∙ is

fails_alike : (fault : TypesFault) (r s : Result (List ServedShape) Refusal) → alone r ≡ alone s → FailsWith fault r → FailsWith fault s
fails_alike faults.UnknownKeyword r s h is = same_refusal r s _ h is
fails_alike faults.UnknownType r s h is = same_refusal r s _ h is
fails_alike faults.Misfit r s h is = same_refusal r s _ h is
fails_alike faults.TooDeep r s h is = same_refusal r s _ h is
fails_alike faults.SameNames r s h is = same_refusal r s _ h is
fails_alike faults.NotTheForm r s h is = same_refusal r s _ h is
fails_alike faults.Memory r s h is = tt

pub refused_alike : AreRefusedAlike
refused_alike p q file fault is =
    fails_alike fault (declared_types p file) (declared_types q file)
    (declared_alike p q names_alone names_alone (λ g v n t. (refl, refl)) (λ g v n t. (refl, refl)) (λ g v k n all. refl) file) is
