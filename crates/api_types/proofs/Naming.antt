-- Types that are read have lawful names.
use Rattle.std.proofs.Common.{◌≡◌, ◌&&◌, ◌||◌, ℕ, ap, ap₂, refl, subst, cond, List, [], ◌∷◌, Bool, true, false, Option, Some, None, Result, Ok, Err, codes}
use Rattle.std.proofs.lemmas.Bool.{and_parts}
use Rattle.std.proofs.lemmas.List.Elements.{All-nil, All-cons, All-head, All-tail}
use Rattle.std.specs.List.{All, list_all}
use Rattle.serde_json.specs.Data.{Data, Items, no_items, item}
use Rattle.serde_json.specs.Find.{get_member, as_object}
use Rattle.names.specs.Names.{is_dns_label, is_dns_subdomain}
use Rattle.json_values.specs.Members.{text_at}
use Rattle.api_types.specs.ChangeLaws.{FilesMarkNone}
use Rattle.api_types.specs.ProfileLaws.{AllFollow}
use Rattle.api_types.specs.Profiles.{is_discovered}
use Rattle.api_types.specs.Discovered.{are_discovered}
use Rattle.api_types.specs.Named.{are_named, has_names}
use Rattle.api_types.specs.Names.{is_kind_name, is_plural}
use Rattle.api_types.specs.Refusals.{Refusal, and_then, not_the_form, same_names, some_or}
use Rattle.schema.specs.Shape.{text}
use Rattle.api_types.specs.declared.profile.Profile.{Profile}
use Rattle.api_types.specs.declared.profile.Profile.TheVariants.{Plain}
use Rattle.api_types.specs.TypesFile.{ServedShape, listed, names_differ, object_of, one_type, text_where, type_members, type_of, type_shape, types_of}

passed : {A B : Type 0} (r : Result A Refusal) (f : A → Result B Refusal) (b : B) → and_then r f ≡ Ok b → (a : A) × (r ≡ Ok a) × (f a ≡ Ok b)
passed (Ok a) f b is = (a, refl, is)
passed (Err e) f b is = absurd cc

where_holds : (p : List ℕ → Bool) (o : Option (List ℕ)) (s : List ℕ) → text_where p o ≡ Ok s → p s ≡ true
where_holds p None s is = absurd cc
where_holds p (Some x) s is = go (p x) refl is
  where
    go : (b : Bool) → p x ≡ b → cond b (Ok x) (Err not_the_form) ≡ Ok s → p s ≡ true
    go true holds e = let same : x ≡ s = cc in subst (λ (y : List ℕ). p y ≡ true) same holds
    go false holds e = absurd cc

both : (a b : Bool) → a ≡ true → b ≡ true → (a && b) ≡ true
both true b x y = y
both false b x y = absurd cc

none_named : ServedShape
none_named = record { group = []; version = []; kind = []; plural = []; shape = text; profile = Plain }

abbrev ok_part : Result ServedShape Refusal → ServedShape
ok_part (Ok t) = t
ok_part (Err e) = none_named

-- and the profile that they are read for
pub type_read : (p : Profile) (d : Data) (t : ServedShape) → type_of p d ≡ Ok t → (has_names t ≡ true) × (t.profile ≡ p)
type_read p d t is =
    let a = passed (object_of type_members (as_object d)) _ t is in
    let ms = a.0 in
    let group = passed (text_where is_dns_subdomain (text_at (codes "group") ms)) _ t a.2 in
    let version = passed (text_where is_dns_label (text_at (codes "version") ms)) _ t group.2 in
    let kind = passed (text_where is_kind_name (text_at (codes "kind") ms)) _ t version.2 in
    let plural = passed (text_where is_plural (text_at (codes "plural") ms)) _ t kind.2 in
    let found = passed (some_or not_the_form (get_member (codes "schema") ms)) _ t plural.2 in
    let shaped = passed (type_shape p (as_object found.0)) _ t found.2 in
    let made : ServedShape = record { group = group.0; version = version.0; kind = kind.0; plural = plural.0; shape = shaped.0; profile = p } in
    let same : made ≡ t = ap ok_part shaped.2 in
    subst (λ (u : ServedShape). (has_names u ≡ true) × (u.profile ≡ p)) same
    (both _ _ (where_holds is_dns_subdomain (text_at (codes "group") ms) group.0 group.1) (both _ _ (where_holds is_dns_label (text_at (codes "version") ms) version.0 version.1) (both _ _ (where_holds is_kind_name (text_at (codes "kind") ms) kind.0 kind.1) (where_holds is_plural (text_at (codes "plural") ms) plural.0 plural.1))), refl)

one_read : (r : Result ServedShape Refusal) (rest : Result (List ServedShape) Refusal) (ts : List ServedShape) → one_type r rest ≡ Ok ts
    → (t : ServedShape) × (us : List ServedShape) × (r ≡ Ok t) × (rest ≡ Ok us) × (t ∷ us ≡ ts)
one_read (Err e) rest ts is = absurd cc
one_read (Ok t) (Err e) ts is = absurd cc
one_read (Ok t) (Ok us) ts is = (t, us, refl, refl, cc)

pub all_named : (p : Profile) (ds : Items) (ts : List ServedShape) → types_of p ds ≡ Ok ts → list_all has_names ts ≡ true
all_named p no_items ts is = let none : [] ≡ ts = cc in subst (λ (us : List ServedShape). list_all has_names us ≡ true) none refl
all_named p (item d ds) ts is =
    let one = one_read (type_of p d) (types_of p ds) ts is in
    subst (λ (us : List ServedShape). list_all has_names us ≡ true) one.4 (both _ _ (type_read p d one.0 one.2).0 (all_named p ds one.1 one.3))

follow : (p : Profile) (ds : Items) (ts : List ServedShape) → types_of p ds ≡ Ok ts → All (λ t. t.profile ≡ p) ts
follow p no_items ts is = let none : [] ≡ ts = cc in subst (λ (us : List ServedShape). All (λ t. t.profile ≡ p) us) none (All-nil (λ t. t.profile ≡ p))
follow p (item d ds) ts is =
    let one = one_read (type_of p d) (types_of p ds) ts is in
    subst (λ (us : List ServedShape). All (λ t. t.profile ≡ p) us) one.4 (All-cons (λ t. t.profile ≡ p) one.0 one.1 (type_read p d one.0 one.2).1 (follow p ds one.1 one.3))

pub all_follow : AllFollow
all_follow p file types is =
    let ds = passed (listed file) _ types is in
    let ts = passed (types_of p ds.0) _ types ds.2 in
    go (names_differ ts.0) ts.0 ts.2 (follow p ds.0 ts.0 ts.1)
  where
    go : (b : Bool) (us : List ServedShape) → cond b (Ok us) (Err same_names) ≡ Ok types → All (λ t. t.profile ≡ p) us → All (λ t. t.profile ≡ p) types
    go true us e all = let same : us ≡ types = cc in subst (λ (vs : List ServedShape). All (λ t. t.profile ≡ p) vs) same all
    go false us e all = absurd cc

none_marked : (ts : List ServedShape) → All (λ t. t.profile ≡ Plain) ts → are_discovered ts ≡ false
none_marked [] all = refl
none_marked (t ∷ ts) all =
    let plain : ServedShape → Type 0 = λ u. u.profile ≡ Plain in ap₂ (λ a b. a || b) (ap is_discovered (All-head plain t ts all)) (none_marked ts (All-tail plain t ts all))

pub file_marks_none : FilesMarkNone
file_marks_none file types is = none_marked types (all_follow Plain file types is)

pub named : (p : Profile) (ds : Items) (ts : List ServedShape) → types_of p ds ≡ Ok ts → names_differ ts ≡ true → are_named ts ≡ true
unfolding are_named
named p ds ts is apart = both (list_all has_names ts) (names_differ ts) (all_named p ds ts is) apart

pub named_parts : (ts : List ServedShape) → are_named ts ≡ true → (list_all has_names ts ≡ true) × (names_differ ts ≡ true)
unfolding are_named
named_parts ts h = and_parts (list_all has_names ts) (names_differ ts) h

all_have : (ts : List ServedShape) → list_all has_names ts ≡ true → All (λ t. has_names t ≡ true) ts
all_have [] h = All-nil (λ t. has_names t ≡ true)
all_have (t ∷ ts) h = let parts = and_parts (has_names t) (list_all has_names ts) h in All-cons (λ u. has_names u ≡ true) t ts parts.0 (all_have ts parts.1)

pub named_all : (ts : List ServedShape) → are_named ts ≡ true → All (λ t. has_names t ≡ true) ts
named_all ts h = all_have ts (named_parts ts h).0
