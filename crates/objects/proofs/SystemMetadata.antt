-- What the system says in `metadata`: it hides no other member, is read as it was put, and is taken off again.
use Rattle.std.proofs.Common.{◌≡◌, ◌<◌, ℕ, Bool, false, is_some, List, Option, Some, None, refl, sym, ap, ◌∙◌, subst}
use Rattle.std.specs.Prelude.{◌||◌, ◌^◌, codes, option_map, option_and_then}
use Rattle.std.specs.Str.{bytes_eq}
use Rattle.serde_json.specs.Data.{Num, unsigned, negative, float, Data, null, boolean, number, string, array, object, Members, put}
use Rattle.serde_json.specs.Find.{get_member, as_str, as_number, as_u64}
use Rattle.serde_json.specs.Written.{members_have_float}
use Rattle.serde_json.proofs.Views.{get_member-put, get_member-put_other}
use Rattle.fieldpath.specs.Encodable.{IsEncodable, IsEncodableNumber, MembersAreEncodable}
use Rattle.json_values.specs.Members.{less, text_at}
use Rattle.typed.proofs.Floats.{neither, put_clean}
use Rattle.objects.specs.Parts.{generation_in, less_life, less_life_if, less_system, stamp_in, system_if, system_in, system_of_uid, text_or_none, version_in}
use Rattle.objects.specs.ReadBack.{IsCounted}
use Rattle.objects.specs.SystemMetadata.{Stamp, System, is_system_name, put_deletion, put_life, put_system, put_uid, whole_value}
use Rattle.objects.proofs.Taken.{apart, found_encodable, less_absent, less_put, no_some, same_some}

-- ---- other members

module _ (k : List ℕ) (other : is_system_name k ≡ false) where
  abbrev is_deletion : Bool
  is_deletion = bytes_eq k (codes "deletionTimestamp") || bytes_eq k (codes "deletionGracePeriodSeconds")

  no_uid : (bytes_eq k (codes "uid") ≡ false) × ((bytes_eq k (codes "creationTimestamp") || (bytes_eq k (codes "generation") || is_deletion)) ≡ false)
  no_uid = neither (bytes_eq k (codes "uid")) (bytes_eq k (codes "creationTimestamp") || (bytes_eq k (codes "generation") || is_deletion)) other

  no_creation : (bytes_eq k (codes "creationTimestamp") ≡ false) × ((bytes_eq k (codes "generation") || is_deletion) ≡ false)
  no_creation = neither (bytes_eq k (codes "creationTimestamp")) (bytes_eq k (codes "generation") || is_deletion) no_uid.1

  no_generation : (bytes_eq k (codes "generation") ≡ false) × (is_deletion ≡ false)
  no_generation = neither (bytes_eq k (codes "generation")) is_deletion no_creation.1

  no_deletion : (bytes_eq k (codes "deletionTimestamp") ≡ false) × (bytes_eq k (codes "deletionGracePeriodSeconds") ≡ false)
  no_deletion = neither (bytes_eq k (codes "deletionTimestamp")) (bytes_eq k (codes "deletionGracePeriodSeconds")) no_generation.1

  past_deletion : (deleted : Option (List ℕ)) (ms : Members) → get_member k (put_deletion deleted ms) ≡ get_member k ms
  past_deletion None ms = refl
  past_deletion (Some moment) ms =
      get_member-put_other k (codes "deletionGracePeriodSeconds") (whole_value 0) (put (codes "deletionTimestamp") (string moment) ms) (apart k (codes "deletionGracePeriodSeconds") no_deletion.1)
      ∙ get_member-put_other k (codes "deletionTimestamp") (string moment) ms (apart k (codes "deletionTimestamp") no_deletion.0)

  past_life : (system : Option System) (ms : Members) → get_member k (put_life system ms) ≡ get_member k ms
  past_life None ms = refl
  past_life (Some s) ms =
      get_member-put_other k (codes "creationTimestamp") (string s.created) (put (codes "generation") (whole_value s.generation) (put_deletion s.deleted ms)) (apart k (codes "creationTimestamp") no_creation.0)
      ∙ get_member-put_other k (codes "generation") (whole_value s.generation) (put_deletion s.deleted ms) (apart k (codes "generation") no_generation.0) ∙ past_deletion s.deleted ms

  past_uid : (system : Option System) (ms : Members) → get_member k (put_uid system ms) ≡ get_member k ms
  past_uid None ms = refl
  past_uid (Some s) ms = get_member-put_other k (codes "uid") (string s.uid) ms (apart k (codes "uid") no_uid.0)

  pub past_system : (system : Option System) (ms : Members) → get_member k (put_system system ms) ≡ get_member k ms
  past_system system ms = past_uid system (put_life system ms) ∙ past_life system ms

-- ---- no floats

deletion_clean : (deleted : Option (List ℕ)) (ms : Members) → members_have_float ms ≡ false → members_have_float (put_deletion deleted ms) ≡ false
deletion_clean None ms clean = clean
deletion_clean (Some moment) ms clean =
    put_clean (codes "deletionGracePeriodSeconds") (whole_value 0) (put (codes "deletionTimestamp") (string moment) ms) refl (put_clean (codes "deletionTimestamp") (string moment) ms refl clean)

pub life_clean : (system : Option System) (ms : Members) → members_have_float ms ≡ false → members_have_float (put_life system ms) ≡ false
life_clean None ms clean = clean
life_clean (Some s) ms clean =
    put_clean (codes "creationTimestamp") (string s.created) (put (codes "generation") (whole_value s.generation) (put_deletion s.deleted ms)) refl
    (put_clean (codes "generation") (whole_value s.generation) (put_deletion s.deleted ms) refl (deletion_clean s.deleted ms clean))

pub system_clean : (system : Option System) (ms : Members) → members_have_float ms ≡ false → members_have_float (put_system system ms) ≡ false
system_clean None ms clean = clean
system_clean (Some s) ms clean = put_clean (codes "uid") (string s.uid) (put_life (Some s) ms) refl (life_clean (Some s) ms clean)

-- ---- taken off

-- none of the members that the system puts
abbrev pub HasNoSystem : Members → Type 0
HasNoSystem ms = (get_member (codes "uid") ms ≡ None) × (get_member (codes "creationTimestamp") ms ≡ None) × (get_member (codes "generation") ms ≡ None) × (get_member (codes "deletionTimestamp") ms ≡ None)
    × (get_member (codes "deletionGracePeriodSeconds") ms ≡ None)

module _ (ms : Members) (none : HasNoSystem ms) where
  other_deletion : (k : List ℕ) → (k ≡ codes "deletionGracePeriodSeconds" → ⊥) → (k ≡ codes "deletionTimestamp" → ⊥) → (deleted : Option (List ℕ)) → get_member k (put_deletion deleted ms) ≡ get_member k ms
  other_deletion k one two None = refl
  other_deletion k one two (Some moment) =
      get_member-put_other k (codes "deletionGracePeriodSeconds") (whole_value 0) (put (codes "deletionTimestamp") (string moment) ms) one ∙ get_member-put_other k (codes "deletionTimestamp") (string moment) ms two

  deletion_off : (deleted : Option (List ℕ)) → less (codes "deletionTimestamp") (less (codes "deletionGracePeriodSeconds") (put_deletion deleted ms)) ≡ ms
  deletion_off None = ap (less (codes "deletionTimestamp")) (less_absent (codes "deletionGracePeriodSeconds") ms none.4) ∙ less_absent (codes "deletionTimestamp") ms none.3
  deletion_off (Some moment) =
      ap (less (codes "deletionTimestamp")) (less_put (codes "deletionGracePeriodSeconds") (whole_value 0) (put (codes "deletionTimestamp") (string moment) ms)
      (get_member-put_other (codes "deletionGracePeriodSeconds") (codes "deletionTimestamp") (string moment) ms (apart (codes "deletionGracePeriodSeconds") (codes "deletionTimestamp") refl) ∙ none.4))
      ∙ less_put (codes "deletionTimestamp") (string moment) ms none.3

  module _ (s : System) where
    abbrev with_deletion : Members
    with_deletion = put_deletion s.deleted ms

    abbrev with_generation : Members
    with_generation = put (codes "generation") (whole_value s.generation) with_deletion

    abbrev with_life : Members
    with_life = put (codes "creationTimestamp") (string s.created) with_generation

    generation_free : get_member (codes "generation") with_deletion ≡ None
    generation_free =
        other_deletion (codes "generation") (apart (codes "generation") (codes "deletionGracePeriodSeconds") refl) (apart (codes "generation") (codes "deletionTimestamp") refl) s.deleted ∙ none.2

    creation_free : get_member (codes "creationTimestamp") with_generation ≡ None
    creation_free =
        get_member-put_other (codes "creationTimestamp") (codes "generation") (whole_value s.generation) with_deletion (apart (codes "creationTimestamp") (codes "generation") refl)
        ∙ other_deletion (codes "creationTimestamp") (apart (codes "creationTimestamp") (codes "deletionGracePeriodSeconds") refl) (apart (codes "creationTimestamp") (codes "deletionTimestamp") refl) s.deleted ∙ none.1

    uid_free : get_member (codes "uid") with_life ≡ None
    uid_free =
        get_member-put_other (codes "uid") (codes "creationTimestamp") (string s.created) with_generation (apart (codes "uid") (codes "creationTimestamp") refl)
        ∙ get_member-put_other (codes "uid") (codes "generation") (whole_value s.generation) with_deletion (apart (codes "uid") (codes "generation") refl)
        ∙ other_deletion (codes "uid") (apart (codes "uid") (codes "deletionGracePeriodSeconds") refl) (apart (codes "uid") (codes "deletionTimestamp") refl) s.deleted ∙ none.0

    life_off : less_life with_life ≡ ms
    life_off =
        ap (λ x. less (codes "deletionTimestamp") (less (codes "deletionGracePeriodSeconds") (less (codes "generation") x))) (less_put (codes "creationTimestamp") (string s.created) with_generation creation_free)
        ∙ ap (λ x. less (codes "deletionTimestamp") (less (codes "deletionGracePeriodSeconds") x)) (less_put (codes "generation") (whole_value s.generation) with_deletion generation_free)
        ∙ deletion_off s.deleted

  pub system_off : (system : Option System) → less_system (put_system system ms) ≡ ms
  system_off None = ap (λ b. less_life_if b (less (codes "uid") ms)) (ap is_some none.0) ∙ less_absent (codes "uid") ms none.0
  system_off (Some s) =
      ap (λ b. less_life_if b (less (codes "uid") (put_system (Some s) ms))) (ap is_some (get_member-put (codes "uid") (string s.uid) (with_life s)))
      ∙ ap less_life (less_put (codes "uid") (string s.uid) (with_life s) (uid_free s)) ∙ life_off s

-- ---- read back, of members that have these

abbrev pub Shows : Members → Members → Type 0
Shows metadata ms = (get_member (codes "uid") metadata ≡ get_member (codes "uid") ms) × (get_member (codes "creationTimestamp") metadata ≡ get_member (codes "creationTimestamp") ms)
    × (get_member (codes "generation") metadata ≡ get_member (codes "generation") ms) × (get_member (codes "deletionTimestamp") metadata ≡ get_member (codes "deletionTimestamp") ms)

module _ (metadata ms : Members) (none : HasNoSystem ms) where
  module _ (s : System) (shows : Shows metadata (put_system (Some s) ms)) where
    abbrev lived : Members
    lived = put_life (Some s) ms

    abbrev aged : Members
    aged = put (codes "generation") (whole_value s.generation) (put_deletion s.deleted ms)

    uid_there : get_member (codes "uid") metadata ≡ Some (string s.uid)
    uid_there = shows.0 ∙ get_member-put (codes "uid") (string s.uid) lived

    creation_there : get_member (codes "creationTimestamp") metadata ≡ Some (string s.created)
    creation_there =
        shows.1 ∙ get_member-put_other (codes "creationTimestamp") (codes "uid") (string s.uid) lived (apart (codes "creationTimestamp") (codes "uid") refl)
        ∙ get_member-put (codes "creationTimestamp") (string s.created) aged

    generation_there : get_member (codes "generation") metadata ≡ Some (whole_value s.generation)
    generation_there =
        shows.2 ∙ get_member-put_other (codes "generation") (codes "uid") (string s.uid) lived (apart (codes "generation") (codes "uid") refl)
        ∙ get_member-put_other (codes "generation") (codes "creationTimestamp") (string s.created) aged (apart (codes "generation") (codes "creationTimestamp") refl)
        ∙ get_member-put (codes "generation") (whole_value s.generation) (put_deletion s.deleted ms)

    deleted_in : (deleted : Option (List ℕ)) → text_or_none (get_member (codes "deletionTimestamp") (put_deletion deleted ms)) ≡ Some deleted
    deleted_in None = ap text_or_none none.3
    deleted_in (Some moment) =
        ap text_or_none (get_member-put_other (codes "deletionTimestamp") (codes "deletionGracePeriodSeconds") (whole_value 0) (put (codes "deletionTimestamp") (string moment) ms)
        (apart (codes "deletionTimestamp") (codes "deletionGracePeriodSeconds") refl) ∙ get_member-put (codes "deletionTimestamp") (string moment) ms)

    deleted_there : text_or_none (get_member (codes "deletionTimestamp") metadata) ≡ Some s.deleted
    deleted_there =
        ap text_or_none (shows.3 ∙ get_member-put_other (codes "deletionTimestamp") (codes "uid") (string s.uid) lived (apart (codes "deletionTimestamp") (codes "uid") refl)
        ∙ get_member-put_other (codes "deletionTimestamp") (codes "creationTimestamp") (string s.created) aged (apart (codes "deletionTimestamp") (codes "creationTimestamp") refl)
        ∙ get_member-put_other (codes "deletionTimestamp") (codes "generation") (whole_value s.generation) (put_deletion s.deleted ms) (apart (codes "deletionTimestamp") (codes "generation") refl))
        ∙ deleted_in s.deleted

    with_uid_back : system_of_uid s.uid metadata ≡ Some s
    with_uid_back =
        ap (λ o. option_and_then (λ created. option_and_then (λ generation. option_map {U = System} (λ deleted. record { uid = s.uid; created = created; generation = generation; deleted = deleted })
        (text_or_none (get_member (codes "deletionTimestamp") metadata))) (generation_in metadata)) (option_and_then as_str o)) creation_there
        ∙ ap (λ o. option_and_then (λ generation. option_map {U = System} (λ deleted. record { uid = s.uid; created = s.created; generation = generation; deleted = deleted })
        (text_or_none (get_member (codes "deletionTimestamp") metadata))) (option_and_then as_u64 (option_and_then as_number o))) generation_there
        ∙ ap (option_map {U = System} (λ deleted. record { uid = s.uid; created = s.created; generation = s.generation; deleted = deleted })) deleted_there

  pub system_back : (system : Option System) → Shows metadata (put_system system ms) → system_in metadata ≡ Some system
  system_back None shows = ap (λ o. option_and_then (λ uid. system_if uid metadata) (text_or_none o)) (shows.0 ∙ none.0)
  system_back (Some s) shows =
      ap (λ o. option_and_then (λ uid. system_if uid metadata) (text_or_none o)) (uid_there s shows) ∙ ap (option_map {T = System} Some) (with_uid_back s shows)

-- ---- a generation that is read is one of 64 bits

pub then_some : {A B : Type 0} (f : A → Option B) (o : Option A) (y : B) → option_and_then f o ≡ Some y → (x : A) × (o ≡ Some x) × (f x ≡ Some y)
then_some f None y e = no_some y (sym e)
then_some f (Some x) y e = (x, refl, e)

pub map_some : {A B : Type 0} (f : A → B) (o : Option A) (y : B) → option_map f o ≡ Some y → (x : A) × (o ≡ Some x) × (f x ≡ y)
map_some f None y e = no_some y (sym e)
map_some f (Some x) y e = (x, refl, same_some (f x) y e)

whole_number : (n : Num) (g : ℕ) → IsEncodableNumber n → as_u64 n ≡ Some g → g < 2 ^ 64
whole_number (unsigned n) g encodable is = subst (λ x. x < 2 ^ 64) (same_some n g is) encodable
whole_number (negative z) g encodable is = no_some g (sym is)
whole_number (float x) g encodable is = no_some g (sym is)

number_of_data : (d : Data) (n : Num) → IsEncodable d → as_number d ≡ Some n → IsEncodableNumber n
number_of_data null n encodable is = no_some n (sym is)
number_of_data (boolean b) n encodable is = no_some n (sym is)
number_of_data (number m) n encodable is = subst IsEncodableNumber (same_some m n is) encodable
number_of_data (string t) n encodable is = no_some n (sym is)
number_of_data (array ds) n encodable is = no_some n (sym is)
number_of_data (object ms) n encodable is = no_some n (sym is)

module _ (metadata : Members) (encodable : MembersAreEncodable metadata) where
  generation_counted : (g : ℕ) → generation_in metadata ≡ Some g → g < 2 ^ 64
  generation_counted g is =
      let numeral = then_some as_u64 (option_and_then as_number (get_member (codes "generation") metadata)) g is in
      let value = then_some as_number (get_member (codes "generation") metadata) numeral.0 numeral.1 in
      whole_number numeral.0 g (number_of_data value.0 numeral.0 (found_encodable (codes "generation") value.0 metadata encodable value.1) value.2) numeral.2

  uid_counted : (uid : List ℕ) (s : System) → system_of_uid uid metadata ≡ Some s → s.generation < 2 ^ 64
  uid_counted uid s is =
      let created = then_some (λ created. option_and_then (λ generation. option_map {U = System} (λ deleted. record { uid = uid; created = created; generation = generation; deleted = deleted })
      (text_or_none (get_member (codes "deletionTimestamp") metadata))) (generation_in metadata)) (text_at (codes "creationTimestamp") metadata) s is in
      let generation = then_some (λ generation. option_map {U = System} (λ deleted. record { uid = uid; created = created.0; generation = generation; deleted = deleted })
      (text_or_none (get_member (codes "deletionTimestamp") metadata))) (generation_in metadata) s created.2 in
      let deleted = map_some {B = System} (λ deleted. record { uid = uid; created = created.0; generation = generation.0; deleted = deleted }) (text_or_none (get_member (codes "deletionTimestamp") metadata)) s generation.2 in
      subst (λ x. x.generation < 2 ^ 64) deleted.2 (generation_counted generation.0 generation.1)

  if_counted : (uid : Option (List ℕ)) (system : Option System) → system_if uid metadata ≡ Some system → IsCounted system
  if_counted None system is = subst IsCounted (same_some None system is) tt
  if_counted (Some uid) system is =
      let said = map_some {A = System} Some (system_of_uid uid metadata) system is in subst IsCounted said.2 (uid_counted uid said.0 said.1)

  pub stamp_counted : (stamp : Stamp) → stamp_in metadata ≡ Some stamp → IsCounted stamp.system
  stamp_counted stamp is =
      let version = then_some (λ version. option_map {U = Stamp} (λ system. record { version = version; system = system }) (system_in metadata)) (version_in metadata) stamp is in
      let system = map_some {B = Stamp} (λ system. record { version = version.0; system = system }) (system_in metadata) stamp version.2 in
      let uid = then_some (λ uid. system_if uid metadata) (text_or_none (get_member (codes "uid") metadata)) system.0 system.1 in
      subst (λ x. IsCounted x.system) system.2 (if_counted uid.0 system.0 uid.2)
