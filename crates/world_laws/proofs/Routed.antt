-- The path by which a client asks for the objects of a type: what its bytes are, and where it leads.
use Rattle.std.proofs.Common.{◌≡◌, ◌≢◌, ℕ, ◌<◌, ◌==◌, ◌&&◌, Bool, true, false, cond, List, [], ◌∷◌, ◌++◌, All, length, Option, Some, None, codes, refl, sym, ap, subst, ◌∙◌, arith, append_assoc, lt-ltb, ne_eqb}
use Rattle.std.proofs.lemmas.Bool.{and_from, and_parts}
use Rattle.std.proofs.lemmas.Bool.Decides.{nat_tests}
use Rattle.std.proofs.lemmas.List.Elements.{All-append, All-cons, All-head, All-nil, All-tail, All-weaker}
use Rattle.std.proofs.lemmas.List.Folds.{list_any_none}
use Rattle.std.proofs.lemmas.List.Splits.{join_with_byte-slice_split}
use Rattle.std.proofs.lemmas.List.Sums.{AllPass-from_list_all}
use Rattle.std.specs.Prelude.{nat_lt}
use Rattle.std.specs.Char.{is_ascii}
use Rattle.std.specs.List.{AllByRecursion, join_with_byte, list_all, list_any, slice_split}
use Rattle.matchit.specs.Seek.{has_slash}
use Rattle.names.specs.Names.{is_dns_byte, is_dns_label, is_dns_part, is_dns_subdomain}
use Rattle.api_types.specs.Names.{is_kind_name, is_plural}
use Rattle.api_types.specs.TypesFile.{ServedShape, type_number}
use Rattle.api_request.specs.declared.resource.Resource.{Resource}
use Rattle.api_request.specs.declared.resource.Resource.TheVariants.{AllNamespaces, Collection}
use Rattle.api_request.specs.Admit.{place_of}
use Rattle.api_request.specs.RouteLaws.{IsPart, path_of, place_for}
use Rattle.api_request.proofs.Leading.{paths_of_all, paths_of_collections}
use Rattle.reflector.specs.Faults.{is_namespace_or_all}
use Rattle.reflector.specs.Requests as requests
use Rattle.wire_laws.specs.Printed.{is_question}
use Rattle.world_laws.specs.Tasks.{IsTask, Task, wanted_by}

-- ---- bytes

-- a printable byte, and no blank and no question mark
pub record IsPathByte (b : ℕ) : Type 0 where
  pub above : 32 < b
  pub below : b < 127
  pub unmarked : b ≢ 63

-- and no slash
pub record IsNameByte (b : ℕ) : Type 0 where
  pub in_path : IsPathByte b
  pub inner : b ≢ 47

abbrev is_past_marks : ℕ → Bool
is_past_marks b = nat_lt 63 b && nat_lt b 127

dns_byte : (b : ℕ) → is_dns_byte b ≡ true → IsNameByte b
dns_byte b is = record {
  in_path = record { above = grind (arith, nat_tests); below = grind (arith, nat_tests); unmarked = λ e. grind (arith, nat_tests) };
  inner = λ e. grind (arith, nat_tests);
}

dot_byte : IsNameByte 46
dot_byte = record { in_path = record { above = omega arith; below = omega arith; unmarked = λ e. omega arith }; inner = λ e. omega arith }

slash_byte : IsPathByte 47
slash_byte = record { above = omega arith; below = omega arith; unmarked = λ e. omega arith }

-- ---- names

part_bytes : (text : List ℕ) → is_dns_part text ≡ true → All IsNameByte text
part_bytes text is = All-weaker (λ b. is_dns_byte b ≡ true) IsNameByte dns_byte text (AllPass-from_list_all is_dns_byte text (and_parts _ (list_all is_dns_byte text) is).1)

label_is_part : (text : List ℕ) → is_dns_label text ≡ true → is_dns_part text ≡ true
label_is_part text is = (and_parts _ (is_dns_part text) is).1

joined_bytes : (parts : List (List ℕ)) → list_all is_dns_part parts ≡ true → All IsNameByte (join_with_byte 46 parts)
joined_bytes [] all = All-nil IsNameByte
joined_bytes (part ∷ []) all = part_bytes part (and_parts (is_dns_part part) true all).0
joined_bytes (part ∷ next ∷ parts) all =
    let both = and_parts (is_dns_part part) (list_all is_dns_part (next ∷ parts)) all in
    let others : List ℕ = join_with_byte 46 (next ∷ parts) in
    All-append IsNameByte part (46 ∷ others) (part_bytes part both.0) (All-cons IsNameByte 46 others dot_byte (joined_bytes (next ∷ parts) both.1))

subdomain_bytes : (text : List ℕ) → is_dns_subdomain text ≡ true → All IsNameByte text
subdomain_bytes text is = subst (All IsNameByte) (join_with_byte-slice_split 46 text) (joined_bytes (slice_split (λ b. b == 46) text) (and_parts _ (list_all is_dns_part (slice_split (λ b. b == 46) text)) is).1)

-- ---- names as parts of a path

all_ascii : (text : List ℕ) → All IsNameByte text → list_all is_ascii text ≡ true
all_ascii [] all = refl
all_ascii (b ∷ bs) all =
    let low : b < 127 = (All-head IsNameByte b bs all).in_path.below in
    and_from (is_ascii b) (list_all is_ascii bs) (lt-ltb b 128 (omega (arith, low))) (all_ascii bs (All-tail IsNameByte b bs all))

no_slash : (text : List ℕ) → All IsNameByte text → has_slash text ≡ false
no_slash [] all = refl
no_slash (b ∷ bs) all = ap (λ t. cond t true (has_slash bs)) (ne_eqb b 47 (All-head IsNameByte b bs all).inner) ∙ no_slash bs (All-tail IsNameByte b bs all)

is_part : (text : List ℕ) → 0 < length text → All IsNameByte text → IsPart text
is_part text some all = record { some = some; ascii = all_ascii text all; whole = no_slash text all }

some_in_part : (text : List ℕ) → is_dns_part text ≡ true → 0 < length text
some_in_part [] is = absurd cc
some_in_part (b ∷ bs) is = omega arith

some_in_subdomain : (text : List ℕ) → is_dns_subdomain text ≡ true → 0 < length text
some_in_subdomain [] is = absurd cc
some_in_subdomain (b ∷ bs) is = omega arith

-- a name: a part of a path, whose bytes may stand there
pub record IsName (text : List ℕ) : Type 0 where
  pub is_part : IsPart text
  pub bytes : All IsPathByte text

named : (text : List ℕ) → 0 < length text → All IsNameByte text → IsName text
named text some all = record { is_part = is_part text some all; bytes = All-weaker IsNameByte IsPathByte (λ b is. is.in_path) text all }

label_named : (text : List ℕ) → is_dns_label text ≡ true → IsName text
label_named text is = let part = label_is_part text is in named text (some_in_part text part) (part_bytes text part)

subdomain_named : (text : List ℕ) → is_dns_subdomain text ≡ true → IsName text
subdomain_named text is = named text (some_in_subdomain text is) (subdomain_bytes text is)

-- ---- the path

abbrev pub parts_of : ServedShape → Option (List ℕ) → List (List ℕ)
parts_of t None = codes "apis" ∷ t.group ∷ t.version ∷ t.plural ∷ []
parts_of t (Some namespace) = codes "apis" ∷ t.group ∷ t.version ∷ codes "namespaces" ∷ namespace ∷ t.plural ∷ []

abbrev pub resource_for : Option (List ℕ) → Resource
resource_for None = AllNamespaces
resource_for (Some namespace) = Collection

joined_path : (parts : List (List ℕ)) → AllByRecursion (All IsPathByte) parts → All IsPathByte (join_with_byte 47 parts)
joined_path [] all = All-nil IsPathByte
joined_path (part ∷ []) all = all.0
joined_path (part ∷ next ∷ parts) all =
    let others : List ℕ = join_with_byte 47 (next ∷ parts) in
    All-append IsPathByte part (47 ∷ others) all.0 (All-cons IsPathByte 47 others slash_byte (joined_path (next ∷ parts) all.1))

letter : (b : ℕ) → is_past_marks b ≡ true → IsPathByte b
letter b is = record { above = grind (arith, nat_tests); below = grind (arith, nat_tests); unmarked = λ e. grind (arith, nat_tests) }

letters : (text : List ℕ) → list_all is_past_marks text ≡ true → All IsPathByte text
letters text all = All-weaker (λ b. is_past_marks b ≡ true) IsPathByte letter text (AllPass-from_list_all is_past_marks text all)

pub unasked : (path : List ℕ) → All IsPathByte path → list_any is_question path ≡ false
unasked path all = list_any_none is_question path (All-weaker IsPathByte (λ b. is_question b ≡ false) (λ b is. ne_eqb b 63 is.unmarked) path all)

joined : (g v n p : List ℕ) → g ++ codes "/" ++ v ++ n ++ codes "/" ++ p ≡ g ++ (47 ∷ (v ++ (n ++ 47 ∷ p)))
joined g v n p =
    append_assoc (g ++ codes "/" ++ v ++ n) (codes "/") p ∙ append_assoc (g ++ codes "/" ++ v) n (47 ∷ p) ∙ append_assoc (g ++ codes "/") v (n ++ 47 ∷ p)
    ∙ append_assoc g (codes "/") (v ++ (n ++ 47 ∷ p))

module _ (types : List ServedShape) (task : Task) (is : IsTask types task) where
  group_named : IsName task.t.group
  group_named = subdomain_named task.t.group (and_parts (is_dns_subdomain task.t.group) (is_dns_label task.t.version && (is_kind_name task.t.kind && is_plural task.t.plural)) is.named).0

  others_named : IsName task.t.version × IsName task.t.plural
  others_named =
      let others = (and_parts (is_dns_subdomain task.t.group) (is_dns_label task.t.version && (is_kind_name task.t.kind && is_plural task.t.plural)) is.named).1 in
      let version = and_parts (is_dns_label task.t.version) (is_kind_name task.t.kind && is_plural task.t.plural) others in
      let plural = (and_parts (is_kind_name task.t.kind) (is_plural task.t.plural) version.1).1 in
      (label_named task.t.version version.0, label_named task.t.plural (and_parts (is_dns_label task.t.plural) _ plural).0)

  path_by : (namespace : Option (List ℕ)) → requests.path_of (record (wanted_by task) { namespace = namespace }) ≡ path_of (parts_of task.t namespace)
  path_by None = ap (λ l. codes "/apis/" ++ l) (joined task.t.group task.t.version [] task.t.plural)
  path_by (Some namespace) = ap (λ l. codes "/apis/" ++ l) (joined task.t.group task.t.version (codes "/namespaces/" ++ namespace) task.t.plural)

  bytes_by : (namespace : Option (List ℕ)) → is_namespace_or_all namespace ≡ true → All IsPathByte (path_of (parts_of task.t namespace))
  bytes_by None own =
      All-cons IsPathByte 47 (join_with_byte 47 (parts_of task.t None)) slash_byte
      (joined_path (parts_of task.t None) (letters (codes "apis") refl, (group_named.bytes, (others_named.0.bytes, (others_named.1.bytes, tt)))))
  bytes_by (Some namespace) own =
      All-cons IsPathByte 47 (join_with_byte 47 (parts_of task.t (Some namespace))) slash_byte
      (joined_path (parts_of task.t (Some namespace))
      (letters (codes "apis") refl, (group_named.bytes, (others_named.0.bytes, (letters (codes "namespaces") refl, ((label_named namespace own).bytes, (others_named.1.bytes, tt)))))))

  place_by : (namespace : Option (List ℕ)) → is_namespace_or_all namespace ≡ true
      → place_of types (path_of (parts_of task.t namespace)) ≡ place_for (resource_for namespace) namespace None (type_number task.t.group task.t.version task.t.plural types)
  place_by None own = paths_of_all types task.t.group task.t.version task.t.plural group_named.is_part others_named.0.is_part others_named.1.is_part
  place_by (Some namespace) own =
      paths_of_collections types task.t.group task.t.version namespace task.t.plural group_named.is_part others_named.0.is_part (label_named namespace own).is_part others_named.1.is_part

  pub path_bytes : All IsPathByte (requests.path_of (wanted_by task))
  path_bytes = subst (All IsPathByte) (sym (path_by task.settings.namespace)) (bytes_by task.settings.namespace is.namespace)

  pub path_reaches : place_of types (requests.path_of (wanted_by task)) ≡ Some (record { resource = resource_for task.settings.namespace; kind = task.settings.kind; namespace = task.settings.namespace; name = None })
  path_reaches =
      ap (place_of types) (path_by task.settings.namespace) ∙ place_by task.settings.namespace is.namespace
      ∙ ap (place_for (resource_for task.settings.namespace) task.settings.namespace None) is.numbered
