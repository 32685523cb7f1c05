-- What a client takes from the body of a list.
use Rattle.std.proofs.Common.{◌≡◌, ℕ, ◌≤◌, max, Bool, true, false, cond, List, [], ◌∷◌, ◌++◌, map, Option, Some, None, option_map, IsUtf8, refl, sym, ap, ap₂, ◌∙◌, arith, zero-le}
use Rattle.std.specs.Prelude.{◌||◌, codes, decimal, option_and_then}
use Rattle.std.specs.Str.{is_utf8}
use Rattle.std.specs.declared.result.Result.TheVariants.{Ok, Err}
use Rattle.std.proofs.lemmas.Str.{is_utf8-from_IsUtf8}
use Rattle.serde_json.specs.Data.{Data, Items, no_items, item, depth, items_depth}
use Rattle.serde_json.specs.Read.{read, max_depth}
use Rattle.serde_json.specs.Written.{compact_text, has_float, items_have_float}
use Rattle.fieldpath.specs.Encodable.{IsEncodable, AreEncodable}
use Rattle.fieldpath.proofs.Encodable.{compact-read}
use Rattle.names.specs.Decimals.{version_of}
use Rattle.history.specs.History.{Key, Object}
use Rattle.history.specs.Seen.{SeenPage}
use Rattle.lists.specs.Body.{Collection, continued_at, item_texts, joined_text, list_text, list_value, metadata_of}
use Rattle.lists.proofs.Values.{lists_are_json}
use Rattle.objects.specs.ObjectText.{object_value}
use Rattle.objects.specs.SystemMetadata.{stamped}
use Rattle.objects.specs.ReadBack.{max_version}
use Rattle.objects.proofs.Back.{text_read}
use Rattle.indexer.specs.Objects.{Stored}
use Rattle.decoder.specs.declared.malformed.Malformed.TheVariants.{ApiVersion, Json, Kind, Version}
use Rattle.json_values.specs.Texts.{unless_empty}
use Rattle.decoder.specs.Members.{Read, ◌>>=◌, is_text, or_malformed, unless}
use Rattle.decoder.specs.Objects.{object_of}
use Rattle.decoder.specs.Pages.{Page, objects_of, page_in, page_of}
use Rattle.decoder.specs.Wanted.{Wanted, api_version_of, is_in}
use Rattle.line_laws.specs.Listed.{AreReadAs, AreWanted, IsKept, IsReadAs, IsReadAsPage, IsWanted, identity_of, page_with}
use Rattle.line_laws.specs.Shown.{HasPlace, IsShown, IsStored}
use Rattle.line_laws.proofs.Objects.{object_read}
use Rattle.line_laws.proofs.Renumbered.{value_within}
use Rattle.line_laws.proofs.Said.{itself, joined_filled, object_shown, version_back, version_filled}

abbrev Entries : Type 0
Entries = List (Key × Object)

-- ---- the text as JSON

list_encodable : (of : Collection) (revision : ℕ) (token : Option (List ℕ)) (ds : Items) → AreEncodable ds → IsEncodable (list_value of (metadata_of revision token) ds)
list_encodable of revision None ds are = (refl, (tt, (are, (tt, ((refl, (tt, tt)), tt)))))
list_encodable of revision (Some t) ds are = (refl, (tt, (are, (tt, ((refl, (tt, (tt, tt))), tt)))))

list_whole : (of : Collection) (revision : ℕ) (token : Option (List ℕ)) (ds : Items) → items_have_float ds ≡ false → has_float (list_value of (metadata_of revision token) ds) ≡ false
list_whole of revision None ds none = ap (λ b. b || false) none
list_whole of revision (Some t) ds none = ap (λ b. b || false) none

list_shallow : (of : Collection) (revision : ℕ) (token : Option (List ℕ)) (ds : Items) → items_depth ds ≤ 22 → depth (list_value of (metadata_of revision token) ds) ≤ max_depth
list_shallow of revision None ds low = omega (arith, low)
list_shallow of revision (Some t) ds low = omega (arith, low)

list_read : (of : Collection) (revision : ℕ) (token : Option (List ℕ)) (ds : Items) → AreEncodable ds → items_have_float ds ≡ false → items_depth ds ≤ 22
    → read (joined_text of (metadata_of revision token) (item_texts ds)) ≡ Some (list_value of (metadata_of revision token) ds)
list_read of revision token ds are none low =
    ap read (lists_are_json of (metadata_of revision token) ds)
    ∙ compact-read (list_value of (metadata_of revision token) ds) (list_encodable of revision token ds are) (list_whole of revision token ds none) (list_shallow of revision token ds low)

-- ---- the page that the value is

-- what is read, by what is found
abbrev of_found : Wanted → Option (List ℕ) → Option (List ℕ) → Option (List ℕ) → Read (Option (List ℕ)) → Read (List Stored) → Read Page
of_found wanted api_version kind version token objects =
    (unless (is_text (api_version_of wanted) api_version) ApiVersion >>= λ u. unless (is_text (wanted.kind ++ codes "List") kind) Kind) >>= λ u.
    or_malformed Version (option_and_then version_of version) >>= λ r.
    token >>= λ t.
    objects >>= λ os.
    Ok (record { revision = r; token = t; objects = os })

abbrev goes_on : Option (List ℕ) → Read (Option (List ℕ))
goes_on None = Ok None
goes_on (Some t) = Ok (unless_empty t)

found_is : (wanted : Wanted) (of : Collection) (revision : ℕ) (token : Option (List ℕ)) (ds : Items)
    → page_of wanted (list_value of (metadata_of revision token) ds)
    ≡ of_found wanted (unless_empty of.api_version) (unless_empty (of.item_kind ++ codes "List")) (unless_empty (decimal revision)) (goes_on token) (objects_of wanted ds)
found_is wanted of revision None ds = refl
found_is wanted of revision (Some t) ds = refl

filled_by : (prefix : List ℕ) (b : ℕ) (back : List ℕ) → unless_empty (prefix ++ b ∷ back) ≡ Some (prefix ++ b ∷ back)
filled_by [] b back = refl
filled_by (x ∷ prefix) b back = refl

token_goes_on : (revision : ℕ) (next : Option Key) → goes_on (option_map (continued_at revision) next) ≡ Ok (option_map (continued_at revision) next)
token_goes_on revision None = refl
token_goes_on revision (Some k) = ap (λ t. Ok t) (filled_by (decimal revision) 46 (k.namespace ++ 46 ∷ k.name))

page_read : (wanted : Wanted) (of : Collection) (revision : ℕ) (next : Option Key) (ds : Items) (objects : List Stored) → IsWanted wanted of → revision ≤ max_version → objects_of wanted ds ≡ Ok objects
    → page_of wanted (list_value of (metadata_of revision (option_map (continued_at revision) next)) ds) ≡ Ok (page_with revision next objects)
page_read wanted of revision next ds objects is low are =
    let token = option_map (continued_at revision) next in
    let api_version = api_version_of wanted in
    let kind = wanted.kind ++ codes "List" in
    found_is wanted of revision token ds
    ∙ ap₂ (λ a k. of_found wanted a k (unless_empty (decimal revision)) (goes_on token) (objects_of wanted ds))
    (ap unless_empty is.of_version ∙ joined_filled wanted.group wanted.version) (ap (λ k. unless_empty (k ++ codes "List")) is.of_kind ∙ filled_by wanted.kind 76 (codes "ist"))
    ∙ ap₂ (λ t os. of_found wanted (Some api_version) (Some kind) (unless_empty (decimal revision)) t os) (token_goes_on revision next) are
    ∙ ap (λ v. of_found wanted (Some api_version) (Some kind) v (Ok token) (Ok objects)) (version_filled (decimal revision) revision (version_back revision low))
    ∙ ap₂ (λ p q. (unless p ApiVersion >>= λ u. unless q Kind) >>= λ u. or_malformed Version (version_of (decimal revision)) >>= λ r. Ok (record { revision = r; token = token; objects = objects }))
    (itself api_version) (itself kind)
    ∙ ap (λ o. or_malformed Version o >>= λ r. Ok (record { revision = r; token = token; objects = objects })) (version_back revision low)

-- as JSON the text is exactly this page, whether or not it is UTF-8
pub record SaysPage (wanted : Wanted) (text : List ℕ) (revision : ℕ) (page : SeenPage) : Type 0 where
  pub value : Data
  pub objects : List Stored
  pub is_json : read text ≡ Some value
  pub is_page : page_of wanted value ≡ Ok (page_with revision page.next objects)
  pub read_as : AreReadAs wanted page.found objects

-- where it is a client reads the page, and where it isn't no JSON
pub page_by : (wanted : Wanted) (text : List ℕ) (revision : ℕ) (page : SeenPage) (says : SaysPage wanted text revision page) (b : Bool) → is_utf8 text ≡ b
    → page_in wanted text ≡ cond b (Ok (page_with revision page.next says.objects)) (Err Json)
page_by wanted text revision page says b utf8 = ap by_text utf8 ∙ go b
  where
    by_text : Bool → Read Page
    by_text t = or_malformed Json (cond t (read text) None) >>= page_of wanted

    go : (b : Bool) → by_text b ≡ cond b (Ok (page_with revision page.next says.objects)) (Err Json)
    go true = ap (λ (o : Option Data). or_malformed Json o >>= page_of wanted) says.is_json ∙ says.is_page
    go false = refl

-- ---- its objects

-- the values of the items, and the objects that they are
record AreItems (wanted : Wanted) (es : Entries) : Type 0 where
  items : Items
  texts : map (λ e. e.1.body) es ≡ item_texts items
  encodable : AreEncodable items
  whole : items_have_float items ≡ false
  shallow : items_depth items ≤ 22
  objects : List Stored
  are : objects_of wanted items ≡ Ok objects
  read_as : AreReadAs wanted es objects

deeper : (a b : ℕ) → a ≤ 22 → b ≤ 22 → max a b ≤ 22
deeper a b h k = omega (arith, h, k)

module _ (wanted : Wanted) (of : Collection) (is : IsWanted wanted of) where
  pub place : (k : Key) (o : Object) → IsKept of k o → is_in wanted.namespace k.namespace ≡ true → HasPlace wanted (identity_of of k)
  place k o kept within =
      record {
        of_version = is.of_version;
        of_kind = is.of_kind;
        within = within;
        has_api_version = λ none. no_empty (api_version_of wanted) (joined_filled wanted.group wanted.version) (sym is.of_version ∙ none);
        has_kind = λ none. is.has_kind (sym is.of_kind ∙ none);
        has_namespace = kept.has_namespace;
        has_name = kept.has_name;
      }
    where
      no_empty : (xs : List ℕ) → unless_empty xs ≡ Some xs → xs ≡ [] → ⊥
      no_empty [] filled none = absurd cc
      no_empty (x ∷ xs) filled none = absurd cc

  module _ (k : Key) (o : Object) (kept : IsKept of k o) (within : is_in wanted.namespace k.namespace ≡ true) where
    abbrev value : Data
    value = object_value kept.shape (identity_of of k) (stamped o.revision kept.system) kept.state

    fits : IsShown value × (o.body ≡ compact_text value)
    fits = object_shown kept.shape (identity_of of k) (stamped o.revision kept.system) kept.state o.body kept.shaped kept.says

    pub taken_as : (x : Stored) × (object_of wanted value ≡ Ok x) × IsStored kept.shape (identity_of of k) (stamped o.revision kept.system) kept.state x
    taken_as = object_read wanted kept.shape (identity_of of k) (stamped o.revision kept.system) kept.state kept.shaped kept.says.well_typed kept.says.numbered (place k o kept within)

    low : depth value ≤ 22
    low = value_within kept.shape kept.shaped.1 kept.state kept.says.well_typed.0 (identity_of of k) (stamped o.revision kept.system)

    pub one_read : IsReadAs wanted k o taken_as.0
    one_read =
        let stored = taken_as.2 in
        record {
          of_namespace = stored.of_namespace;
          of_name = stored.of_name;
          of_revision = stored.of_revision;
          text_is = stored.text_is ∙ sym kept.says.is_text;
          is_read = ap (λ d. or_malformed Json d >>= object_of wanted) (text_read kept.shape (identity_of of k) (stamped o.revision kept.system) kept.state o.body kept.shaped kept.says) ∙ taken_as.1;
        }

    one_more : (es : Entries) → AreItems wanted es → AreItems wanted ((k, o) ∷ es)
    one_more es rest =
        let first = fits.0 in
        record {
          items = item value rest.items;
          texts = ap₂ (λ t ts. t ∷ ts) fits.1 rest.texts;
          encodable = (first.encodable, rest.encodable);
          whole = ap₂ (λ a b. a || b) first.whole rest.whole;
          shallow = deeper (depth value) (items_depth rest.items) low rest.shallow;
          objects = taken_as.0 ∷ rest.objects;
          are = ap₂ (λ (r : Read Stored) (rs : Read (List Stored)). r >>= λ x. rs >>= λ xs. Ok (x ∷ xs)) taken_as.1 rest.are;
          read_as = (one_read, rest.read_as);
        }

  all_items : (es : Entries) → AreWanted wanted of es → AreItems wanted es
  all_items [] are = record { items = no_items; texts = refl; encodable = tt; whole = refl; shallow = zero-le; objects = []; are = refl; read_as = tt }
  all_items (e ∷ es) are = one_more e.0 e.1 are.0.0 are.0.1 es (all_items es are.1)

  pub page_says : (revision : ℕ) (page : SeenPage) → AreWanted wanted of page.found → revision ≤ max_version → SaysPage wanted (list_text of revision page) revision page
  page_says revision page are low =
      let found = all_items page.found are in
      let token = option_map (continued_at revision) page.next in
      let same : list_text of revision page ≡ joined_text of (metadata_of revision token) (item_texts found.items) = ap (joined_text of (metadata_of revision token)) found.texts in
      record {
        value = list_value of (metadata_of revision token) found.items;
        objects = found.objects;
        is_json = ap read same ∙ list_read of revision token found.items found.encodable found.whole found.shallow;
        is_page = page_read wanted of revision page.next found.items found.objects is low found.are;
        read_as = found.read_as;
      }

  pub page_is_read : (revision : ℕ) (page : SeenPage) → AreWanted wanted of page.found → revision ≤ max_version → IsUtf8 (list_text of revision page) → IsReadAsPage wanted (list_text of revision page) revision page
  page_is_read revision page are low text =
      let says = page_says revision page are low in
      (says.objects, page_by wanted (list_text of revision page) revision page says true (is_utf8-from_IsUtf8 (list_text of revision page) text), says.read_as)
