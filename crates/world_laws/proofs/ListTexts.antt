-- The text of a list is UTF-8, where its objects' texts are.
use Rattle.std.proofs.Common.{ℕ, ◌≤◌, List, [], ◌∷◌, ◌++◌, map, Option, Some, None, option_map, IsUtf8, refl, codes, decimal}
use Rattle.std.specs.List.{AllByRecursion, flat_map}
use Rattle.std.proofs.lemmas.Str.{IsUtf8-append}
use Rattle.serde_json.specs.Data.{Data, string}
use Rattle.serde_json.specs.Written.{compact_text}
use Rattle.history.specs.History.{Key, Object}
use Rattle.history.specs.Seen.{SeenPage}
use Rattle.objects.specs.ReadBack.{max_version}
use Rattle.lists.specs.Body.{Collection, continued_at, joined_text, list_kind, list_text, metadata_of, with_commas}
use Rattle.line_laws.proofs.Texts.{HasTexts, decimal_utf8, text_utf8}
use Rattle.world_laws.proofs.Names.{ascii_utf8}

abbrev Entries : Type 0
Entries = List (Key × Object)

both : (xs ys : List ℕ) → IsUtf8 xs → IsUtf8 ys → IsUtf8 (xs ++ ys)
both = IsUtf8-append

-- ---- its items

more_utf8 : (texts : List (List ℕ)) → AllByRecursion IsUtf8 texts → IsUtf8 (flat_map (λ t. 44 ∷ t) texts)
more_utf8 [] all = ascii_utf8 [] refl
more_utf8 (t ∷ ts) all = both (44 ∷ t) (flat_map (λ u. 44 ∷ u) ts) (both (44 ∷ []) t (ascii_utf8 (44 ∷ []) refl) all.0) (more_utf8 ts all.1)

items_utf8 : (texts : List (List ℕ)) → AllByRecursion IsUtf8 texts → IsUtf8 (with_commas texts)
items_utf8 [] all = ascii_utf8 [] refl
items_utf8 (t ∷ ts) all = both t (flat_map (λ u. 44 ∷ u) ts) all.0 (more_utf8 ts all.1)

bodies_utf8 : (es : Entries) → AllByRecursion (λ e. IsUtf8 e.1.body) es → AllByRecursion IsUtf8 (map (λ e. e.1.body) es)
bodies_utf8 [] all = tt
bodies_utf8 (e ∷ es) all = (all.0, bodies_utf8 es all.1)

-- ---- its metadata

token_utf8 : (revision : ℕ) (k : Key) → revision ≤ max_version → IsUtf8 k.namespace × IsUtf8 k.name → IsUtf8 (continued_at revision k)
token_utf8 revision k low texts =
    both (decimal revision) (46 ∷ (k.namespace ++ 46 ∷ k.name)) (decimal_utf8 revision low)
    (both (46 ∷ []) (k.namespace ++ 46 ∷ k.name) (ascii_utf8 (46 ∷ []) refl) (both k.namespace (46 ∷ k.name) texts.0 (both (46 ∷ []) k.name (ascii_utf8 (46 ∷ []) refl) texts.1)))

-- the namespace and the name after which it goes on, if it does
abbrev pub HasKeyTexts : Option Key → Type 0
HasKeyTexts None = Unit {0}
HasKeyTexts (Some k) = IsUtf8 k.namespace × IsUtf8 k.name

metadata_texts : (revision : ℕ) (next : Option Key) → revision ≤ max_version → HasKeyTexts next → HasTexts (metadata_of revision (option_map (continued_at revision) next))
metadata_texts revision None low texts = (ascii_utf8 (codes "resourceVersion") refl, (decimal_utf8 revision low, tt))
metadata_texts revision (Some k) low texts =
    (ascii_utf8 (codes "continue") refl, (token_utf8 revision k low texts, (ascii_utf8 (codes "resourceVersion") refl, (decimal_utf8 revision low, tt))))

-- ---- the text

nine : (a b c d e f g h i : List ℕ) → IsUtf8 a → IsUtf8 b → IsUtf8 c → IsUtf8 d → IsUtf8 e → IsUtf8 f → IsUtf8 g → IsUtf8 h → IsUtf8 i → IsUtf8 (a ++ b ++ c ++ d ++ e ++ f ++ g ++ h ++ i)
nine a b c d e f g h i ua ub uc ud ue uf ug uh ui =
    both (a ++ b ++ c ++ d ++ e ++ f ++ g ++ h) i (both (a ++ b ++ c ++ d ++ e ++ f ++ g) h (both (a ++ b ++ c ++ d ++ e ++ f) g (both (a ++ b ++ c ++ d ++ e) f
    (both (a ++ b ++ c ++ d) e (both (a ++ b ++ c) d (both (a ++ b) c (both a b ua ub) uc) ud) ue) uf) ug) uh) ui

joined_utf8 : (of : Collection) (metadata : Data) (texts : List (List ℕ)) → IsUtf8 of.api_version → IsUtf8 of.item_kind → HasTexts metadata → AllByRecursion IsUtf8 texts → IsUtf8 (joined_text of metadata texts)
joined_utf8 of metadata texts version kind has all =
    nine (codes "{\"apiVersion\":") (compact_text (string of.api_version)) (codes ",\"items\":[") (with_commas texts) (codes "],\"kind\":") (compact_text (string (list_kind of))) (codes ",\"metadata\":")
    (compact_text metadata) (codes "}")
    (ascii_utf8 _ refl) (text_utf8 (string of.api_version) version) (ascii_utf8 _ refl) (items_utf8 texts all) (ascii_utf8 _ refl)
    (text_utf8 (string (list_kind of)) (both of.item_kind (codes "List") kind (ascii_utf8 _ refl))) (ascii_utf8 _ refl) (text_utf8 metadata has) (ascii_utf8 _ refl)

pub list_utf8 : (of : Collection) (revision : ℕ) (page : SeenPage) → IsUtf8 of.api_version → IsUtf8 of.item_kind → revision ≤ max_version → HasKeyTexts page.next
    → AllByRecursion (λ e. IsUtf8 e.1.body) page.found → IsUtf8 (list_text of revision page)
list_utf8 of revision page version kind low texts all =
    joined_utf8 of (metadata_of revision (option_map (continued_at revision) page.next)) (map (λ e. e.1.body) page.found) version kind (metadata_texts revision page.next low texts) (bodies_utf8 page.found all)
