-- The text of a list, and the compact JSON of the list as a value.
use Rattle.std.proofs.Common.{◌≡◌, ℕ, List, [], ◌∷◌, ◌++◌, true, false, flat_map, refl, sym, ap, ◌∙◌, codes, append_assoc}
use Rattle.json.specs.Print.{escape_byte}
use Rattle.serde_json.proofs.OnLiterals.{serde_json_on_literals}
use Rattle.serde_json.specs.Data.{Data, string, Items, no_items, item}
use Rattle.serde_json.specs.Written.{compact_text, items_text}
use Rattle.lists.specs.Body.{Collection, item_texts, joined_text, list_kind, list_value, with_commas}

-- each item with a comma before it
later_items : (ds : Items) → items_text true ds ≡ flat_map (λ u. 44 ∷ u) (item_texts ds) ++ 93 ∷ []
later_items no_items = refl
later_items (item d ds) =
    ap (λ t. 44 ∷ (compact_text d ++ t)) (later_items ds)
    ∙ ap (λ t. 44 ∷ t) (sym (append_assoc (compact_text d) (flat_map (λ u. 44 ∷ u) (item_texts ds)) (93 ∷ [])))

all_items : (ds : Items) → items_text false ds ≡ with_commas (item_texts ds) ++ 93 ∷ []
all_items no_items = refl
all_items (item d ds) = ap (λ t. compact_text d ++ t) (later_items ds) ∙ sym (append_assoc (compact_text d) (flat_map (λ u. 44 ∷ u) (item_texts ds)) (93 ∷ []))

abbrev Text : Type 0
Text = List ℕ

-- parts put behind one another from the left, and from the right
regrouped : (a b c d e f g h i : Text) → a ++ b ++ c ++ d ++ e ++ f ++ g ++ h ++ i ≡ a ++ (b ++ (c ++ (d ++ (e ++ (f ++ (g ++ (h ++ i)))))))
regrouped a b c d e f g h i =
    append_assoc (a ++ b ++ c ++ d ++ e ++ f ++ g) h i
    ∙ append_assoc (a ++ b ++ c ++ d ++ e ++ f) g (h ++ i)
    ∙ append_assoc (a ++ b ++ c ++ d ++ e) f (g ++ (h ++ i))
    ∙ append_assoc (a ++ b ++ c ++ d) e (f ++ (g ++ (h ++ i)))
    ∙ append_assoc (a ++ b ++ c) d (e ++ (f ++ (g ++ (h ++ i))))
    ∙ append_assoc (a ++ b) c (d ++ (e ++ (f ++ (g ++ (h ++ i)))))
    ∙ append_assoc a b (c ++ (d ++ (e ++ (f ++ (g ++ (h ++ i))))))

-- the list as a value, with its parts as texts
value_text : (of : Collection) (metadata : Data) (items : Items)
    → compact_text (list_value of metadata items) ≡ codes "{\"apiVersion\":" ++ (compact_text (string of.api_version) ++ (codes ",\"items\":[" ++ (items_text false items
    ++ (codes ",\"kind\":" ++ (compact_text (string (list_kind of)) ++ (codes ",\"metadata\":" ++ (compact_text metadata ++ codes "}")))))))
unfolding serde_json_on_literals escape_byte
value_text of metadata items = refl

pub lists_are_json : (of : Collection) (metadata : Data) (items : Items) → joined_text of metadata (item_texts items) ≡ compact_text (list_value of metadata items)
lists_are_json of metadata items =
    let a = codes "{\"apiVersion\":" in
    let b = compact_text (string of.api_version) in
    let c = codes ",\"items\":[" in
    let d = with_commas (item_texts items) in
    let f = compact_text (string (list_kind of)) in
    let g = codes ",\"metadata\":" in
    let h = compact_text metadata in
    let i = codes "}" in
    let rest = f ++ (g ++ (h ++ i)) in
    regrouped a b c d (codes "],\"kind\":") f g h i
    ∙ sym (value_text of metadata items ∙ ap (λ t. a ++ (b ++ (c ++ (t ++ (codes ",\"kind\":" ++ rest))))) (all_items items)
    ∙ ap (λ t. a ++ (b ++ (c ++ t))) (append_assoc d (93 ∷ []) (codes ",\"kind\":" ++ rest)))
