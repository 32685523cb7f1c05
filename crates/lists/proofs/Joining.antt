-- Items' texts, one after the other, and the whole text of a list.
use Rattle.std.proofs.Common.{◌≡◌, ℕ, List, ◌∷◌, ◌++◌, map, flat_map, ap, ap₂, ◌∙◌, codes}
use Rattle.serde_json.specs.Data.{Data, string}
use Rattle.serde_json.specs.Written.{compact_text}
use Rattle.history.specs.declared.object.Entry.{Entry}
use Rattle.history.specs.Read.{entry_of}
use Rattle.lists.specs.Body.{Collection, joined_text, list_kind, with_commas}

abbrev pub texts_in : List Entry → List (List ℕ)
texts_in es = map (λ e. e.1.body) (map entry_of es)

-- a comma before each
abbrev pub after_commas : List (List ℕ) → List ℕ
after_commas = flat_map (λ u. 44 ∷ u)

-- each part put behind those before it
pub text_is : (of : Collection) (metadata : Data) (texts : List (List ℕ)) (t0 t1 t2 t3 t4 t5 t6 t7 t8 items kind meta : List ℕ)
    → items ≡ with_commas texts → kind ≡ list_kind of → meta ≡ compact_text metadata
    → t0 ≡ codes "{\"apiVersion\":" → t1 ≡ t0 ++ compact_text (string of.api_version) → t2 ≡ t1 ++ codes ",\"items\":[" → t3 ≡ t2 ++ items
    → t4 ≡ t3 ++ codes "],\"kind\":" → t5 ≡ t4 ++ compact_text (string kind) → t6 ≡ t5 ++ codes ",\"metadata\":" → t7 ≡ t6 ++ meta → t8 ≡ t7 ++ codes "}"
    → t8 ≡ joined_text of metadata texts
text_is of metadata texts t0 t1 t2 t3 t4 t5 t6 t7 t8 items kind meta ei ek ed e0 e1 e2 e3 e4 e5 e6 e7 e8 =
    let s2 = e2 ∙ ap (λ t. t ++ codes ",\"items\":[") (e1 ∙ ap (λ t. t ++ compact_text (string of.api_version)) e0) in
    let s4 = e4 ∙ ap (λ t. t ++ codes "],\"kind\":") (e3 ∙ ap₂ (λ t i. t ++ i) s2 ei) in
    let s6 = e6 ∙ ap (λ t. t ++ codes ",\"metadata\":") (e5 ∙ ap₂ (λ t k. t ++ compact_text (string k)) s4 ek) in
    e8 ∙ ap (λ t. t ++ codes "}") (e7 ∙ ap₂ (λ t m. t ++ m) s6 ed)
