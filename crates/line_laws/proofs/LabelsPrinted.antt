-- The labels that a content is printed with.
use Rattle.std.proofs.Common.{◌≡◌, ℕ, inl, inr, true, List, [], ◌∷◌, Option, Some, is_some, refl, sym, ap, subst, ◌∙◌}
use Rattle.std.specs.Prelude.{option_and_then}
use Rattle.std.specs.FinMap as fin
use Rattle.std.specs.List.{list_any}
use Rattle.std.specs.Str.{bytes_eq}
use Rattle.serde_json.specs.Data.{Data, string, Members, no_members}
use Rattle.serde_json.specs.Find.{as_str, get_member}
use Rattle.fieldpath.specs.Elements.{name_text}
use Rattle.pathmap.specs.Contents.{Content, here, nothing}
use Rattle.pathmap.specs.Contents as leaf_value
use Rattle.pathmap.specs.Insides.{heads, inside}
use Rattle.pathmap.proofs.Contents.{get-nothing}
use Rattle.pathmap.proofs.Heads.{heads-inside, one_path}
use Rattle.pathmap.proofs.Insides.{get-inside}
use Rattle.pathmap.specs.Levels.{has_path}
use Rattle.pathmap.proofs.Levels.{get-here-top, nothing_path}
use Rattle.schema.specs.Shape.{text}
use Rattle.typed.specs.WellTyped.{IsWellTyped}
use Rattle.typed.specs.Printing.{each_member, value_at, value_of}
use Rattle.line_laws.specs.Labels.{text_leaf_value}
use Rattle.line_laws.proofs.LabelTexts.{AreTexts, IfText, each_found, each_other, each_texts}

-- what is printed of a text, or of nothing
text_printed : (c : Content) → IsWellTyped text c → IfText (value_at c)
text_printed c (inl none) = subst IfText (sym (ap (λ x. option_and_then value_of (fin.get x [])) none ∙ ap (option_and_then value_of) (get-nothing []))) tt
text_printed c (inr p) = subst IfText (sym (ap (λ x. option_and_then value_of (fin.get x [])) p.1 ∙ ap (option_and_then value_of) (get-here-top (leaf_value.text p.0)))) (p.0, refl)

module _ (labels : Content) (well_typed : (e : List ℕ) → IsWellTyped text (inside e labels)) where
  abbrev printed_at : List ℕ → Option Data
  printed_at e = value_at (inside e labels)

  abbrev pub label_members : Members
  label_members = each_member printed_at (heads labels) no_members

  pub all_texts : AreTexts label_members
  all_texts = each_texts printed_at (λ e. text_printed (inside e labels) (well_typed e)) (heads labels) no_members tt

  pub member_at : (k : List ℕ) → option_and_then as_str (get_member k label_members) ≡ option_and_then text_leaf_value (fin.get labels (name_text k ∷ []))
  member_at k = by (well_typed (name_text k))
    where
      stands : (c : Content) → inside (name_text k) labels ≡ c → fin.get labels (name_text k ∷ []) ≡ fin.get c []
      stands c is = sym (get-inside (name_text k) labels []) ∙ ap (λ x. fin.get x []) is

      by : IsWellTyped text (inside (name_text k) labels) → option_and_then as_str (get_member k label_members) ≡ option_and_then text_leaf_value (fin.get labels (name_text k ∷ []))
      by (inl none) =
          ap (option_and_then as_str) (each_other printed_at k (heads labels) no_members (heads-inside labels (name_text k) ∙ ap has_path none ∙ nothing_path))
          ∙ sym (ap (option_and_then text_leaf_value) (stands nothing none ∙ get-nothing []))
      by (inr p) =
          let top : fin.get (inside (name_text k) labels) [] ≡ Some (leaf_value.text p.0) = ap (λ x. fin.get x []) p.1 ∙ get-here-top (leaf_value.text p.0) in
          let found : list_any (bytes_eq (name_text k)) (heads labels) ≡ true = heads-inside labels (name_text k) ∙ one_path (inside (name_text k) labels) [] (ap is_some top) in
          ap (option_and_then as_str) (each_found printed_at k (string p.0) (ap (option_and_then value_of) top) (heads labels) no_members found)
          ∙ sym (ap (option_and_then text_leaf_value) (stands (here (leaf_value.text p.0)) p.1 ∙ get-here-top (leaf_value.text p.0)))
