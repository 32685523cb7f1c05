-- The body of an apply of counts is read as what it was printed of.
use Rattle.std.proofs.Common.{◌≡◌, ℕ, Bool, cond, List, [], ◌∷◌, Some, None, IsUtf8, refl, ap, ◌∙◌}
use Rattle.std.proofs.lemmas.Str.{is_utf8-from_IsUtf8}
use Rattle.std.specs.Prelude.{codes}
use Rattle.std.specs.FinMap as fin
use Rattle.std.specs.List.{AllByRecursion}
use Rattle.json.proofs.Printed.Utf8.{IsUtf8-are_ascii}
use Rattle.serde_json.specs.Data.{Data, string}
use Rattle.serde_json.specs.Read.{read}
use Rattle.serde_json.specs.Written.{compact_text}
use Rattle.fieldpath.proofs.Encodable.{compact-read}
use Rattle.line_laws.proofs.Texts.{HasTexts, MembersHaveTexts, text_utf8}
use Rattle.api_request.specs.Json.{IsJson}
use Rattle.requests.specs.Bodies.{json_in}
use Rattle.summary.specs.Apply.{count_members, metadata_of, spec_of, summary_of}
use Rattle.summary.specs.Counts.{Summed}
use Rattle.settling_laws.specs.Said.{IsSayable, IsSayableCount}
use Rattle.settling_laws.proofs.Encoded.{clean, encodable, shallow, within}

counts_texts : (es : List (List ℕ × ℕ)) → AllByRecursion IsSayableCount es → MembersHaveTexts (count_members es)
counts_texts [] all = tt
counts_texts (e ∷ es) all = (all.0.0, (within e.1 all.0.1, counts_texts es all.1))

module _ (s : Summed) (namespace name : List ℕ) (is : IsSayable s) where
  abbrev body : Data
  body = summary_of s namespace name

  pub body_json : IsJson body
  body_json = (encodable s namespace name is, shallow s namespace name is)

  named : IsUtf8 namespace → IsUtf8 name → HasTexts (metadata_of namespace name)
  named of_namespace of_name = (IsUtf8-are_ascii (codes "name") refl, (of_name, (IsUtf8-are_ascii (codes "namespace") refl, (of_namespace, tt))))

  said : HasTexts (spec_of s)
  said = (
    IsUtf8-are_ascii (codes "counts") refl,
    (
      counts_texts (fin.entries s.counts) is.counts,
      (IsUtf8-are_ascii (codes "label") refl, (is.label, (IsUtf8-are_ascii (codes "total") refl, (within s.total is.total, tt)))),
    ),
  )

  typed : HasTexts (string (codes "LabelSummary"))
  typed = IsUtf8-are_ascii (codes "LabelSummary") refl

  texts : IsUtf8 namespace → IsUtf8 name → HasTexts body
  texts of_namespace of_name = (
    IsUtf8-are_ascii (codes "apiVersion") refl,
    (
      IsUtf8-are_ascii (codes "summary.example/v1") refl,
      (
        IsUtf8-are_ascii (codes "kind") refl,
        (typed, (IsUtf8-are_ascii (codes "metadata") refl, (named of_namespace of_name, (IsUtf8-are_ascii (codes "spec") refl, (said, tt))))),
      ),
    ),
  )

  pub body_is_read : IsUtf8 namespace → IsUtf8 name → json_in (compact_text body) ≡ Some body
  body_is_read of_namespace of_name =
      ap (λ (b : Bool). cond b (read (compact_text body)) None) (is_utf8-from_IsUtf8 (compact_text body) (text_utf8 body (texts of_namespace of_name))) ∙ compact-read body (encodable s namespace name is) (clean s namespace name is) (shallow s namespace name is)
