-- Objects that a text writer is given child by child.
use Rattle.std.proofs.Common.{◌≡◌, ℕ, List, ◌∷◌, ◌++◌, sym, ap, ◌∙◌}
use Rattle.serde_json.specs.Data.{Data, Members, object}
use Rattle.serde_json.specs.Written.{compact_text, members_text}
use Rattle.json_texts.specs.Writing.{Writing, with_name, with_text}
use Rattle.json_texts.proofs.Appended.{AreLeft, one_member}
use Rattle.pathmap.specs.Contents.{Content}
use Rattle.fieldset.proofs.Walks.{each_child, marks_in, Named}

pub child_written : (inner : List ℕ → Content → Members) (it left : Named) (e : List ℕ × Content) → it ≡ e ∷ left → (now named new : Writing) (whole : Data) (old : Writing) → AreLeft (each_child inner it) now whole old
    → named ≡ with_name e.0 now → new ≡ with_text (compact_text (object (inner e.0 (marks_in e.1)))) named → AreLeft (each_child inner left) new whole old
child_written inner it left e steps now named new whole old before name value =
    one_member e.0 (object (inner e.0 (marks_in e.1))) (each_child inner left) now named new whole old (sym (ap (λ l. now.text ++ members_text now.later (each_child inner l)) steps) ∙ before) name value
