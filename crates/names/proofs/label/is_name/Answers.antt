use Rattle.std.proofs.Common.{rules, tests, ◌∙◌, ◌≡◌, ◌&&◌, refl, le-leb, leb, length, true≢false, sym}
use Rattle.std.proofs.lemmas.Bool.{lt-leb}
use Rattle.std.proofs.lemmas.Iterator.{YieldsList-from_slice}
use Rattle.std.proofs.lemmas.Iterator.Search.{all_from_yields_List}
use Rattle.names.specs.Names.{is_name_byte, has_alphanumeric_ends}
use Rattle.names.proofs.Found.{both}
use Rattle.names.proofs.label.is_name.Goals as goal
use Rattle.names.proofs.label.is_name.Goals.{then-text-le-MAX_NAME, else-text-le-MAX_NAME}

pub returns-then-has_alphanumeric_ends : goal.returns-then-has_alphanumeric_ends
returns-then-has_alphanumeric_ends c =
    let prefix : c.if-text-le-MAX_NAME.value ≡ (leb (length c.args.text.now) 63 && has_alphanumeric_ends c.args.text.now) =
    elim c.if-text-le-MAX_NAME.branch [
      | then-text-le-MAX_NAME w ↦ w.value-is ∙ both _ _ (le-leb _ _ w.if-text-le-MAX_NAME.true) refl w.has_alphanumeric_ends.ensures
      | else-text-le-MAX_NAME w ↦ absurd (true≢false (sym c.if-has_alphanumeric_ends.true ∙ w.value-is ∙ lt-leb _ _ w.if-text-le-MAX_NAME.false))
    ] in
    both c.if-text-le-MAX_NAME.value c.all.result c.if-has_alphanumeric_ends.true prefix
    (all_from_yields_List is_name_byte _ _ c.all.result c.all.ensures.ran (YieldsList-from_slice c.args.text.now (c.iter.ensures.rest ∙ c.as_bytes.ensures.value)) (λ x b q k. search (rules, tests)))
