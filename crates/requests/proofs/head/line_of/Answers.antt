use Rattle.std.proofs.Common.{rules, ℕ, List, Some, None, refl, sym, ap, ap₂, subst, ◌∙◌}
use Rattle.std.specs.Prelude.{IsUtf8, option_map}
use Rattle.requests.specs.Views.{line_seen}
use Rattle.requests.proofs.RequestTargets.{method_text}
use Rattle.requests.proofs.Whole.{none_at_all}
use Rattle.requests.proofs.head.line_of.Goals as goal

pub text_of-requires : goal.text_of-requires
text_of-requires c = subst IsUtf8 (sym c.of.ensures) (method_text c.args.head.now c.parts_of.new.spans c.in_ok-parts.parts c.in_ok-parts.ensures.whole)

pub returns-in_err-parts : goal.returns-in_err-parts
returns-in_err-parts c = (None, none_at_all c.args.head.now _ c.requires (search rules) (c.in_err-parts.ensures.none refl), ap (option_map line_seen) c.from_residual.ensures)

pub returns : goal.returns
returns c =
    let whole = c.in_ok-parts.ensures.whole in
    (Some whole.0, whole.1, ap₂ (λ (m t : List ℕ). Some (m, t)) (c.text_of.ensures ∙ c.of.ensures ∙ whole.2.method) (c.text_of-2.ensures ∙ c.of-2.ensures ∙ whole.2.path))
