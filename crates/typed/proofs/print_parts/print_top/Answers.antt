use Rattle.std.proofs.Common.{◌≡◌, IfOk, ap, sym, subst, ◌∙◌, option_map}
use Rattle.std.specs.Prelude.{option_and_then}
use Rattle.serde_json.specs.View.{view}
use Rattle.pathmap.specs.Maps.{leaf_value}
use Rattle.typed.specs.Printing.{value_of}
use Rattle.typed.proofs.print_parts.print_top.Goals as goal

pub returns-in-Some : goal.returns-in-Some
returns-in-Some c = subst (λ d. IfOk c.print_held.result (λ o. option_map view o ≡ d)) (sym (ap (option_and_then value_of) (sym c.held.ensures ∙ ap (option_map (λ h. leaf_value h.now)) c.in-Some.is))) c.print_held.ensures

pub returns-in-None : goal.returns-in-None
returns-in-None c = sym (ap (option_and_then value_of) (sym c.held.ensures ∙ ap (option_map (λ h. leaf_value h.now)) c.in-None.is))
