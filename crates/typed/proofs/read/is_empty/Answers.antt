use Rattle.std.proofs.Common.{◌==◌, sym, ap, ◌∙◌}
use Rattle.serde_json.specs.View.{view}
use Rattle.serde_json.proofs.Views.{view-Array, view-Object}
use Rattle.typed.specs.Steps.{is_empty}
use Rattle.typed.proofs.Atomic.{array-is_empty, object-is_empty}
use Rattle.typed.proofs.read.is_empty.Goals as goal

pub returns-in-Object : goal.returns-in-Object
returns-in-Object c = object-is_empty c.is_empty.result c.in-Object.members.entries c.is_empty.ensures.0 c.is_empty.ensures.1 ∙ ap is_empty (sym (view-Object c.in-Object.members)) ∙ ap (λ v. is_empty (view v)) (sym c.in-Object.is)

pub returns-in-Array : goal.returns-in-Array
returns-in-Array c =
    c.is_empty-in-Array.ensures ∙ ap (λ n. n == 0) c.in-Array.items.ok.0 ∙ array-is_empty c.in-Array.items.items
    ∙ ap is_empty (sym (view-Array c.in-Array.items)) ∙ ap (λ v. is_empty (view v)) (sym c.in-Array.is)
