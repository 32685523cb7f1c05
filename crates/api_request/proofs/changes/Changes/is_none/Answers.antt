use Rattle.std.proofs.Common.{◌≡◌, ap, length, sym, ◌∙◌}
use Rattle.std.specs.Prelude.{◌==◌}
use Rattle.api_request.specs.Views.{changes_of}
use Rattle.api_request.proofs.Onlys.{none_made, none_written}
use Rattle.api_request.proofs.changes.Changes.is_none.Goals as goal

pub returns-in-Each : goal.returns-in-Each
returns-in-Each c =
    let each = c.in-Each.each in
    let made = ap changes_of c.in-Each.is in
    let is : c.is_empty.result ≡ (length each.writes.items == 0) = c.is_empty.ensures ∙ ap (λ n. n == 0) each.writes.ok.0 in
    (λ empty. made ∙ none_made each.after each.writes.items (sym is ∙ empty), λ none. is ∙ none_written each.after each.writes.items (sym made ∙ none))
