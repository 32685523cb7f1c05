use Rattle.std.proofs.Common.{List, ◌∙◌, ap}
use Rattle.std.proofs.lemmas.Result.{IfOk-weaker}
use Rattle.api_types.specs.TypesFile.{ServedShape}
use Rattle.verbs.specs.Watching.{bookmarked_in}
use Rattle.verbs.proofs.api.Api.bookmark.Goals as goal

pub returns-clause-bookmarked : goal.returns-clause-bookmarked
returns-clause-bookmarked c = λ types m represents.
    IfOk-weaker c.bookmarked.result _ _ (λ o marked. marked ∙ ap (λ (ts : List ServedShape). bookmarked_in ts c.args.cursor.now) (c.types.ensures ∙ represents.serves)) c.bookmarked.ensures.bookmarked
