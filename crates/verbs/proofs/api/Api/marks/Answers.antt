use Rattle.std.proofs.Common.{Ok, ap, ap₂, ◌∙◌, ℕ}
use Rattle.history.specs.View.{View}
use Rattle.verbs.proofs.api.Api.marks.Goals as goal

pub returns : goal.returns
returns c = λ types m represents.
    ap₂ (λ (a b : ℕ). Ok (a, b)) (c.current.ensures.current ∙ ap (λ (v : View). v.current) represents.store) (c.compacted.ensures ∙ ap (λ (v : View). v.compacted) represents.store)
