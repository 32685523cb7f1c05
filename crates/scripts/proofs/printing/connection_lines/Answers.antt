use Rattle.std.proofs.Common.{◌∙◌, ◌++◌, ◌∷◌, [], ap, length}
use Rattle.std.specs.Prelude.{codes}
use Rattle.std.specs.Fmt.{decimal}
use Rattle.scripts.proofs.OutputLemmas.{joined}
use Rattle.scripts.proofs.printing.connection_lines.Goals as goal

pub returns : goal.returns
returns c =
    let head = c.in_ok-lines.ensures.items ∙ c.as_bytes.ensures.value ∙ c.in_ok-head.ensures.ok in
    c.in_ok-push.ensures.items
    ∙ ap (λ bytes. bytes ++ 10 ∷ []) (c.in_ok-extend_from_slice.ensures.items ∙ ap (λ bytes. bytes ++ c.args.written.now) head)
    ∙ joined (codes "connection ") (decimal c.args.id) (decimal (length c.args.written.now)) c.args.written.now
