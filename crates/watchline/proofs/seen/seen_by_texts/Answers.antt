use Rattle.std.proofs.Common.{◌∙◌, ap, ap₂}
use Rattle.std.specs.Option.{option_map}
use Rattle.history.specs.Read.{key_of}
use Rattle.history.specs.Seen.{seen_by}
use Rattle.watchline.specs.BatchViews.{body_if_selected}
use Rattle.watchline.proofs.seen.seen_by_texts.Goals as goal

pub returns-clause-seen : goal.returns-clause-seen
returns-clause-seen c =
    c.seen_by.ensures ∙ ap₂ (λ a b. seen_by c.args.change.revision (key_of c.args.change.key) a b)
    (c.in_ok-before.ensures ∙ ap (body_if_selected c.args.selector.now (key_of c.args.change.key)) (ap (option_map (λ o. o.body)) c.in_ok-stood.ensures.ok))
    (c.in_ok-after.ensures ∙ ap (body_if_selected c.args.selector.now (key_of c.args.change.key)) c.object_after-stands.ensures)
