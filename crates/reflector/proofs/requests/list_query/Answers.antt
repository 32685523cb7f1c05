use Rattle.std.proofs.Common.{ap, ap₂, ◌++◌, ◌∙◌, option_map}
use Rattle.reflector.specs.Requests.{with_selector, with_token}
use Rattle.reflector.proofs.requests.list_query.Goals as goal

pub returns : goal.returns
returns c =
    c.finish.ensures
    ∙ ap₂ (λ p f. p ++ f) (c.in_ok-append_selector.ensures.prefix ∙ c.in_ok-append_token.ensures.prefix ∙ c.in_ok-query.ensures.prefix)
    (c.in_ok-append_selector.ensures.form ∙ ap₂ with_selector c.as_str.ensures.value (c.in_ok-append_token.ensures.form ∙ ap (with_token (option_map (λ t. t.now) c.args.token)) c.in_ok-query.ensures.form))
