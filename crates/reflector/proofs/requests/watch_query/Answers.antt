use Rattle.std.proofs.Common.{ap, ap₂, codes, ◌++◌, ◌∙◌}
use Rattle.form_urlencoded.specs.Form.{append_pair}
use Rattle.reflector.specs.Requests.{with_selector}
use Rattle.reflector.proofs.requests.watch_query.Goals as goal

pub returns : goal.returns
returns c =
    c.finish.ensures
    ∙ ap₂ (λ p f. p ++ f) (c.in_ok-append_selector.ensures.prefix ∙ c.in_ok-append_bookmarks.ensures.prefix ∙ c.in_ok-query.ensures.prefix)
    (c.in_ok-append_selector.ensures.form ∙ ap₂ with_selector c.as_str.ensures.value (c.in_ok-append_bookmarks.ensures.form ∙ ap (λ q. append_pair q (codes "allowWatchBookmarks") (codes "true")) c.in_ok-query.ensures.form))
