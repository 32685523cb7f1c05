use Rattle.std.proofs.Common.{◌==◌, length, sym, ap, ◌∙◌, true≢false}
use Rattle.pathmap.specs.Maps.{contents_in}
use Rattle.pathmap.proofs.Levels.{bare_below, bare_held, bare_level, none_of, unnamed}
use Rattle.pathmap.proofs.pathmap.PathMap.is_bare.Goals as goal

pub returns-then-is_some : goal.returns-then-is_some
returns-then-is_some c = (
  λ e. absurd (true≢false (sym e)),
  λ none. absurd (true≢false (sym (sym c.is_some.ensures ∙ c.if-is_some.true) ∙ bare_held c.self.inside.held (contents_in c.self.inside.below.items) (c.self.view_is ∙ none))),
)

pub returns : goal.returns
returns c =
    let cs = contents_in c.self.inside.below.items in (
      λ is. sym c.self.view_is ∙ bare_level c.self.inside.held cs (sym c.is_some.ensures ∙ c.if-is_some.false) (ap contents_in (sym c.deref-below.ensures.value ∙ none_of c.deref-below.result.now is)),
      λ none. ap (λ l. length l == 0) (c.deref-below.ensures.value ∙ unnamed c.self.inside.below.items (bare_below c.self.inside.held cs c.self.invariant.1 (c.self.view_is ∙ none))),
    )
