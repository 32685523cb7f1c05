use Rattle.std.proofs.Common.{sym, ap, ◌∙◌, subst}
use Rattle.std.specs.Option.{option_map}
use Rattle.pathmap.specs.Insides.{inside}
use Rattle.pathmap.specs.Levels.{child_of, IsRising, no_children}
use Rattle.pathmap.specs.Maps.{content_or_nothing, contents_in}
use Rattle.pathmap.proofs.Children.{inside-level}
use Rattle.pathmap.proofs.Heads.{inside-nothing}
use Rattle.pathmap.proofs.pick.below_of.Goals as goal

pub returns-in-Some-clause-rising : goal.returns-in-Some-clause-rising
returns-in-Some-clause-rising c = subst (λ l. IsRising (contents_in l)) (sym c.deref.ensures.value) c.map.invariant.0

pub returns-in-Some-clause-insides : goal.returns-in-Some-clause-insides
returns-in-Some-clause-insides c = λ f.
    ap (λ l. content_or_nothing (child_of f (contents_in l))) c.deref.ensures.value ∙ sym (inside-level c.map.inside.held (contents_in c.map.inside.below.items) c.map.invariant f) ∙ ap (inside f) c.map.view_is
    ∙ sym (ap (λ o. inside f (content_or_nothing (option_map (λ m. m.now) o))) c.in-Some.is)

pub returns-in-None-clause-rising : goal.returns-in-None-clause-rising
returns-in-None-clause-rising c = no_children.0

pub returns-in-None-clause-insides : goal.returns-in-None-clause-insides
returns-in-None-clause-insides c = λ f. sym (inside-nothing f) ∙ sym (ap (λ o. inside f (content_or_nothing (option_map (λ m. m.now) o))) c.in-None.is)
