use Rattle.std.proofs.Common.{ap, sym, subst, ◌∙◌}
use Rattle.fieldpath.specs.Elements.{name_text}
use Rattle.pathmap.specs.Insides.{inside}
use Rattle.pathmap.specs.Levels.{IsRising, child_of}
use Rattle.pathmap.specs.Maps.{content_or_nothing, contents_in}
use Rattle.pathmap.proofs.Children.{child_full, inside-level}
use Rattle.pathmap.proofs.Finding.{full_found}
use Rattle.pathmap.proofs.pathmap.PathMap.field.Goals as goal

pub returns-clause-inside : goal.returns-clause-inside
returns-clause-inside c =
    let name = name_text c.args.name.now in
    ap content_or_nothing (c.field_named.ensures (subst (λ l. IsRising (contents_in l)) (sym c.deref.ensures.value) c.self.invariant.0) ∙ ap (λ l. child_of name (contents_in l)) c.deref.ensures.value)
    ∙ sym (inside-level c.self.inside.held (contents_in c.self.inside.below.items) c.self.invariant name) ∙ ap (inside name) c.self.view_is

pub returns-clause-full : goal.returns-clause-full
returns-clause-full c =
    let name = name_text c.args.name.now in
    full_found c.field_named.result (child_of name (contents_in c.self.inside.below.items))
    (c.field_named.ensures (subst (λ l. IsRising (contents_in l)) (sym c.deref.ensures.value) c.self.invariant.0) ∙ ap (λ l. child_of name (contents_in l)) c.deref.ensures.value)
    (child_full name (contents_in c.self.inside.below.items) c.self.invariant.1)
