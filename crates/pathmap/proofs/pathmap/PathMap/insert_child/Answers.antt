use Rattle.std.proofs.Common.{not, cond, string_bytes, sym, ap, ◌∙◌}
use Rattle.pathmap.specs.Contents.{over, under}
use Rattle.pathmap.specs.Insides.{inside}
use Rattle.pathmap.specs.Levels.{has_path}
use Rattle.pathmap.specs.Maps.{contents_in}
use Rattle.pathmap.proofs.Adding.{bare_path, children_after, if_ok, inside_there, level_after, nothing_put}
use Rattle.pathmap.proofs.pathmap.PathMap.insert_child.Goals as goal

pub returns-then-is_bare-clause-put : goal.returns-then-is_bare-clause-put
returns-then-is_bare-clause-put c = nothing_put _ c.args.self.now c.args.map (string_bytes c.args.name) (c.is_bare.ensures.0 c.if-is_bare.true)

pub invariant_of-self : goal.invariant_of-self
invariant_of-self c =
    children_after (string_bytes c.args.name) c.args.map (contents_in c.self.inside.below.items) (contents_in c.put_child.new.children.items) c.self.invariant
    (sym (bare_path c.is_bare.result c.args.map c.is_bare.ensures) ∙ ap not c.if-is_bare.false) c.put_child.result c.put_child.ensures.put c.put_child.ensures.err

pub returns-clause-added : goal.returns-clause-added
returns-clause-added c =
    let f = string_bytes c.args.name in
    let cs = contents_in c.self.inside.below.items in
    if_ok _ _ (λ b added. added c.self.invariant.0 ∙ ap not (inside_there c.self.inside.held cs c.self.invariant f) ∙ ap (λ x. not (has_path (inside f x))) c.self.view_is) c.put_child.result c.put_child.ensures.added

pub returns-clause-put : goal.returns-clause-put
returns-clause-put c =
    let f = string_bytes c.args.name in
    if_ok _ _ (λ b put. put ∙ ap (λ x. cond b (over x (under f c.args.map)) x) c.self.view_is) c.put_child.result
    (level_after f c.args.map (contents_in c.self.inside.below.items) (contents_in c.put_child.new.children.items) c.self.invariant
    (sym (bare_path c.is_bare.result c.args.map c.is_bare.ensures) ∙ ap not c.if-is_bare.false) c.self.inside.held c.put_child.result c.put_child.ensures.added c.put_child.ensures.put)
