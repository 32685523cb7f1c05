use Rattle.std.proofs.Common.{cond, not, Ok, string_bytes, subst, sym, ap, ◌∙◌}
use Rattle.pathmap.specs.Contents.{over, under}
use Rattle.pathmap.specs.Insides.{inside}
use Rattle.pathmap.specs.Levels.{has_path}
use Rattle.pathmap.specs.Maps.{content}
use Rattle.pathmap.proofs.Levels.{nothing_path}
use Rattle.schema.specs.KeyNames.{names_in}
use Rattle.typed.specs.Faults.{Returns}
use Rattle.typed.proofs.Joins.{key_joins, other_joins}
use Rattle.typed.proofs.items.add_member.Goals as goal

pub returns-then-is_key : goal.returns-then-is_key
returns-then-is_key c answer free gives =
    key_joins (content c.args.map.now) (names_in c.args.names.now) c.args.name.now answer (content c.in-Ok.below) (subst (λ r. Returns content r answer) c.in-Ok.is gives) (sym c.is_key.ensures ∙ c.if-is_key.true)

pub returns-in_ok-insert_child-in-Ok : goal.returns-in_ok-insert_child-in-Ok
returns-in_ok-insert_child-in-Ok c answer free gives =
    let old = content c.args.map.now in
    let m = content c.in-Ok.below in
    let f = string_bytes c.in_ok-of_field-in-Ok.field-0 in
    let named = c.in_ok-of_field-in-Ok.ensures in
    let added = c.in_ok-insert_child-in-Ok.ensures.added ∙ ap (λ g. not (has_path (inside g old))) named ∙ ap (λ d. not (has_path d)) free ∙ ap not nothing_path in
    ap Ok (c.in_ok-insert_child-in-Ok.ensures.put ∙ ap (λ b. cond b (over old (under f m)) old) added ∙ ap (λ g. over old (under g m)) named)
    ∙ other_joins old (names_in c.args.names.now) c.args.name.now answer m (subst (λ r. Returns content r answer) c.in-Ok.is gives) (sym c.is_key.ensures ∙ c.if-is_key.false)
