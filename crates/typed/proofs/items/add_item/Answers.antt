use Rattle.std.proofs.Common.{◌≡◌, ◌∷◌, true, false, cond, Ok, string_bytes, sym, subst, ap, ◌∙◌}
use Rattle.std.specs.List.{list_any}
use Rattle.std.proofs.lemmas.Bool.{not-false, not-true}
use Rattle.std.specs.Str.{bytes_eq}
use Rattle.pathmap.specs.Contents.{over, under}
use Rattle.pathmap.specs.Insides.{inside}
use Rattle.pathmap.specs.Levels.{has_path}
use Rattle.pathmap.specs.Maps.{content}
use Rattle.typed.specs.Faults.{Returns}
use Rattle.typed.specs.Reading.{marked}
use Rattle.typed.specs.Steps.{AreSeen, item_view}
use Rattle.typed.proofs.Adding.{mark_full, seen_more}
use Rattle.typed.proofs.Listed.{repeated}
use Rattle.typed.proofs.items.add_item.Goals as goal

pub returns-then-not-branch : goal.returns-then-not-branch
returns-then-not-branch c answer seen so_far gives rest =
    let f = string_bytes c.in-Ok.item.element in
    let read : answer ≡ Ok (item_view c.in-Ok.item) = subst (λ r. Returns item_view r answer) c.in-Ok.is gives in
    let again : list_any (bytes_eq f) seen ≡ true = sym (so_far f) ∙ not-false _ (sym c.in_ok-insert_child-in-Ok.ensures.added ∙ c.if-not-branch.true) in
    c.wrong.ensures _ (repeated seen c.args.place (item_view c.in-Ok.item) answer rest read again)

pub returns-else-not-branch : goal.returns-else-not-branch
returns-else-not-branch c answer seen so_far gives =
    let old = content c.args.map.now in
    let f = string_bytes c.in-Ok.item.element in
    let m = content c.in-Ok.item.below in
    let read : answer ≡ Ok (item_view c.in-Ok.item) = subst (λ r. Returns item_view r answer) c.in-Ok.is gives in
    let added = c.if-not-branch.false in
    let free : has_path (inside f old) ≡ false = not-true _ (sym c.in_ok-insert_child-in-Ok.ensures.added ∙ added) in
    let put : content c.insert_child.new.self ≡ over old (marked f m) =
    c.in_ok-insert_child-in-Ok.ensures.put ∙ ap (λ b. cond b (over old (under f (content c.mark.new.self))) old) added ∙ ap (λ x. over old (under f x)) c.mark.ensures in (
      item_view c.in-Ok.item,
      read,
      sym (so_far f) ∙ free,
      put,
      subst (AreSeen (f ∷ seen)) (sym put) (seen_more old f _ seen so_far free (mark_full m)),
    )
