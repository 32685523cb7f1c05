use Rattle.std.proofs.Common.{◌∷◌, [], map, string_bytes, sym, ap, ◌∙◌, subst, true, false, arith}
use Rattle.std.specs.FinMap as fin
use Rattle.pathmap.specs.Contents.{gather, over}
use Rattle.pathmap.specs.Levels.{at_top, AreChildren, child_of}
use Rattle.pathmap.specs.Maps.{content, content_or_nothing, contents_in, leaf_value}
use Rattle.pathmap.proofs.Halving.{well_typed}
use Rattle.pathmap.proofs.Inserting.{either_way, on_ok}
use Rattle.pathmap.proofs.Levels.{no_entries}
use Rattle.pathmap.proofs.Putting.{insert-below, insert-top, inserted_path, insert_new, put_at, put_children}
use Rattle.pathmap.proofs.insert.+insert.Goals as goal

pub insert_at-returns-in_default-clause-ok : goal.insert_at-returns-in_default-clause-ok
insert_at-returns-in_default-clause-ok t c =
    let none = ap (map string_bytes) (no_entries c.args.texts.now c.in_default.ensures.cases) in
    insert-top c.here.inside.held c.args.held (contents_in c.here.inside.below.items) ∙ ap (λ m. fin.insert m [] (leaf_value c.args.held)) c.here.view_is
    ∙ ap (λ p. fin.insert (content c.args.here.now) p (leaf_value c.args.held)) (sym none)

pub insert_at-invariant_of-here-2 : goal.insert_at-invariant_of-here-2
insert_at-invariant_of-here-2 t c =
    let cs = contents_in c.here.inside.below.items in
    let f = string_bytes c.in-Some.name.now in
    let old = content_or_nothing (child_of f cs) in
    let p = map string_bytes c.in-Some.rest.now in
    let v = leaf_value c.args.held in
    either_way c.insert_below.result _ _ (AreChildren (contents_in c.insert_below.new.below.items))
    (λ did. subst AreChildren (sym (did c.here.invariant.0)) (put_children f (fin.insert old p v) cs (inserted_path old p v) c.here.invariant))
    (λ kept. subst AreChildren (sym kept) c.here.invariant) c.insert_below.ensures.ok c.insert_below.ensures.err

pub insert_at-returns-clause-ok : goal.insert_at-returns-clause-ok
insert_at-returns-clause-ok t c =
    let cs = contents_in c.here.inside.below.items in
    let f = string_bytes c.in-Some.name.now in
    let p = map string_bytes c.in-Some.rest.now in
    let v = leaf_value c.args.held in
    on_ok c.insert_below.result _ _ (λ did.
    ap (λ l. over (at_top c.here.inside.held) (gather l)) (did c.here.invariant.0) ∙ insert-below c.here.inside.held f p v cs c.here.invariant ∙ ap (λ m. fin.insert m (f ∷ p) v) c.here.view_is
    ∙ ap (λ ts. fin.insert (content c.args.here.now) (map string_bytes ts) v) (sym c.in-Some.ensures.cases.0)) c.insert_below.ensures.ok

pub insert_below-index_mut-requires : goal.insert_below-index_mut-requires
insert_below-index_mut-requires t c =
    let lt = c.is_at.ensures.within c.if-is_at.true in
    let long = c.deref-2.ensures.len in
    omega (arith, lt, long)

pub insert_below-returns-then-is_at-clause-ok : goal.insert_below-returns-then-is_at-clause-ok
insert_below-returns-then-is_at-clause-ok t c =
    let name = string_bytes c.args.name.now in
    on_ok c.insert_at.result _ _ (λ did rises.
    put_at name c.args.below.now.items c.place_of-place.result c.index_mut.result.now c.insert_at.new.here (map string_bytes c.args.rest.now) (leaf_value c.args.held) rises
    (well_typed name c.deref.result.now c.deref-2.result.now c.args.below.now.items c.place_of-place.result c.is_at.result true c.deref.ensures.value c.deref-2.ensures.value rises c.place_of-place.ensures.count c.is_at.ensures.index c.if-is_at.true).0 c.index_mut.ensures.value did) c.insert_at.ensures.ok

pub insert_below-returns-clause-ok : goal.insert_below-returns-clause-ok
insert_below-returns-clause-ok t c = λ rises.
    let name = string_bytes c.args.name.now in
    let at = well_typed name c.deref.result.now c.deref-2.result.now c.args.below.now.items c.place_of-place.result c.is_at.result false c.deref.ensures.value c.deref-2.ensures.value rises c.place_of-place.ensures.count c.is_at.ensures.index c.if-is_at.false in
    ap contents_in c.in_ok-insert.ensures.items
    ∙ insert_new name c.args.below.now.items c.place_of-place.result c.in_ok-try_copy.field-0 c.insert_at-2.new.here (content c.empty-made.result) (map string_bytes c.args.rest.now) (leaf_value c.args.held)
    at.0 at.1 c.in_ok-try_copy.ensures c.empty-made.ensures c.in_ok-insert_at.ensures.ok
