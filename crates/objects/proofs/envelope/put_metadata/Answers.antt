use Rattle.std.proofs.Common.{◌≤◌, ◌==◌, ◌∙◌, refl, sym, ap, subst, codes, length}
use Rattle.json.proofs.Trees.{view-Object}
use Rattle.json_texts.specs.InOrder.{data_of}
use Rattle.serde_json.specs.Data.{put}
use Rattle.objects.specs.Borrowed.{data_in, place_in}
use Rattle.objects.proofs.Lent.{is_put, left_ordered, nothing_left, place_within, put_ordered, something_left}
use Rattle.objects.proofs.envelope.put_metadata.Goals as goal

pub insert-requires : goal.insert-requires
insert-requires c =
    let es = c.deref.result.now in
    subst (λ n. c.place_in-place.result ≤ n) c.deref.ensures.len (subst (λ r. r ≤ length es) (sym c.place_in-place.ensures) (place_within (codes "metadata") es))

pub returns-then-is_empty-clause-put : goal.returns-then-is_empty-clause-put
returns-then-is_empty-clause-put c =
    let left = c.args.left in
    sym (nothing_left left.items (data_in c.args.members.now.items) (sym (ap (λ n. n == 0) left.ok.0) ∙ sym c.is_empty.ensures ∙ c.if-is_empty.true))

pub returns-clause-put : goal.returns-clause-put
returns-clause-put c =
    let left = c.args.left in
    let es = c.args.members.now.items in
    is_put (codes "metadata") es c.place_in-place.result _ c.insert.new.self.items c.in_ok-insert.ensures.items
    (c.place_in-place.ensures ∙ ap (λ l. place_in (codes "metadata") (data_in l)) c.deref.ensures.value) refl c.requires.others.1
    ∙ ap (λ j. put (codes "metadata") (data_of j) (data_in es)) (view-Object left)
    ∙ sym (something_left left.items (data_in es) (sym (ap (λ n. n == 0) left.ok.0) ∙ sym c.is_empty.ensures ∙ c.if-is_empty.false))

pub returns-clause-ordered : goal.returns-clause-ordered
returns-clause-ordered c =
    let es = c.args.members.now.items in
    put_ordered (codes "metadata") es c.place_in-place.result _ c.insert.new.self.items c.in_ok-insert.ensures.items
    (c.place_in-place.ensures ∙ ap (λ l. place_in (codes "metadata") (data_in l)) c.deref.ensures.value) refl c.requires.others.1
    (left_ordered c.args.left c.requires.left) c.requires.others.0
