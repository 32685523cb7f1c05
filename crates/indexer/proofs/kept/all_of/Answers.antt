use Rattle.std.proofs.Common.{◌≡◌, ◌∙◌, ◌++◌, List, [], map, ap, sym, append-nil}
use Rattle.indexer.specs.Objects.{Place, Stored, place_of, shared_of}
use Rattle.indexer.specs.declared.entry.Entry.{Entry}
use Rattle.indexer.specs.declared.object.ObjectKey.{ObjectKey}
use Rattle.indexer.proofs.IndexedObjects.{without_keys, held_objects}
use Rattle.indexer.proofs.kept.all_of.Goals as goal

whole : (emitted : List (Place × Stored)) (left es : List (ObjectKey × Entry)) → [] ≡ left → emitted ++ map without_keys left ≡ map without_keys es → emitted ≡ map without_keys es
whole emitted left es none is = sym (append-nil emitted) ∙ ap (λ (rest : List (ObjectKey × Entry)). emitted ++ map without_keys rest) none ∙ is

pub returns : goal.returns
returns c =
    whole (map (λ e. (place_of e.0.now, shared_of e.1.now)) c.loop-key.all.items) _ c.args.objects.now.entries (sym c.in-None.ensures.steps.0) c.loop-key.invariant
    ∙ held_objects c.args.objects.now c.iter-key-items.ensures.ordered
