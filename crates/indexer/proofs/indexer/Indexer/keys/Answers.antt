use Rattle.std.proofs.Common.{◌≡◌, ◌∙◌, ap₂, map, true, List, String, Global}
use Rattle.std.specs.Prelude.{string_bytes}
use Rattle.std.specs.List.{position}
use Rattle.std.specs.Str.{bytes_eq}
use Rattle.std.proofs.lemmas.Result.{IfOk-weaker}
use Rattle.indexer.specs.Indexer.{indexed_objects_of, names_of, is_under}
use Rattle.indexer.specs.Objects.{is_among, place_of, under_number}
use Rattle.indexer.specs.Postings.{Postings}
use Rattle.indexer.proofs.IndexedObjects.{under_is}
use Rattle.indexer.proofs.Shown.{iff_along}
use Rattle.indexer.proofs.indexer.Indexer.keys.Goals as goal

pub returns-clause-members : goal.returns-clause-members
returns-clause-members g c =
    let kept = c.args.self.now in
    let number = λ (names : List (String Global)). position (λ n. bytes_eq n c.args.name.now) (map string_bytes names) in
    IfOk-weaker c.texts_in.result _ _
    (λ v h k. iff_along (is_among (map (λ t. t.now) v.items) k ≡ true)
    (under_number c.deref-2.result.now (number c.deref.result.now) k) (λ q. is_under (indexed_objects_of kept) (names_of kept) c.args.name.now k (place_of q))
    (λ q.
    ap₂ (λ (ps : List Postings) (names : List (String Global)). under_number ps (number names) k q) c.deref-2.ensures.value c.deref.ensures.value
    ∙ under_is kept.objects kept.postings.items kept.indexed (number kept.names.items) k q)
    (h k)) c.texts_in.ensures.members
