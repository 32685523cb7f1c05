use Rattle.std.proofs.Common.{◌∙◌, ap₂, map, List, String, Global}
use Rattle.std.specs.Prelude.{string_bytes}
use Rattle.std.specs.List.{position}
use Rattle.std.specs.Str.{bytes_eq}
use Rattle.indexer.specs.Objects.{under_number}
use Rattle.indexer.specs.Postings.{Postings}
use Rattle.indexer.proofs.IndexedObjects.{under_is}
use Rattle.indexer.proofs.indexer.Indexer.by_index.Goals as goal

pub returns-clause-members : goal.returns-clause-members
returns-clause-members g c = λ q.
    let kept = c.args.self.now in
    let number = λ (names : List (String Global)). position (λ n. bytes_eq n c.args.name.now) (map string_bytes names) in
    c.objects_under.ensures.members q
    ∙ ap₂ (λ (ps : List Postings) (names : List (String Global)). under_number ps (number names) c.args.key.now q) c.deref-2.ensures.value c.deref.ensures.value
    ∙ under_is kept.objects kept.postings.items kept.indexed (number kept.names.items) c.args.key.now q
