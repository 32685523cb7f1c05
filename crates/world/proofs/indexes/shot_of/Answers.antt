use Rattle.std.proofs.Common.{◌≡◌, ◌∙◌, ◌&&◌, ℕ, Bor, List, true, ap, map, string_bytes, subst, sym}
use Rattle.std.specs.Cmp.Lexicographic.{slice_cmp}
use Rattle.std.specs.List.Sorted.{IsStrictlySortedBy}
use Rattle.std.specs.Ordering.{nat_cmp}
use Rattle.indexer.specs.Indexer.{indexed_objects_of, is_under, names_of}
use Rattle.indexer.specs.Objects.{is_among, place_of}
use Rattle.world.proofs.Shots.{all_filled, listed_all}
use Rattle.world.proofs.indexes.shot_of.Goals as goal

pub returns-clause-shows : goal.returns-clause-shows
returns-clause-shows g c =
    let held = indexed_objects_of c.args.indexer.now in
    let names = names_of c.args.indexer.now in
    let name = c.args.name.now in
    let texts = map (λ t. t.now) c.in_ok-texts.texts.items in
    let keys = c.in_ok-keys.keys.items in
    let same : map (λ e. string_bytes e.0) keys ≡ texts = c.in_ok-keys.ensures.keys ∙ ap (λ (ts : List (Bor (List ℕ))). map (λ t. t.now) ts) c.deref.ensures.value in
    record {
      members = λ key q.
          c.in_ok-keys.ensures.members key q
          ∙ ap (λ ts. is_among (map (λ t. t.now) ts) key && is_under held names name key (place_of q)) c.deref.ensures.value
          ∙ listed_all (λ k. is_under held names name key (place_of k)) texts key q (c.in_ok-texts.ensures.members key)
          ∙ ap (λ n. is_under held names n key (place_of q)) (sym c.in_ok-name.ensures.ok);
      ascending = subst (IsStrictlySortedBy (slice_cmp nat_cmp)) (sym same) c.in_ok-texts.ensures.ascending;
      filled = all_filled held names name keys (λ k is. (c.in_ok-texts.ensures.members k).0 (subst (λ ts. is_among ts k ≡ true) same is)) c.in_ok-keys.ensures.copied;
    }
