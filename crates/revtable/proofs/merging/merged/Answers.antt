use Rattle.std.proofs.Common.{◌≡◌, ◌∙◌, ap, map, rules}
use Rattle.std.proofs.lemmas.Fn.{always_returns_same}
use Rattle.history.specs.Kept.{with_body}
use Rattle.revtable.specs.Asked.{deletions}
use Rattle.history.specs.Read.{change_of}
use Rattle.revtable.proofs.Prefixes.{merged_is, read_back}
use Rattle.revtable.proofs.merging.merged.Goals as goal

pub returns : goal.returns
returns c cs top rising made deleted =
    let sorted = c.sort_unstable_by_key.ensures.sorted (λ change. change.revision) (always_returns_same _ (λ a r. r ≡ a.0.now.revision) _ (λ a r q k. search rules)) in
    ap (map change_of) c.truncate.ensures.items
    ∙ merged_is cs top c.args.max c.in_ok-changes.changes.items c.in_ok-others.others.items c.append.new.self.items c.sort_unstable_by_key.new.self.items rising
    (read_back c.args.max (with_body cs) c.args.made.now _ c.in_ok-changes.ensures made) (read_back c.args.max (deletions cs) c.args.deleted.now _ c.in_ok-others.ensures deleted)
    c.in_ok-append.ensures.items c.sort_unstable_by_key.ensures.permutation sorted
