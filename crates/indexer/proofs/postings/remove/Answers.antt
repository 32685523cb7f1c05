use Rattle.std.proofs.Common.{rules, ◌≡◌, ◌∙◌, ◌&&◌, not, ap, Some, None, false, sym, refl, cond}
use Rattle.std.specs.BTreeMap.{is_at}
use Rattle.std.specs.Str.{bytes_eq}
use Rattle.std.specs.BTreeSet.{contains}
use Rattle.indexer.specs.Keys.{is_same, key_cmp}
use Rattle.indexer.specs.Postings.{listed_at}
use Rattle.indexer.proofs.ByText.{updates_text}
use Rattle.indexer.proofs.Under.{cond_and, nothing_in, gone, takes_under}
use Rattle.indexer.proofs.postings.remove.Goals as goal

pub returns-else-is_empty : goal.returns-else-is_empty
returns-else-is_empty c = λ k q.
    let old = c.args.postings.now in
    let new = c.get_mut.follows.lender c.remove.new.self in
    let before = c.in-Some.keys.now in
    let after = c.remove.new.self in
    let here = is_same c.args.key.now q in
    let sets = updates_text c.args.text.now old new (Some after) ((c.get_mut.follows.holds after).3 (search rules)) in
    let holds : contains key_cmp after q ≡ (contains key_cmp before q && not here) = c.remove.ensures.updates.0 q ∙ cond_and here (contains key_cmp before q) in
    takes_under c.args.text.now old new (Some before) (Some after) sets (sym c.in-Some.ensures.value) k q here holds

pub returns-then-is_empty : goal.returns-then-is_empty
returns-then-is_empty c = λ k q.
    let old = c.args.postings.now in
    let between = c.get_mut.follows.lender c.remove.new.self in
    let new = c.remove-then-is_empty.new.self in
    let before = c.in-Some.keys.now in
    let after = c.remove.new.self in
    let here = is_same c.args.key.now q in
    let first = updates_text c.args.text.now old between (Some after) ((c.get_mut.follows.holds after).3 (search rules)) in
    let second = updates_text c.args.text.now between new None c.remove-then-is_empty.ensures.updates in
    let none : false ≡ (contains key_cmp before q && not here) =
    sym (nothing_in (is_at (key_cmp q)) after.keys (c.if-is_empty.ensures.0 refl)) ∙ c.remove.ensures.updates.0 q ∙ cond_and here (contains key_cmp before q) in
    takes_under c.args.text.now old new (Some before) None
    (λ cs. second cs ∙ ap (cond (bytes_eq c.args.text.now cs) None) (first cs) ∙ gone (bytes_eq c.args.text.now cs) (Some after) (listed_at old cs)) (sym c.in-Some.ensures.value) k q here none
