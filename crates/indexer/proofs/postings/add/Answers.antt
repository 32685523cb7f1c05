use Rattle.std.proofs.Common.{rules, ◌≡◌, ◌∙◌, ◌&&◌, ◌||◌, ap, ap₂, Some, None, true, false, sym, List, ℕ, cond}
use Rattle.std.specs.BTreeMap.{is_at}
use Rattle.std.specs.Rc.{rc_str_bytes}
use Rattle.std.specs.Str.{bytes_eq}
use Rattle.std.specs.BTreeSet.{contains}
use Rattle.std.specs.List.{list_any}
use Rattle.std.proofs.lemmas.Result.{err_from_is_err_and}
use Rattle.indexer.specs.declared.object.ObjectKey.{ObjectKey}
use Rattle.indexer.specs.Keys.{is_same, key_cmp}
use Rattle.indexer.specs.Postings.{Postings, listed_at, under}
use Rattle.indexer.proofs.ByText.{updates_text}
use Rattle.indexer.proofs.Under.{or_false, cond_or, or_nothing, same_copy, adds_under}
use Rattle.indexer.proofs.postings.add.Goals as goal

pub returns-in_ok-insert-in-Some-clause-ok : goal.returns-in_ok-insert-in-Some-clause-ok
returns-in_ok-insert-in-Some-clause-ok c = λ k q.
    let text = c.as_str.result.now in
    let old = c.args.postings.now in
    let new = c.get_mut.follows.lender c.insert.new.self in
    let before = c.in-Some.keys.now in
    let after = c.insert.new.self in
    let here = is_same c.args.key.now q in
    let sets = updates_text text old new (Some after) ((c.get_mut.follows.holds after).3 (search rules)) in
    let holds : contains key_cmp after q ≡ (contains key_cmp before q || here) =
    c.in_ok-insert-in-Some.ensures.updates.0 q ∙ ap (λ b. cond b true (contains key_cmp before q)) (same_copy c.args.key.now c.in_ok-copy.copy q c.in_ok-copy.ensures) ∙ cond_or here (contains key_cmp before q) in
    adds_under text old new (Some before) (Some after) sets (sym c.in-Some.ensures.value) k q here holds
    ∙ ap (λ (t : List ℕ). under old k q || (bytes_eq t k && here)) c.as_str.ensures.value

pub returns-in_err-insert-in-Some-clause-err : goal.returns-in_err-insert-in-Some-clause-err
returns-in_err-insert-in-Some-clause-err c =
    let p = err_from_is_err_and c.from_residual-in_err-insert-in-Some.result c.from_residual-in_err-insert-in-Some.ensures.1 in
    let text = c.as_str.result.now in
    let old = c.args.postings.now in
    let new = c.get_mut.follows.lender c.insert.new.self in
    let before = c.in-Some.keys.now in
    let after = c.insert.new.self in
    let sets = updates_text text old new (Some after) ((c.get_mut.follows.holds after).3 (search rules)) in
    rw p.1 (λ k q.
    let holds : contains key_cmp after q ≡ (contains key_cmp before q || false) =
    ap (λ (ks : List ObjectKey). list_any (is_at (key_cmp q)) ks) c.in_err-insert-in-Some.ensures.err ∙ or_nothing (contains key_cmp before q) in
    adds_under text old new (Some before) (Some after) sets (sym c.in-Some.ensures.value) k q false holds ∙ or_false _ _)

pub returns-in_ok-insert-in-None-2-clause-ok : goal.returns-in_ok-insert-in-None-2-clause-ok
returns-in_ok-insert-in-None-2-clause-ok c = λ k q.
    let text = c.as_str.result.now in
    let old = c.args.postings.now in
    let new = c.insert-in-None-2.new.self in
    let after = c.insert-in-None.new.self in
    let here = is_same c.args.key.now q in
    let shared = c.in_ok-clone-in-None.field-0 in
    let whole = c.get_mut.follows.lender-at-none in
    let put = updates_text (rc_str_bytes shared) whole new (Some after) c.in_ok-insert-in-None-2.ensures.updates in
    let sets : (cs : List ℕ) → listed_at new cs ≡ cond (bytes_eq text cs) (Some after) (listed_at old cs) = λ cs.
    put cs ∙ ap₂ (λ (t : List ℕ) (m : Postings). cond (bytes_eq t cs) (Some after) (listed_at m cs)) (c.in_ok-clone-in-None.ensures.cases ∙ sym c.as_str.ensures.value) c.get_mut.follows.holds-at-none in
    let holds : contains key_cmp after q ≡ (false || here) =
    c.in_ok-insert-in-None.ensures.updates.0 q
    ∙ ap (λ (ks : List ObjectKey). cond (is_same c.in_ok-copy.copy q) true (list_any (is_at (key_cmp q)) ks)) c.new-keys.ensures.empty
    ∙ ap (λ b. cond b true false) (same_copy c.args.key.now c.in_ok-copy.copy q c.in_ok-copy.ensures) ∙ cond_or here false in
    adds_under text old new None (Some after) sets (sym c.in-None.ensures.value) k q here holds
    ∙ ap (λ (t : List ℕ). under old k q || (bytes_eq t k && here)) c.as_str.ensures.value
