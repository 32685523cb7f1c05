use Rattle.std.proofs.Common.{◌≡◌, true, ◌∙◌, sym, ap}
use Rattle.objects.specs.Managers.{pairs}
use Rattle.objects.specs.Ranks.{have_paths, rising}
use Rattle.objects.proofs.Entries.{entries-sorted}
use Rattle.objects.proofs.Rising.{rising_sorted, owners_have_paths}
use Rattle.objects.proofs.managers.Managers.with_entries.Goals as goal

pub invariant_of-result : goal.invariant_of-result
invariant_of-result c =
    let es = pairs c.args.entries.items in
    let up : rising es ≡ true = ap (λ l. rising (pairs l)) (sym c.deref.ensures.value) ∙ sym c.are_rising.ensures ∙ c.if-are_rising.true in
    let some : have_paths es ≡ true = ap (λ l. have_paths (pairs l)) (sym c.deref-then-are_rising.ensures.value) ∙ sym c.have_paths.ensures ∙ c.if-have_paths.true in
    (entries-sorted es (rising_sorted es up), owners_have_paths es some)

pub returns-then-have_paths-clause-entries : goal.returns-then-have_paths-clause-entries
returns-then-have_paths-clause-entries c =
    let es = pairs c.args.entries.items in
    let up : rising es ≡ true = ap (λ l. rising (pairs l)) (sym c.deref.ensures.value) ∙ sym c.are_rising.ensures ∙ c.if-are_rising.true in
    entries-sorted es (rising_sorted es up)
