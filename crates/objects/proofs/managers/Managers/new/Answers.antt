use Rattle.std.proofs.Common.{sym, ap, ◌∙◌, subst}
use Rattle.std.specs.FinMap as fin
use Rattle.objects.specs.Owners.{HavePaths, manager_cmp}
use Rattle.objects.specs.Managers.{pairs}
use Rattle.objects.proofs.Entries.{entries-empty, none_have_paths}
use Rattle.objects.proofs.managers.Managers.new.Goals as goal

pub invariant_of-result : goal.invariant_of-result
invariant_of-result c = (
  ap (λ l. fin.entries (fin.from_entries {R = manager_cmp} (pairs l))) c.new.ensures.items ∙ entries-empty ∙ sym (ap pairs c.new.ensures.items),
  subst (λ l. HavePaths (fin.from_entries {R = manager_cmp} (pairs l))) (sym c.new.ensures.items) none_have_paths,
)
