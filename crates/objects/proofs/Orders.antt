-- The order of managers.
use Rattle.std.proofs.Common.{sym, ap, ◌∙◌}
use Rattle.std.specs.Cmp.{IsTotalOrder, on_total}
use Rattle.std.specs.FinMap.{IsAntisymmetric}
use Rattle.pathmap.proofs.Contents.{path_cmp_total, path_cmp_antisymmetric}
use Rattle.objects.specs.Codes.{from_texts, from_texts-manager_texts}
use Rattle.objects.specs.Owners.{manager_cmp, manager_texts}

pub manager_total : IsTotalOrder manager_cmp
manager_total = on_total manager_texts path_cmp_total

pub manager_antisymmetric : IsAntisymmetric manager_cmp
manager_antisymmetric m k e = sym (from_texts-manager_texts m) ∙ ap from_texts (path_cmp_antisymmetric (manager_texts m) (manager_texts k) e) ∙ from_texts-manager_texts k
