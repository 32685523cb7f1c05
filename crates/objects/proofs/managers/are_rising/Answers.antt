use Rattle.std.proofs.Common.{◌≡◌, rules, tests}
use Rattle.std.proofs.lemmas.List.Sorted.{answers_always}
use Rattle.objects.proofs.Rising.{below, rising_by_neighbours}
use Rattle.objects.proofs.managers.are_rising.Goals as goal

pub returns : goal.returns
returns c =
    rising_by_neighbours c.args.entries.now c.is_sorted_by.result
    (c.is_sorted_by.ensures.cases (λ x y. below x y) (answers_always _ (λ a r. r ≡ below a.0.now a.1.0.now) _ (λ f a r g k. search (rules, tests))))
