use Rattle.std.proofs.Common.{◌∙◌, ap, refl, sym}
use Rattle.std.specs.List.{list_any}
use Rattle.std.specs.Ordering.{eq_by_cmp}
use Rattle.std.proofs.lemmas.Result.{IfOk-weaker}
use Rattle.indexer.specs.Objects.{place_cmp, place_of}
use Rattle.indexer.specs.Postings.{has_in}
use Rattle.std.specs.Prelude.{option_copied}
use Rattle.world.proofs.Shots.{among, none_ascend}
use Rattle.world.proofs.indexes.listed_under.Goals as goal

pub returns-in-Some-clause-members : goal.returns-in-Some-clause-members
returns-in-Some-clause-members g c =
    IfOk-weaker c.copies.result _ _ (λ v same q.
    ap (list_any (eq_by_cmp place_cmp (place_of q))) same ∙ among q c.in-Some.keys.now.keys c.in-Some.keys.now refl ∙ ap (λ o. has_in (option_copied o) q) (sym c.in-Some.is) ∙ c.by_index.ensures.members q)
    c.copies.ensures.places

pub returns-in-None-clause-ascending : goal.returns-in-None-clause-ascending
returns-in-None-clause-ascending g c = none_ascend c.new.result.items c.new.ensures.items
