use Rattle.std.proofs.Common.{◌++◌, [], string_bytes, sym, ap, ◌∙◌, true≢false}
use Rattle.std.proofs.lemmas.List.{append-nil}
use Rattle.pathmap.specs.Maps.{contents_in}
use Rattle.pathmap.proofs.Inserting.{on_ok}
use Rattle.pathmap.proofs.Picking.{kept-bare, kept-full}
use Rattle.pathmap.proofs.pick.push_full.Goals as goal

pub returns-then-is_bare : goal.returns-then-is_bare
returns-then-is_bare c =
    let old = contents_in c.args.all.now.items in
    sym (ap (λ l. old ++ l) (kept-bare (string_bytes c.args.name.now) c.args.made [] (c.is_bare.ensures.0 c.if-is_bare.true)) ∙ append-nil old)

pub returns : goal.returns
returns c =
    let old = contents_in c.args.all.now.items in
    on_ok c.push_made.result _ _ (λ did. did ∙ ap (λ l. old ++ l) (sym (kept-full (string_bytes c.args.name.now) c.args.made [] (λ none. true≢false (sym (c.is_bare.ensures.1 none) ∙ c.if-is_bare.false))))) c.push_made.ensures
