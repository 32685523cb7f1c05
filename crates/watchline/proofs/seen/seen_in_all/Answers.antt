use Rattle.std.proofs.Common.{◌∙◌, ◌-◌, ◌∷◌, [], List, ℕ, Option, None, ap, sym, option_map, string_bytes}
use Rattle.std.specs.FinMap as fin
use Rattle.history.specs.Read.{key_of}
use Rattle.history.specs.Seen.{SeenKind, seen_as, seen_by}
use Rattle.history.specs.View.{state_in}
use Rattle.watchline.specs.BatchViews.{body_if_selected, kind_of_put}
use Rattle.watchline.proofs.InAll.{all_selected, put_seen}
use Rattle.watchline.proofs.seen.seen_in_all.Goals as goal

pub returns-in_ok-deleted-in-None-clause-seen : goal.returns-in_ok-deleted-in-None-clause-seen
returns-in_ok-deleted-in-None-clause-seen c =
    let r = c.args.change.revision in
    let k = key_of c.args.change.key in
    let stood = ap (option_map (λ o. o.body)) c.in_ok-deleted-in-None.ensures.ok in
    c.seen_deletion.ensures
    ∙ ap (λ (b : Option (List ℕ)). seen_by r k b None) (stood ∙ sym (all_selected k (option_map (λ o. o.body) (fin.get (state_in c.args.store.now (r - 1)) k))))
    ∙ ap (λ (b : Option (List ℕ)). seen_by r k (body_if_selected [] k (option_map (λ o. o.body) (fin.get (state_in c.args.store.now (r - 1)) k))) (body_if_selected [] k b)) (sym (ap (option_map string_bytes) c.in-None.is))

pub returns-in_ok-stood-in-Some-clause-seen : goal.returns-in_ok-stood-in-Some-clause-seen
returns-in_ok-stood-in-Some-clause-seen c =
    let r = c.args.change.revision in
    let k = key_of c.args.change.key in
    let before = fin.get (state_in c.args.store.now (r - 1)) k in
    let after = string_bytes c.in-Some.after in
    ap (λ x. x ∷ []) c.seen_as.ensures
    ∙ ap (λ (kind : SeenKind). seen_as kind k r after) (c.kind_of_put.ensures ∙ ap kind_of_put c.in_ok-stood-in-Some.ensures.ok)
    ∙ put_seen r k after before
    ∙ ap (λ (b : Option (List ℕ)). seen_by r k (body_if_selected [] k (option_map (λ o. o.body) before)) (body_if_selected [] k b)) (sym (ap (option_map string_bytes) c.in-Some.is))
