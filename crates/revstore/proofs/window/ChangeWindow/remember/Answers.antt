use Rattle.std.proofs.Common.{◌≡◌, ◌-◌, ◌<◌, Some, ap, get_or, length, refl, subst, sym, ◌∙◌}
use Rattle.std.specs.FinMap as fin
use Rattle.history.specs.History.{state_at}
use Rattle.history.specs.Read.{key_of}
use Rattle.revstore.specs.declared.window.Latest.{Latest}
use Rattle.revstore.proofs.Latest.{one_known, waits_alike}
use Rattle.revstore.proofs.window.ChangeWindow.remember.Goals as goal

pub returns-clause-latest : goal.returns-clause-latest
returns-clause-latest c = λ h are known.
    let found = c.in-Some.ensures.lookup in
    let at = c.place_of-at.result in
    let l = c.index_mut.result.now in
    let items = c.deref.ensures.value in
    let same : c.in-Some.latest.now ≡ l = found.3.1 l ∙ ap (λ xs. get_or xs at l) items ∙ sym c.index_mut.ensures.value in
    let is = c.if-not-is_of.ensures refl in
    one_known h c.args.self.now _ at l _ are (subst (λ xs. at < length xs) items found.3.0) c.index_mut.ensures.value
    (known ∙ ap (λ n. fin.get (state_at h.changes (n - 1)) (key_of c.args.key.now)) (sym is.0) ∙ ap (fin.get (state_at h.changes (c.in-Some.latest.now.revision - 1))) (sym is.1)
    ∙ ap (λ (x : Latest). fin.get (state_at h.changes (x.revision - 1)) (key_of x.key.value)) same)
    c.args.before refl refl refl refl

pub returns-clause-waiting : goal.returns-clause-waiting
returns-clause-waiting c =
    let found = c.in-Some.ensures.lookup in
    let at = c.place_of-at.result in
    let l = c.index_mut.result.now in
    waits_alike c.args.self.now.latest.items _ at c.args.self.now.written l (record { revision = l.revision; key = l.key; body = l.body; before = Some c.args.before })
    (subst (λ xs. at < length xs) c.deref.ensures.value found.3.0) refl c.index_mut.ensures.value refl
