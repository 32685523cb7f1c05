use Rattle.std.proofs.Common.{ℕ, List, refl, sym, subst}
use Rattle.std.specs.Prelude.{OnOk, string_bytes}
use Rattle.verbs.specs.declared.api.Api.{Api}
use Rattle.api_request.specs.declared.changes.Changes.{Changes}
use Rattle.api_request.specs.Stored.{IsAnswered, Stores}
use Rattle.api_request.specs.Views.{change_of, changes_of}
use Rattle.verbs.specs.Machine.{AreNext, ComeAfter, after}
use Rattle.verbs.specs.Views.{ApiRepresents}
use Rattle.verbs.proofs.Committing.{represents_each}
use Rattle.verbs.proofs.Planning.{on_ok, represents_next, strings_utf8}
use Rattle.verbs.proofs.api.Api.commit.Goals as goal

pub write_change-requires-clause-next : goal.write_change-requires-clause-next
write_change-requires-clause-next c = (subst (λ (x : Changes). ComeAfter c.args.self.now.store (changes_of x)) c.in-Answered.is c.requires).next.0

pub write_change-requires-clause-there : goal.write_change-requires-clause-there
write_change-requires-clause-there c = (subst (λ (x : Changes). ComeAfter c.args.self.now.store (changes_of x)) c.in-Answered.is c.requires).there.0

pub write_change-requires-clause-text : goal.write_change-requires-clause-text
write_change-requires-clause-text c =
    subst (λ (text : List ℕ). Stores text c.in-Answered.change) (sym c.as_str-text.ensures.value)
    (subst (IsAnswered (string_bytes c.args.plan.now.answer.body)) c.in-Answered.is c.args.plan.now.answered)

pub write_each-requires : goal.write_each-requires
write_each-requires c = subst (λ (x : Changes). ComeAfter c.args.self.now.store (changes_of x)) c.in-Each.is c.requires

pub returns-in-None-clause-ok : goal.returns-in-None-clause-ok
returns-in-None-clause-ok c = λ types m represents next.
    subst (λ (x : Changes). ApiRepresents c.args.self.now types (after m (changes_of x))) (sym c.in-None.is) represents

pub returns-in-Answered-clause-ok : goal.returns-in-Answered-clause-ok
returns-in-Answered-clause-ok c = λ types m represents next.
    let old = c.args.self.now in
    let new : Api = record { alloc = old.alloc; catalog = old.catalog; routes = old.routes; store = c.write_change.new.store; labels = old.labels } in
    let comes = subst (λ (x : Changes). AreNext types m (changes_of x)) c.in-Answered.is next in
    subst (λ (x : Changes). OnOk c.write_change.result (ApiRepresents new types (after m (changes_of x)))) (sym c.in-Answered.is)
    (on_ok c.write_change.result (λ store. represents_next old new types m (change_of c.in-Answered.change) represents comes.0 (strings_utf8 (λ s. s.value) c.in-Answered.change.text) refl store) c.write_change.ensures.ok)

pub returns-in-Each-clause-ok : goal.returns-in-Each-clause-ok
returns-in-Each-clause-ok c = λ types m represents next.
    let old = c.args.self.now in
    let new : Api = record { alloc = old.alloc; catalog = old.catalog; routes = old.routes; store = c.write_each.new.store; labels = old.labels } in
    let each = c.in-Each.writes in
    let come = subst (λ (x : Changes). AreNext types m (changes_of x)) c.in-Each.is next in
    subst (λ (x : Changes). OnOk c.write_each.result (ApiRepresents new types (after m (changes_of x)))) (sym c.in-Each.is)
    (on_ok c.write_each.result (λ store. represents_each old new types m each.after each.writes.items represents come refl store) c.write_each.ensures.ok)
