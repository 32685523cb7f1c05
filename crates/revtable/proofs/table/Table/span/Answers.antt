use Rattle.std.proofs.Common.{◌≡◌, ℕ, List, [], map, min, ap, sym, subst, ◌∙◌, IfOk, Option, option_map, zero-le}
use Rattle.history.specs.History.{Change, History, later, up_to}
use Rattle.history.specs.Kept.{IsPruned}
use Rattle.history.specs.Page.{changes_within, picked}
use Rattle.revtable.specs.Asked.{deletions}
use Rattle.history.specs.Read.{change_of}
use Rattle.revtable.specs.Rows.{shown}
use Rattle.revtable.proofs.Prefixes.{part_deleted, part_made}
use Rattle.revtable.proofs.Numbers.{first_of_none, span_is, span_none, span_rises, span_whole, up_rises}
use Rattle.revtable.proofs.Outcomes.{when_ok}
use Rattle.revtable.proofs.table.Table.span.Goals as goal

abbrev named : goal.After-drop-made-2 → Option (List ℕ)
named c = option_map (λ b. b.now) c.args.namespace

done : (c : goal.After-drop-made-2) → IfOk c.merged.result (λ v. map change_of v.items ≡ changes_within c.args.kind (named c) c.args.max (up_to c.args.to (later c.args.from c.args.self.now.changes)))
done c =
    let h = c.args.self.now in
    let pruned : IsPruned h = subst IsPruned c.self.view_is c.self.invariant.0.pruned in
    let kind = c.args.kind in
    let ns = named c in
    let from = c.min-from.result in
    let to = c.min-to.result in
    let max = c.min-max.result in
    let t = c.in_ok-to.to in
    let all : List Change = later from h.changes in
    let cs : List Change = picked kind ns (up_to to all) in
    let rising = span_rises h kind ns from to pruned in
    let made = c.in_ok-made.ensures.ok ∙ ap (map shown) (part_made kind ns max to all) in
    let cut = c.in_ok-to.ensures.ok cs rising (c.deref.ensures.value ∙ made) in
    let deleted = c.in_ok-deleted.ensures.ok ∙ ap (λ (x : History). map shown (changes_within kind ns max (deletions (up_to t (later from x.changes))))) c.in_ok-made.ensures.same
    ∙ ap (map shown) (part_deleted kind ns max t to all c.in_ok-to.ensures.within) in
    let rest = up_rises 0 t to cs zero-le rising in
    when_ok c.merged.result _ _ (λ v is.
    is ∙ cut.0 ∙ span_is h kind ns c.args.from c.args.to c.args.max from to max pruned
    (c.min-from.ensures ∙ ap (min c.args.from) (c.self.invariant.1 ∙ ap (λ (x : History). x.current) c.self.view_is)) (c.min-to.ensures ∙ ap (min c.args.to) (c.self.invariant.1 ∙ ap (λ (x : History). x.current) c.self.view_is)) c.min-max.ensures)
    (c.merged.ensures (up_to t cs) t rest (c.deref-2.ensures.value ∙ made ∙ ap (map shown) (sym cut.1)) (c.deref-3.ensures.value ∙ deleted))

pub returns-clause-ok : goal.returns-clause-ok
returns-clause-ok c = done c

pub returns-clause-whole : goal.returns-clause-whole
returns-clause-whole c = λ le. when_ok c.merged.result _ _ (λ v is. is ∙ span_whole c.args.self.now c.args.kind (named c) c.args.from c.args.to c.args.max (subst IsPruned c.self.view_is c.self.invariant.0.pruned) le) (done c)

none : (c : goal.After-new) → picked c.args.kind (option_map (λ b. b.now) c.args.namespace) (up_to c.args.to (later c.args.from c.args.self.now.changes)) ≡ []
none c =
    let h = c.args.self.now in
    let pruned : IsPruned h = subst IsPruned c.self.view_is c.self.invariant.0.pruned in
    let current = c.self.invariant.1 ∙ ap (λ (x : History). x.current) c.self.view_is in
    span_none h c.args.kind _ c.args.from c.args.to c.min-from.result c.min-to.result pruned (c.min-from.ensures ∙ ap (min c.args.from) current) (c.min-to.ensures ∙ ap (min c.args.to) current) c.if-from-to.true

pub returns-then-from-to-clause-ok : goal.returns-then-from-to-clause-ok
returns-then-from-to-clause-ok c = ap (map change_of) c.new.ensures.items ∙ first_of_none c.args.max _ (none c)

pub returns-then-from-to-clause-whole : goal.returns-then-from-to-clause-whole
returns-then-from-to-clause-whole c = λ le. ap (map change_of) c.new.ensures.items ∙ sym (none c)
