use Rattle.std.proofs.Common.{◌≡◌, ◌∙◌, ap, map, option_map, ◌-◌, length, sym}
use Rattle.std.proofs.lemmas.List.{length-map, map-append}
use Rattle.history.specs.History.{History, state_at}
use Rattle.revtable.specs.Asked.{in_from, in_one, in_later}
use Rattle.revtable.specs.Kept.{first_kept}
use Rattle.history.specs.Read.{entry_of}
use Rattle.revtable.proofs.FirstKept.{kept_both, kept_full}
use Rattle.revtable.proofs.Halves.{from_next}
use Rattle.revtable.proofs.paging.kept_on.Goals as goal

pub returns-then-left-eq0-clause-ok : goal.returns-then-left-eq0-clause-ok
returns-then-left-eq0-clause-ok g c =
    let wanted = c.args.wanted in
    let objects = state_at c.args.table.now.changes wanted.revision in
    let found = c.in_ok-found.found.items in
    let none : wanted.max - length (map entry_of found) ≡ 0 =
    ap (λ n. wanted.max - n) (length-map found entry_of ∙ sym (c.len.ensures ∙ c.in_ok-found.found.ok.0)) ∙ sym c.saturating_sub-left.ensures ∙ c.if-left-eq0.true in
    kept_full (g.K.Keep.kept c.args.keep.now) wanted.max (in_one wanted.kind c.args.first.now (option_map (λ b. b.now) c.args.name) objects) (in_later wanted.kind c.args.first.now objects) (map entry_of found) c.in_ok-found.ensures.ok none

pub returns-clause-ok : goal.returns-clause-ok
returns-clause-ok g c =
    let wanted = c.args.wanted in
    let kept = g.K.Keep.kept c.args.keep.now in
    let objects = state_at c.args.table.now.changes wanted.revision in
    let found = c.in_ok-found.found.items in
    let more = c.in_ok-more.more.items in
    let left : c.saturating_sub-left.result ≡ wanted.max - length (map entry_of found) = c.saturating_sub-left.ensures ∙ ap (λ n. wanted.max - n) (c.len.ensures ∙ c.in_ok-found.found.ok.0 ∙ sym (length-map found entry_of)) in
    let rest : map entry_of more ≡ first_kept kept c.saturating_sub-left.result (in_later wanted.kind c.args.first.now objects) =
    c.in_ok-more.ensures.ok
    ∙ ap (λ (h : History). first_kept kept c.saturating_sub-left.result (in_from wanted.kind c.as_str.result.now (state_at h.changes wanted.revision))) c.in_ok-found.ensures.same
    ∙ ap (λ low. first_kept kept c.saturating_sub-left.result (in_from wanted.kind low objects)) (c.as_str.ensures.value ∙ c.in_ok-next.ensures)
    ∙ ap (first_kept kept c.saturating_sub-left.result) (from_next wanted.kind c.args.first.now objects) in
    ap (map entry_of) c.in_ok-append.ensures.items ∙ map-append entry_of found more
    ∙ kept_both kept wanted.max c.saturating_sub-left.result (in_one wanted.kind c.args.first.now (option_map (λ b. b.now) c.args.name) objects) (in_later wanted.kind c.args.first.now objects) (map entry_of found) (map entry_of more) c.in_ok-found.ensures.ok left rest
