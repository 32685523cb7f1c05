use Rattle.std.proofs.Common.{◌≡◌, ◌∙◌, ℕ, List, Option, ap, false, option_map, subst, sym, true}
use Rattle.std.specs.BTreeMap.{get}
use Rattle.std.specs.FinMap as fin
use Rattle.std.specs.Prelude.{is_none}
use Rattle.std.specs.Ordering.{eq_by_cmp, nat_cmp}
use Rattle.httpedge.specs.Connections.{IsUntaken, written_on}
use Rattle.httpedge.specs.Steps.{State, goes, refusal}
use Rattle.world.specs.Recording.{HandledBy, IsKept, kept_on}
use Rattle.world.specs.declared.recording.Handled.{Handled}
use Rattle.world.proofs.Kept.{kept_goes, put_seen, refused_same}
use Rattle.world.proofs.recording.Recording.go.Goals as goal

pub returns-in_ok-put_first-in-Done-clause-handled : goal.returns-in_ok-put_first-in-Done-clause-handled
returns-in_ok-put_first-in-Done-clause-handled c = λ s records.
    let id = c.args.id in
    let led = c.in_ok-why.ensures.handled s records.0 in
    let t = led.0 in
    let by = subst (λ (h : Handled). HandledBy s (goes id) h t) c.in-Done.is led.1 in
    let bytes = c.in_ok-written.written.items in
    let out : IsUntaken (fin.get s.connections id) → bytes ≡ written_on s.connections id =
    λ untaken. c.in_ok-written.ensures.items ∙ c.out.ensures s records.0 ∙ c.all_is_out.ensures.one_written s.connections id untaken in
    let taken : is_none (refusal s (goes id)) ≡ true = ap is_none by.0 in
    let kept : (q : ℕ) → IsKept (option_map (λ v. v.items) (get nat_cmp c.put_first.new.values q)) (fin.get t.connections q) =
    λ q. subst (λ (o : Option (List ℕ)). IsKept o (fin.get t.connections q))
    (sym (ap (option_map (λ v. v.items)) (c.in_ok-put_first-in-Done.ensures q) ∙ put_seen (λ v. v.items) (get nat_cmp c.args.self.now.gone q) (eq_by_cmp nat_cmp id q) c.in_ok-written.written))
    (kept_goes c.all_is_out.ensures.one_stays c.gone_stays.ensures.stays s t id bytes out taken (by.1.0, by.1.1, by.1.2) q (kept_on c.args.self.now q) (records.1 q)) in
    (t, by, (led.2, kept))

pub returns-in-Refused-clause-handled : goal.returns-in-Refused-clause-handled
returns-in-Refused-clause-handled c = λ s records.
    let e = goes c.args.id in
    let led = c.in_ok-why.ensures.handled s records.0 in
    let t = led.0 in
    let by = subst (λ (h : Handled). HandledBy s e h t) c.in-Refused.is led.1 in
    let refused : is_none (refusal s e) ≡ false = ap is_none by.0 in
    let unchanged = refused_same s t e refused by.1 in
    (t, by, (led.2, subst (λ (x : State). (q : ℕ) → IsKept (kept_on c.args.self.now q) (fin.get x.connections q)) (sym unchanged) records.1))
