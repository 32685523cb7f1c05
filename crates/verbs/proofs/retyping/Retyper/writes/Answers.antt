use Rattle.std.proofs.Common.{rules, ◌≡◌, ◌≤◌, ◌∙◌, ◌+◌, ◌++◌, ℕ, suc, None, ap, arith, length, map, refl, subst, sym}
use Rattle.std.proofs.lemmas.Result.{IfErr-weaker}
use Rattle.history.specs.Page.{listed}
use Rattle.history.specs.Read.{entry_of, write_of}
use Rattle.history.specs.View.{View}
use Rattle.verbs.specs.GatheredViews.{AreReadable, AreWritable, IsTooMany, gathered, new_types, old_types}
use Rattle.verbs.specs.Views.{objects_in}
use Rattle.verbs.proofs.ByTypes.{of_types_before}
use Rattle.verbs.proofs.Gathering.{all_of_types, few_types, none_found, none_yet, past_all, readable_of, too_many, type_added}
use Rattle.verbs.proofs.retyping.Retyper.writes.Goals as goal
use Rattle.verbs.proofs.retyping.Retyper.writes.Goals.{else-loop-kind-test, then-loop-kind-test+then-is_none}

pub loop-kind-init : goal.loop-kind-init
loop-kind-init c = record {
  writable = subst (λ l. AreWritable c.args.self.current (map write_of l)) (sym c.new-writes.ensures.items) c.requires.current;
  reported = ap (map write_of) c.new-writes.ensures.items ∙ none_yet (old_types c.args.self) (new_types c.args.self) c.args.self.current (objects_in c.args.store.now);
  same = refl;
}

pub returns-in_err-add_all-clause-refused : goal.returns-in_err-add_all-clause-refused
returns-in_err-add_all-clause-refused c =
    let types = old_types c.args.self in
    let next_types = new_types c.args.self in
    let s = objects_in c.args.store.now in
    let ws = map write_of c.loop-kind.writes.items in
    let place = c.args.self.current + length ws in
    let found = map entry_of c.in_ok-entries.entries.items in
    let listed_all = c.in_ok-entries.ensures.objects ∙ ap (λ (v : View). listed c.loop-kind.kind None None (objects_in v)) c.loop-kind.invariant.same in
    IfErr-weaker c.from_residual-in_err-add_all.result (IsTooMany (place + length (gathered types next_types place found))) _
    (λ fault many. too_many types next_types c.args.self.current c.loop-kind.kind s ws fault c.loop-kind.invariant.reported (subst (λ l. IsTooMany (place + length (gathered types next_types place l)) fault) listed_all many))
    (search rules)

pub returns-in_err-add_all-clause-readable : goal.returns-in_err-add_all-clause-readable
returns-in_err-add_all-clause-readable c = λ texts is.
    let listed_all = c.in_ok-entries.ensures.objects ∙ ap (λ (v : View). listed c.loop-kind.kind None None (objects_in v)) c.loop-kind.invariant.same in
    c.add_all.ensures.readable (subst (AreReadable (old_types c.args.self)) (sym listed_all) (readable_of (old_types c.args.self) (objects_in c.args.store.now) texts c.loop-kind.kind)) (search rules)

pub loop-kind-preserved : goal.loop-kind-preserved
loop-kind-preserved c =
    let types = old_types c.args.self in
    let next_types = new_types c.args.self in
    let s = objects_in c.args.store.now in
    let r = c.args.self.current in
    let kind = c.loop-kind.kind in
    let ws = map write_of c.loop-kind.writes.items in
    let more = map write_of c.add_all.new.writes.items in
    let listed_all = c.in_ok-entries.ensures.objects ∙ ap (λ (v : View). listed kind None None (objects_in v)) c.loop-kind.invariant.same in
    let next : suc kind ≡ kind + 1 = omega arith in
    record {
      writable = c.in_ok-add_all.ensures.writable;
      reported =
          type_added types next_types r kind s ws more c.loop-kind.invariant.reported (c.in_ok-add_all.ensures.ok ∙ ap (λ l. ws ++ gathered types next_types (r + length ws) l) listed_all)
          ∙ ap (λ (n : ℕ). gathered types next_types r (of_types_before n s)) next;
      same = c.in_ok-entries.ensures.same ∙ c.loop-kind.invariant.same;
    }

pub returns-clause-ok : goal.returns-clause-ok
returns-clause-ok c = λ texts.
    let types = old_types c.args.self in
    let s = objects_in c.args.store.now in
    let past : length types ≤ c.loop-kind.kind = elim c.loop-kind-test.branch [
      | else-loop-kind-test w ↦ (let few : length types ≤ 4294967295 = few_types c.args.self.types.old.now in let end : 4294967295 ≤ c.loop-kind.kind = w.loop-kind-test.false in omega (arith, few, end))
      | then-loop-kind-test+then-is_none w ↦ past_all types c.loop-kind.kind (none_found w.get.result _ _ w.is_none.result w.get.ensures.found w.is_none.ensures w.if-is_none.true)
    ] in
    c.loop-kind.invariant.reported ∙ ap (gathered types (new_types c.args.self) c.args.self.current) (all_of_types types s texts c.loop-kind.kind past)
