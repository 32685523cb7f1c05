use Rattle.std.proofs.Common.{ℕ, Bool, false, List, ◌++◌, refl, sym, ap, subst, ◌∙◌, append-nil}
use Rattle.std.specs.Prelude.{◌||◌}
use Rattle.std.specs.List.Sorted.{IsStrictlySortedBy}
use Rattle.std.specs.Ordering.{nat_cmp}
use Rattle.httpedge.specs.declared.effect.Change.{Change}
use Rattle.httpedge.specs.ConnectionViews.{found_in}
use Rattle.httpedge.specs.TickViews.{ticked_at}
use Rattle.httpedge.proofs.Ticked.{ToldSoFar, sorted_rest, tell_all, ticks_begin, ticks_end, told_more, told_of}
use Rattle.httpedge.proofs.ticking.tick_all.Goals as goal

pub loop-id-init : goal.loop-id-init
loop-id-init c =
    let gives = c.into_iter-id-iterator.ensures.into_iter_gives in (
      subst (IsStrictlySortedBy nat_cmp) (sym gives.0) gives.4,
      λ q. refl,
      λ types m before had_ended cut represents held listed. (
        before,
        held,
        subst (λ (left : List ℕ). ToldSoFar types c.args.ms before c.args.ids.now.keys left before c.new-changes.result.items false) (sym gives.0)
            (ticks_begin types c.args.ms before c.args.ids.now listed, λ is. ap (λ (told : List (ℕ × Change)). told ++ told_of types c.args.ms before c.args.ids.now.keys) c.new-changes.ensures.items),
      ),
    )

pub loop-id-preserved-then-some_ran_out : goal.loop-id-preserved-then-some_ran_out
loop-id-preserved-then-some_ran_out c =
    let left = c.next.new.self in
    let id = c.in-Some.id.now in
    let ids = c.args.ids.now.keys in
    let told = c.tick_at-out_of_memory.new.changes.items in
    let out_of_memory = c.tick_at-out_of_memory.result in
    let sorted = subst (IsStrictlySortedBy nat_cmp) c.in-Some.ensures.steps c.loop-id.invariant.0 in (
      sorted_rest id left sorted,
      λ q. c.tick_at-out_of_memory.ensures.keys q ∙ c.loop-id.invariant.1 q,
      λ types m before had_ended cut represents held listed.
          let was = c.loop-id.invariant.2 types m before had_ended cut represents held listed in
          let one = c.tick_at-out_of_memory.ensures.ticks types m was.0 had_ended cut represents was.1 in (
            ticked_at types c.args.ms out_of_memory was.0 id,
            one.0,
            subst (λ (b : Bool). ToldSoFar types c.args.ms before ids left (ticked_at types c.args.ms out_of_memory was.0 id) told b)
                (ap (λ (b : Bool). b || out_of_memory) c.if-some_ran_out.true ∙ sym c.if-some_ran_out.true)
                (told_more types c.args.ms before ids id left was.0 c.loop-id.changes.items told c.loop-id.some_ran_out out_of_memory sorted
                (subst (λ (l : List ℕ). ToldSoFar types c.args.ms before ids l was.0 c.loop-id.changes.items c.loop-id.some_ran_out) c.in-Some.ensures.steps was.2) one.1
                (c.tick_at-out_of_memory.ensures.told types m was.0 had_ended cut represents was.1)),
          ),
    )

pub loop-id-preserved : goal.loop-id-preserved
loop-id-preserved c =
    let left = c.next.new.self in
    let id = c.in-Some.id.now in
    let ids = c.args.ids.now.keys in
    let told = c.tick_at-out_of_memory.new.changes.items in
    let out_of_memory = c.tick_at-out_of_memory.result in
    let sorted = subst (IsStrictlySortedBy nat_cmp) c.in-Some.ensures.steps c.loop-id.invariant.0 in (
      sorted_rest id left sorted,
      λ q. c.tick_at-out_of_memory.ensures.keys q ∙ c.loop-id.invariant.1 q,
      λ types m before had_ended cut represents held listed.
          let was = c.loop-id.invariant.2 types m before had_ended cut represents held listed in
          let one = c.tick_at-out_of_memory.ensures.ticks types m was.0 had_ended cut represents was.1 in (
            ticked_at types c.args.ms out_of_memory was.0 id,
            one.0,
            subst (λ (b : Bool). ToldSoFar types c.args.ms before ids left (ticked_at types c.args.ms out_of_memory was.0 id) told b) (ap (λ (b : Bool). b || out_of_memory) c.if-some_ran_out.false)
                (told_more types c.args.ms before ids id left was.0 c.loop-id.changes.items told c.loop-id.some_ran_out out_of_memory sorted
                (subst (λ (l : List ℕ). ToldSoFar types c.args.ms before ids l was.0 c.loop-id.changes.items c.loop-id.some_ran_out) c.in-Some.ensures.steps was.2) one.1
                (c.tick_at-out_of_memory.ensures.told types m was.0 had_ended cut represents was.1)),
          ),
    )

pub returns-then-some_ran_out-2-clause-ticks : goal.returns-then-some_ran_out-2-clause-ticks
returns-then-some_ran_out-2-clause-ticks c = λ types m before had_ended cut represents held listed.
    let was = c.loop-id.invariant.2 types m before had_ended cut represents held listed in
    let so_far = subst (λ (l : List ℕ). ToldSoFar types c.args.ms before c.args.ids.now.keys l was.0 c.loop-id.changes.items c.loop-id.some_ran_out) c.in-None.ensures.steps.0 was.2 in
    let all = ticks_end types c.args.ms before was.0 (found_in c.loop-id.held had_ended cut) c.loop-id.some_ran_out was.1 so_far.0 in
    (all.0, all.1, all.3 c.if-some_ran_out-2.true)

pub returns-else-some_ran_out-2-clause-ticks : goal.returns-else-some_ran_out-2-clause-ticks
returns-else-some_ran_out-2-clause-ticks c = λ types m before had_ended cut represents held listed.
    let gives = c.into_iter-id-iterator.ensures.into_iter_gives in
    let was = c.loop-id.invariant.2 types m before had_ended cut represents held listed in
    let so_far = subst (λ (l : List ℕ). ToldSoFar types c.args.ms before c.args.ids.now.keys l was.0 c.loop-id.changes.items c.loop-id.some_ran_out) c.in-None.ensures.steps.0 was.2 in
    let all = ticks_end types c.args.ms before was.0 (found_in c.loop-id.held had_ended cut) c.loop-id.some_ran_out was.1 so_far.0 in
    let fine = c.if-some_ran_out-2.false in
    (all.0, all.1, (all.2 fine, tell_all types c.args.ms before c.args.ids.now.keys c.loop-id.changes.items gives.4 listed (sym (append-nil c.loop-id.changes.items) ∙ so_far.1 fine)))
