use Rattle.std.proofs.Common.{◌≡◌, ◌∙◌, ℕ, ◌+◌, ◌%◌, Bool, List, Option, Some, None, cond, option_map, string_bytes, refl, ap, sym}
use Rattle.system_metadata.specs.GeneratedNames.{generated_name, name_if_free}
use Rattle.system_metadata.proofs.Rounds.{left_first, left_found, left_next, left_none, whole_round}
use Rattle.system_metadata.proofs.generated.free_name.Goals as goal

-- what is found by what is said of names now is what was found by what was said of them at first
seen : (is_taken still : List ℕ → Bool) (prefix : List ℕ) (number : ℕ) (found : Option (List ℕ)) → ((text : List ℕ) → still text ≡ is_taken text) → found ≡ name_if_free still prefix number → found ≡ name_if_free is_taken prefix number
seen is_taken still prefix number found stays is = is ∙ ap (λ b. cond b None (Some (generated_name prefix number))) (stays (generated_name prefix number))

pub loop-step-init : goal.loop-step-init
loop-step-init g c = (left_first (g.N.TakenNames.taken c.args.names.now) c.args.prefix.now (c.args.number % 14_348_907), λ text. refl)

pub loop-step-preserved : goal.loop-step-preserved
loop-step-preserved g c =
    let is_taken = g.N.TakenNames.taken c.args.names.now in
    let first = c.args.number % 14_348_907 in
    let so_far = c.loop-step.invariant in
    let here = seen is_taken (g.N.TakenNames.taken c.loop-step.names) c.args.prefix.now (first + c.loop-step.step) (option_map string_bytes c.in_ok-found.found) so_far.1 c.in_ok-found.ensures.ok in (
      left_next string_bytes is_taken c.args.prefix.now first c.loop-step.step c.loop-step-test.true so_far.0 c.in_ok-found.found (sym c.is_some.ensures ∙ c.if-is_some.false) here,
      λ text. c.name_if_free.ensures.stays text ∙ so_far.1 text,
    )

pub returns-then-is_some-clause-ok : goal.returns-then-is_some-clause-ok
returns-then-is_some-clause-ok g c =
    let is_taken = g.N.TakenNames.taken c.args.names.now in
    let first = c.args.number % 14_348_907 in
    let so_far = c.loop-step.invariant in
    let here = seen is_taken (g.N.TakenNames.taken c.loop-step.names) c.args.prefix.now (first + c.loop-step.step) (option_map string_bytes c.in_ok-found.found) so_far.1 c.in_ok-found.ensures.ok in
    left_found string_bytes is_taken c.args.prefix.now first c.loop-step.step c.loop-step-test.true so_far.0 c.in_ok-found.found (sym c.is_some.ensures ∙ c.if-is_some.true) here ∙ whole_round is_taken c.args.prefix.now c.args.number

pub returns-clause-ok : goal.returns-clause-ok
returns-clause-ok g c =
    let is_taken = g.N.TakenNames.taken c.args.names.now in
    left_none is_taken c.args.prefix.now (c.args.number % 14_348_907) c.loop-step.step c.loop-step-test.false c.loop-step.invariant.0 ∙ whole_round is_taken c.args.prefix.now c.args.number
