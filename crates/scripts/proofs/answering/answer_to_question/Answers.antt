use Rattle.std.proofs.Common.{◌∙◌, ◌++◌, ap, codes, map}
use Rattle.std.specs.FinMap as fin
use Rattle.std.specs.List.{flat_map}
use Rattle.std.specs.Option.{option_to_list}
use Rattle.std.proofs.lemmas.Result.{IfOk-weaker}
use Rattle.indexer.specs.Objects.{shared_of}
use Rattle.reflector.specs.Client.{kept}
use Rattle.world_laws.specs.Moves.{next_move}
use Rattle.scripts.specs.Piped.{holds, moves, number_text, part_text}
use Rattle.scripts.proofs.Questions.{asked_emitted}
use Rattle.scripts.proofs.answering.answer_to_question.Goals as goal

pub returns-in-Next : goal.returns-in-Next
returns-in-Next c = λ task w represents.
    let n = c.args.events in
    rw c.in-Next.is
    (IfOk-weaker c.next_text.result _ _ (λ v is.
    is ∙ ap (λ o. flat_map part_text (map moves (option_to_list o)) ++ number_text (codes "done") n) (c.next_move.ensures task (kept w.client.cache) w represents)
    ∙ asked_emitted (map moves (option_to_list (next_move w))) n) c.next_text.ensures)

pub returns-in_ok-objects-in-Objects : goal.returns-in_ok-objects-in-Objects
returns-in_ok-objects-in-Objects c = λ task w represents.
    let n = c.args.events in
    rw c.in-Objects.is
    (IfOk-weaker c.objects_text.result _ _ (λ v is.
    is ∙ ap (λ os. flat_map part_text (map holds (map shared_of os)) ++ number_text (codes "done") n) c.deref.ensures.value
    ∙ ap (λ os. flat_map part_text (map holds os) ++ number_text (codes "done") n) (c.in_ok-objects-in-Objects.ensures task (kept w.client.cache) w represents)
    ∙ asked_emitted (map holds (map (λ e. e.1) (fin.entries (kept w.client.cache)))) n) c.objects_text.ensures)
