-- What a prefix of the bytes holds stands in what they all hold.
use Rattle.std.proofs.Common.{◌≡◌, ℕ, List, [], ◌∷◌, ◌++◌, true, sym, ap, subst, ◌∙◌, refl, append_assoc, append-nil}
use Rattle.wireclient.specs.Reads.{Items, Reaches, has_closed, start}
use Rattle.wireclient.specs.Reply.{ReplyItem, State, step}
use Rattle.wireclient.proofs.Closing.{after_last, closed_emitted}
use Rattle.wireclient.proofs.Determined.{items_once}
use Rattle.wireclient.proofs.Leading.{reaches_append}

-- bytes that lead somewhere, cut in two
record IsCutAt (s t : State) (bytes more : List ℕ) (items : List ReplyItem) : Type 0 where
  mid : State
  before : List ReplyItem
  after : List ReplyItem
  first : Reaches s bytes mid before
  rest : Reaches mid more t after
  emitted : items ≡ before ++ after

cut_at : (s t : State) (bytes more : List ℕ) (items : List ReplyItem) → Reaches s (bytes ++ more) t items → IsCutAt s t bytes more items
cut_at s t [] more items reaches = record { mid = s; before = []; after = items; first = (refl, refl); rest = reaches; emitted = refl }
cut_at s t (b ∷ bytes) more items reaches =
    let later = cut_at (step reaches.0 s b).0 t bytes more reaches.1 reaches.3 in
    record {
      mid = later.mid;
      before = (step reaches.0 s b).1 ++ later.before;
      after = later.after;
      first = (reaches.0, later.before, reaches.2, later.first, refl);
      rest = later.rest;
      emitted = reaches.4 ∙ ap (λ (emitted : List ReplyItem). (step reaches.0 s b).1 ++ emitted) later.emitted ∙ sym (append_assoc (step reaches.0 s b).1 later.before later.after);
    }

pub prefix_holds : (bytes more : List ℕ) (items : List ReplyItem) → Items (bytes ++ more) items → (before : List ReplyItem) × (after : List ReplyItem) × Items bytes before × (items ≡ before ++ after)
prefix_holds bytes more items holds =
    let cut = cut_at start holds.0 bytes more items holds.1 in
    (cut.before, cut.after, (cut.mid, cut.first), cut.emitted)

pub same_prefix : (bytes more : List ℕ) (before items : List ReplyItem) → Items bytes before → Items (bytes ++ more) items → (after : List ReplyItem) × (items ≡ before ++ after)
same_prefix bytes more before items first holds =
    let cut = prefix_holds bytes more items holds in
    (cut.1, cut.3 ∙ ap (λ (emitted : List ReplyItem). emitted ++ cut.1) (items_once bytes cut.0 before cut.2 first))

pub closed_holds : (bytes more : List ℕ) (items : List ReplyItem) → Items bytes items → has_closed items ≡ true → Items (bytes ++ more) items
closed_holds bytes more items holds closed =
    let rest = after_last holds.0 more (closed_emitted start holds.0 bytes items holds.1 ∙ closed) in
    (holds.0, subst (λ (emitted : List ReplyItem). Reaches start (bytes ++ more) holds.0 emitted) (append-nil items) (reaches_append start holds.0 holds.0 bytes more items [] holds.1 rest))
