-- One byte of a head.
use Rattle.std.proofs.Common.{◌≡◌, ℕ, Bool, true, false, cond, leb, List, [], ◌∷◌, ◌++◌, length, Option, Some, None, Result, Ok, Err, refl, sym, ap, ◌∙◌}
use Rattle.std.specs.Prelude.{IfOk, OnOk}
use Rattle.wireclient.specs.Reads.{Checked, CheckedWhereEnded, Steps}
use Rattle.wire.specs.declared.place.ScanState.{ScanState}
use Rattle.wire.specs.Heads.{max_head, place_after}
use Rattle.wireclient.specs.Reply.{HeadCheck, State, heading, ReplyItem, Next, fails, begun, headed}

pub checked_so : (t : Bool) (bytes : List ℕ) (o : Option ScanState) (j : HeadCheck) → Checked bytes j → CheckedWhereEnded t bytes o j
checked_so true bytes o j h = tt
checked_so false bytes (Some p) j h = tt
checked_so false bytes None j h = h

pub next_so : (t : Bool) (bytes : List ℕ) (o : Option ScanState) (j : HeadCheck) → t ≡ false → o ≡ None → cond t fails (headed j bytes o) ≡ begun j
next_so true bytes o j t-is o-is = absurd cc
next_so false bytes (Some p) j t-is o-is = absurd cc
next_so false bytes None j t-is o-is = refl

pub head_ended : {A E : Type 0} (view : A → State) (r : Result A E) (bytes : List ℕ) (p : ScanState) (b : ℕ) (j : HeadCheck) (old new : List ReplyItem)
    → leb max_head (length bytes) ≡ false → place_after p b ≡ None → Checked (bytes ++ b ∷ []) j
    → IfOk r (λ t. view t ≡ (begun j).0) → OnOk r (new ≡ old ++ (begun j).1) → IfOk r (λ t. Steps (heading bytes p) b (view t) old new)
head_ended view (Err e) bytes p b j old new short ended checked is emitted = tt
head_ended view (Ok t) bytes p b j old new short ended checked is emitted =
    let next = next_so (leb max_head (length bytes)) (bytes ++ b ∷ []) (place_after p b) j short ended in (
      j,
      checked_so (leb max_head (length bytes)) (bytes ++ b ∷ []) (place_after p b) j checked,
      is ∙ sym (ap (λ (n : Next). n.0) next),
      emitted ∙ sym (ap (λ (n : Next). old ++ n.1) next),
    )
