use Rattle.std.proofs.Common.{◌≡◌, ◌≤◌, List, length}
use Rattle.wireclient.specs.Reply.{ReplyItem}
use Rattle.reflector.specs.Client.{Client}
use Rattle.reflector.specs.InformerViews.{settings_in}
use Rattle.reflector.specs.Run.{closed}
use Rattle.mirroring.specs.Syncs.{Hands, all_replied}
use Rattle.mirroring.specs.Turns.{Answers, Is}
use Rattle.mirroring.proofs.syncing.catch_up.Given as goal

abbrev pub invariant-turns : goal.invariant-turns
invariant-turns g l =
    (l.made ≤ l.fn.turns) × (settings_in l.informer ≡ settings_in l.fn.informer)
    × ((c : Client) → Is (λ b s. g.I.IndexBy.keys b s) l.fn.informer c
    → (replies : List (List ReplyItem)) × (length replies ≡ l.made)
    × Hands (Answers (λ a q r b. g.D.Dial.dials a q r b) (λ r. g.D.Reader.Read.remaining r)) (λ a t b. g.D.Dial.learns a t b) (settings_in l.fn.informer) l.fn.least l.fn.dialer (closed c) replies l.dialer
    × Is (λ b s. g.I.IndexBy.keys b s) l.informer (all_replied (settings_in l.fn.informer).wanted (closed c) replies))
