use Rattle.std.proofs.Common.{◌≡◌, ◌≤◌, ℕ, [], false, Option, None}
use Rattle.std.specs.Io.KnownBytes.{Appends}
use Rattle.reflector.specs.Client.{Client}
use Rattle.reflector.specs.InformerViews.{settings_in}
use Rattle.reflector.specs.Run.{taken}
use Rattle.mirroring.specs.Printing.{mirror_text}
use Rattle.mirroring.specs.Turns.{Answers, Is, IsIdle, Turns}
use Rattle.mirroring.proofs.turning.mirror.Given as goal

abbrev pub invariant-turns : goal.invariant-turns
invariant-turns g l =
    (l.counter ≤ l.fn.turns) × (settings_in l.informer ≡ settings_in l.fn.informer)
    × ((c : Client) → Is (λ b s. g.I.IndexBy.keys b s) l.fn.informer c → IsIdle c
    → (d : Client) × (first : Option ℕ) × Turns (Answers (λ a q r b. g.D.Dial.dials a q r b) (λ r. g.D.Reader.Read.remaining r)) (λ a t b. g.D.Dial.learns a t b) (settings_in l.fn.informer) l.counter l.fn.dialer c l.dialer d first
    × Is (λ b s. g.I.IndexBy.keys b s) l.informer (taken d) × (d.is_awaiting_reply ≡ false) × (d.cache ≡ None → (first ≡ None) × (d.notices ≡ []))
    × Appends (g.W.Write.contents l.fn.out) (g.W.Write.contents l.out) (mirror_text first d.notices))
