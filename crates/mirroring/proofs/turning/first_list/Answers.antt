use Rattle.std.proofs.Common.{◌≡◌, ◌∙◌, List, arith, length, subst}
use Rattle.wireclient.specs.Reply.{ReplyItem}
use Rattle.reflector.specs.InformerViews.{settings_in}
use Rattle.mirroring.specs.Syncs.{CatchesUp, SyncsSome, all_replied}
use Rattle.mirroring.specs.Turns.{Answers, is_undialled}
use Rattle.mirroring.proofs.FirstTurns.{fault_before, none_taken, so_far, some_told, undialled_before}
use Rattle.mirroring.proofs.Replies.{closed_idle}
use Rattle.mirroring.proofs.Texts.{error_is, on_err}
use Rattle.mirroring.proofs.turning.first_list.Goals as goal

pub returns-in_err-made-clause-fault : goal.returns-in_err-made-clause-fault
returns-in_err-made-clause-fault g c = λ d is idle.
    let some = subst
    (λ e. SyncsSome (λ b s. g.I.IndexBy.keys b s) (Answers (λ a q r b. g.D.Dial.dials a q r b) (λ r. g.D.Reader.Read.remaining r)) (λ a t b. g.D.Dial.learns a t b) (settings_in c.args.informer.now) 0 c.args.turns c.args.dialer.now e
    c.catch_up.new.informer (is_undialled c.in_err-made.field-0.0))
    (closed_idle d idle.0) (c.in_err-made.ensures.fault d is) in
    on_err _ _
    (fault_before (Answers (λ a q r b. g.D.Dial.dials a q r b) (λ r. g.D.Reader.Read.remaining r)) (λ a t b. g.D.Dial.learns a t b) (settings_in c.args.informer.now) (λ b s. g.I.IndexBy.keys b s) c.args.turns
    c.args.dialer.now d c.catch_up.new.informer (g.W.Write.contents c.args.out.now) (is_undialled c.in_err-made.field-0.0) idle.1 some)

pub returns-in_err-made-clause-undialled : goal.returns-in_err-made-clause-undialled
returns-in_err-made-clause-undialled g c = λ d is idle.
    let some = subst
    (λ e. SyncsSome (λ b s. g.I.IndexBy.keys b s) (Answers (λ a q r b. g.D.Dial.dials a q r b) (λ r. g.D.Reader.Read.remaining r)) (λ a t b. g.D.Dial.learns a t b) (settings_in c.args.informer.now) 0 c.args.turns c.args.dialer.now e
    c.catch_up.new.informer (is_undialled c.in_err-made.field-0.0))
    (closed_idle d idle.0) (c.in_err-made.ensures.fault d is) in
    error_is c.from_residual.result _ _ c.from_residual.ensures.1
    (undialled_before (Answers (λ a q r b. g.D.Dial.dials a q r b) (λ r. g.D.Reader.Read.remaining r)) (λ a t b. g.D.Dial.learns a t b) (settings_in c.args.informer.now) (λ b s. g.I.IndexBy.keys b s) c.args.turns
    c.args.dialer.now d c.catch_up.new.informer (g.W.Write.contents c.args.out.now) (is_undialled c.in_err-made.field-0.0) idle.1 some)

pub returns-then-made-eq0-clause-emitted : goal.returns-then-made-eq0-clause-emitted
returns-then-made-eq0-clause-emitted g c = λ d is idle.
    let all = subst
    (λ e. (replies : List (List ReplyItem)) × (length replies ≡ c.in_ok-made.made)
    × CatchesUp (λ b s. g.I.IndexBy.keys b s) (Answers (λ a q r b. g.D.Dial.dials a q r b) (λ r. g.D.Reader.Read.remaining r)) (λ a t b. g.D.Dial.learns a t b) (settings_in c.args.informer.now) 0 c.args.turns c.args.dialer.now e
    c.catch_up.new.dialer c.catch_up.new.informer replies)
    (closed_idle d idle.0) (c.in_ok-made.ensures.made d is) in
    none_taken (Answers (λ a q r b. g.D.Dial.dials a q r b) (λ r. g.D.Reader.Read.remaining r)) (λ a t b. g.D.Dial.learns a t b) (settings_in c.args.informer.now) c.args.dialer.now c.catch_up.new.dialer d all.0 idle.1 all.2.0
    (λ b s. g.I.IndexBy.keys b s) c.catch_up.new.informer (g.W.Write.contents c.args.out.now) (all.1 ∙ c.if-made-eq0.true) idle.0 all.2.1

pub returns-in_err-tell-clause-fault : goal.returns-in_err-tell-clause-fault
returns-in_err-tell-clause-fault g c = λ d is idle.
    let all = subst
    (λ e. (replies : List (List ReplyItem)) × (length replies ≡ c.in_ok-made.made)
    × CatchesUp (λ b s. g.I.IndexBy.keys b s) (Answers (λ a q r b. g.D.Dial.dials a q r b) (λ r. g.D.Reader.Read.remaining r)) (λ a t b. g.D.Dial.learns a t b) (settings_in c.args.informer.now) 0 c.args.turns c.args.dialer.now e
    c.catch_up.new.dialer c.catch_up.new.informer replies)
    (closed_idle d idle.0) (c.in_ok-made.ensures.made d is) in
    let e = all_replied (settings_in c.args.informer.now).wanted d all.0 in
    let runs = all.2.1 in
    on_err _ _
    (some_told (Answers (λ a q r b. g.D.Dial.dials a q r b) (λ r. g.D.Reader.Read.remaining r)) (λ a t b. g.D.Dial.learns a t b) (settings_in c.args.informer.now) c.args.dialer.now c.catch_up.new.dialer d all.0 idle.1 all.2.0
    c.in_ok-made.made c.args.turns (g.W.Write.contents c.args.out.now) (g.W.Write.contents c.tell.new.out) all.1 (omega (arith, c.if-made-eq0.false)) all.2.2
    (c.in_err-tell.ensures.prefix d.cache e runs.0 runs.1 runs.2 (c.revision-was.ensures d is.0 is.1 is.2)))

pub returns-clause-emitted : goal.returns-clause-emitted
returns-clause-emitted g c = λ d is idle.
    let all = subst
    (λ e. (replies : List (List ReplyItem)) × (length replies ≡ c.in_ok-made.made)
    × CatchesUp (λ b s. g.I.IndexBy.keys b s) (Answers (λ a q r b. g.D.Dial.dials a q r b) (λ r. g.D.Reader.Read.remaining r)) (λ a t b. g.D.Dial.learns a t b) (settings_in c.args.informer.now) 0 c.args.turns c.args.dialer.now e
    c.catch_up.new.dialer c.catch_up.new.informer replies)
    (closed_idle d idle.0) (c.in_ok-made.ensures.made d is) in
    let e = all_replied (settings_in c.args.informer.now).wanted d all.0 in
    let runs = all.2.1 in
    so_far (Answers (λ a q r b. g.D.Dial.dials a q r b) (λ r. g.D.Reader.Read.remaining r)) (λ a t b. g.D.Dial.learns a t b) (settings_in c.args.informer.now) c.args.dialer.now c.catch_up.new.dialer d all.0 idle.1 all.2.0
    (λ b s. g.I.IndexBy.keys b s) c.in_ok-made.made c.tell.new.informer (g.W.Write.contents c.args.out.now) (g.W.Write.contents c.tell.new.out) all.1 idle.0
    (runs.0, runs.1, c.in_ok-tell.ensures.taken e runs.0 runs.1 runs.2) (c.in_ok-tell.ensures.told d.cache e runs.0 runs.1 runs.2 (c.revision-was.ensures d is.0 is.1 is.2))
