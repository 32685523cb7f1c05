-- What an event did, by what it did to one connection, or to none.
use Rattle.std.proofs.Common.{◌≡◌, ℕ, Bool, true, false, not, ◌&&◌, cond, List, [], drop, length, Option, Some, None, refl, sym, ap, ap₂, ◌∙◌, append-nil}
use Rattle.std.specs.Prelude.{IfSome, option_map}
use Rattle.std.proofs.Transfers.{drop-appended}
use Rattle.std.specs.Cmp.{nat_cmp_total, eq_by_cmp_equiv}
use Rattle.std.specs.FinMap as fin
use Rattle.std.specs.List.Sorted.{IsStrictlySortedBy}
use Rattle.std.specs.Ordering.{nat_cmp, eq_by_cmp}
use Rattle.history.specs.History.{History}
use Rattle.requests.specs.Asks.{CallDecision}
use Rattle.requests.specs.Decision.{undecided}
use Rattle.requests.specs.ReadBufferViews.{request_bytes}
use Rattle.requests.specs.declared.request.Request.{Request}
use Rattle.httpedge.specs.declared.effect.Change.{Change}
use Rattle.httpedge.specs.declared.effect.Done.{Done}
use Rattle.httpedge.specs.declared.effect.Effect.TheVariants as effect
use Rattle.httpedge.specs.Connections.{Connection, has_ended}
use Rattle.httpedge.specs.Effects.{IsEffect, answered_bytes, asked_in, change_at, change_between, change_in, changes_in, effect_by, effect_on, ids_in, if_something, lines_at, no_change, request_in, says_something, status_at}
use Rattle.httpedge.specs.Runs.{bytes_at}
use Rattle.httpedge.specs.Steps.{Event, State, with_connection, with_machine}
use Rattle.httpedge.proofs.Connected.{put_there, tied_same}

-- ---- a connection that stays as it is

same_length : (xs : List ℕ) → length (drop (length xs) xs) ≡ 0
same_length xs = ap length (drop-appended xs xs [] (sym (append-nil xs)))

not_both : (b : Bool) → b && not b ≡ false
not_both true = refl
not_both false = refl

-- nothing is written, and it ends no more than it had
pub between_same : (c d : Connection) → d.written ≡ c.written → has_ended d.phase ≡ has_ended c.phase → change_between (Some c) (Some d) 0 None ≡ no_change
between_same c d written ends =
    ap₂ (λ (n : ℕ) (e : Bool). change_with n e) (ap (λ (b : List ℕ). length (drop (length c.written) b)) written ∙ same_length c.written)
    (ap (λ (b : Bool). b && not (has_ended c.phase)) ends ∙ not_both (has_ended c.phase))
  where
    change_with : ℕ → Bool → Change
    change_with n e = record { bytes = n; lines = 0; status = None; has_ended = e }

pub same_between : (o : Option Connection) → change_between o o 0 None ≡ no_change
same_between None = refl
same_between (Some c) = between_same c c refl refl

-- ---- no connection

none_rises : IsStrictlySortedBy nat_cmp (ids_in [])
unfolding IsStrictlySortedBy
none_rises = tt

pub no_effect : (s t : State) (e : Event) → ((q : ℕ) → change_at s e undecided t q ≡ no_change) → IsEffect s e undecided t effect.Nothing
no_effect s t e none = record { rises = none_rises; says = λ q. sym (ap if_something (none q)); answers = refl }

-- ---- one connection

told_rises : (f : Bool) (id : ℕ) (change : Change) → IsStrictlySortedBy nat_cmp (ids_in (changes_in (cond f (effect.Connection (id, change)) effect.Nothing)))
unfolding IsStrictlySortedBy
told_rises true id change = (tt, tt)
told_rises false id change = tt

one_rises : (id : ℕ) (change : Change) (o : Option Request) → IsStrictlySortedBy nat_cmp (ids_in (changes_in (effect_by (id, change) o)))
one_rises id change None = told_rises (says_something change) id change
one_rises id change (Some request) = told_rises true id change

-- what answers a request says something
abbrev pub Speaks : Done → Type 0
Speaks done = IfSome done.request (λ request. says_something done.change ≡ true)

told_found : (id q : ℕ) (change : Change) → change_in (changes_in (effect_by (id, change) None)) q ≡ cond (eq_by_cmp nat_cmp q id) (if_something change) None
told_found id q change = go (says_something change) (eq_by_cmp nat_cmp q id) refl
  where
    go : (f b : Bool) → eq_by_cmp nat_cmp q id ≡ b → change_in (changes_in (cond f (effect.Connection (id, change)) effect.Nothing)) q ≡ cond (eq_by_cmp nat_cmp q id) (cond f (Some change) None) None
    go true b e = refl
    go false true e = sym (ap (λ (x : Bool). cond x (cond false (Some change) None) None) e)
    go false false e = sym (ap (λ (x : Bool). cond x (cond false (Some change) None) None) e)

one_found : (id q : ℕ) (change : Change) (o : Option Request) → IfSome o (λ request. says_something change ≡ true)
    → change_in (changes_in (effect_by (id, change) o)) q ≡ cond (eq_by_cmp nat_cmp q id) (if_something change) None
one_found id q change None speaks = told_found id q change
one_found id q change (Some request) speaks = ap (λ (f : Bool). cond (eq_by_cmp nat_cmp q id) (cond f (Some change) None) None) (sym speaks)

one_asked : (id : ℕ) (change : Change) (o : Option Request) → request_in (effect_by (id, change) o) ≡ option_map request_bytes o
one_asked id change None = go (says_something change)
  where
    go : (f : Bool) → request_in (cond f (effect.Connection (id, change)) effect.Nothing) ≡ None
    go true = refl
    go false = refl
one_asked id change (Some request) = refl

-- the connection of this id becomes another, and the others stay
pub one_effect : (s : State) (m : History) (e : Event) (decision : CallDecision) (id : ℕ) (o : Option Connection) (c : Connection) (lines : ℕ) (status : Option ℕ) (did : Done)
    → fin.get s.connections id ≡ o → lines_at s e id ≡ lines → status_at s e decision id ≡ status
    → ((q : ℕ) → eq_by_cmp nat_cmp id q ≡ false → (lines_at s e q ≡ 0) × (status_at s e decision q ≡ None))
    → did.change ≡ change_between o (Some c) lines status → asked_in did ≡ answered_bytes decision (bytes_at s e) → Speaks did
    → IsEffect s e decision (with_connection (with_machine s m) id c) (effect_on id did)
one_effect s m e decision id o c lines status did got its_lines its_status others is asked speaks = record {
  rises = one_rises id change did.request;
  says = λ q. one_found id q change did.request speaks ∙ go q (eq_by_cmp nat_cmp q id) refl;
  answers = one_asked id change did.request ∙ asked;
}
  where
    change : Change
    change = did.change

    t : State
    t = with_connection (with_machine s m) id c

    here : change_at s e decision t id ≡ change
    here =
        ap₂ (λ (x y : Option Connection). change_between x y (lines_at s e id) (status_at s e decision id)) got (put_there s.connections id c)
        ∙ ap₂ (λ (n : ℕ) (x : Option ℕ). change_between o (Some c) n x) its_lines its_status ∙ sym is

    elsewhere : (q : ℕ) → eq_by_cmp nat_cmp q id ≡ false → change_at s e decision t q ≡ no_change
    elsewhere q isnt =
        let other = others q ((eq_by_cmp_equiv nat_cmp_total).symm id q ∙ isnt) in
        ap (λ (y : Option Connection). change_between (fin.get s.connections q) y (lines_at s e q) (status_at s e decision q))
        (fin.get-insert nat_cmp_total s.connections id c q ∙ ap (λ (b : Bool). cond b (Some c) (fin.get s.connections q)) isnt)
        ∙ ap₂ (λ (n : ℕ) (x : Option ℕ). change_between (fin.get s.connections q) (fin.get s.connections q) n x) other.0 other.1
        ∙ same_between (fin.get s.connections q)

    go : (q : ℕ) (b : Bool) → eq_by_cmp nat_cmp q id ≡ b → cond (eq_by_cmp nat_cmp q id) (if_something change) None ≡ if_something (change_at s e decision t q)
    go q true here_is =
        ap (λ (b : Bool). cond b (if_something change) None) here_is ∙ ap if_something (sym here) ∙ ap (λ (k : ℕ). if_something (change_at s e decision t k)) (sym (tied_same q id here_is))
    go q false isnt = ap (λ (b : Bool). cond b (if_something change) None) isnt ∙ sym (ap if_something (elsewhere q isnt))
