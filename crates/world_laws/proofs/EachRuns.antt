-- Each list of events has exactly one run, where each event leads on.
use Rattle.std.proofs.Common.{◌≡◌, ℕ, zero, suc, ◌+◌, ◌<◌, List, [], ◌∷◌, ◌++◌, length, map, take, get_or, refl, subst, arith}
use Rattle.std.specs.Prelude.{IfSome, Vec}
use Rattle.std.specs.List.{AllByRecursion}
use Rattle.std.specs.declared.alloc.Global.{Global}
use Rattle.world_laws.specs.Reading.{AreRead, bytes_in, client_reads, server_reads}
use Rattle.world_laws.specs.Reports.{IsOnlyRun, Report, Runs, reports_after}
use Rattle.world_laws.specs.Tasks.{Task}
use Rattle.world_laws.specs.World.{Steps, World, WorldEvent}

-- an event in which these bytes are read leads on
abbrev pub LeadsOn : List ℕ × List ℕ → Type 0
LeadsOn b = (task : Task) (w : World) (e : WorldEvent) → IfSome (server_reads task w e) (λ bytes. bytes ≡ b.0) → IfSome (client_reads w e) (λ bytes. bytes ≡ b.1) → (v : World) × Steps task w e v

-- events lead to one world, with one list of reports
abbrev pub LeadToOne : Type 0
LeadToOne = (task : Task) (i : ℕ) (w v u : World) (es : List WorldEvent) (reports others : List Report) → Runs task i w es v reports → Runs task i w es u others → (v ≡ u) × (reports ≡ others)

runs_on : (es : List WorldEvent) (read : List (List ℕ × List ℕ)) → AllByRecursion LeadsOn read → (task : Task) (i : ℕ) (w : World) → AreRead task w es read → (v : World) × (reports : List Report) × Runs task i w es v reports
runs_on [] read lead task i w are = (w, [], (refl, refl))
runs_on (e ∷ es) [] lead task i w are = absurd are
runs_on (e ∷ es) (b ∷ bs) lead task i w (server, client, then) =
    let mid = lead.0 task w e server client in
    let rest = runs_on es bs lead.1 task (suc i) mid.0 (then mid.0 mid.1) in
    (rest.0, reports_after i w mid.0 ++ rest.1, (mid.0, rest.1, mid.1, rest.2, refl))

pub only_run : LeadToOne → (read : List (List ℕ × List ℕ)) → AllByRecursion LeadsOn read → (task : Task) (i : ℕ) (w : World) (es : List WorldEvent) → AreRead task w es read → (v : World) × (reports : List Report) × IsOnlyRun task i w es v reports
only_run one read lead task i w es are =
    let run = runs_on es read lead task i w are in
    (run.0, run.1, record { runs = run.2; only = λ u others other. one task i w u run.0 es others run.1 other run.2 })

-- one more of them
more : (read : List (Vec ℕ Global × Vec ℕ Global)) (i : ℕ) (d : Vec ℕ Global × Vec ℕ Global) → i < length read → AllByRecursion LeadsOn (map bytes_in (take i read)) → LeadsOn (bytes_in (get_or read i d))
    → AllByRecursion LeadsOn (map bytes_in (take (suc i) read))
more [] i d within lead one = absurd (omega (arith, within))
more (b ∷ bs) zero d within lead one = (one, tt)
more (b ∷ bs) (suc i) d within lead one = (lead.0, more bs i d (omega (arith, within)) lead.1 one)

pub one_more : (read : List (Vec ℕ Global × Vec ℕ Global)) (i : ℕ) (d : Vec ℕ Global × Vec ℕ Global) → i < length read → AllByRecursion LeadsOn (map bytes_in (take i read)) → LeadsOn (bytes_in (get_or read i d))
    → AllByRecursion LeadsOn (map bytes_in (take (i + 1) read))
one_more read i d within lead one = let on : suc i ≡ i + 1 = omega arith in subst (λ n. AllByRecursion LeadsOn (map bytes_in (take n read))) on (more read i d within lead one)
