-- What a mirror prints, by what its turns are.
use Rattle.std.proofs.Common.{◌≡◌, ℕ, true, List, Option, refl, arith}
use Rattle.indexer.specs.Objects.{Stored}
use Rattle.reflector.specs.Client.{fresh}
use Rattle.reflector.specs.Requests.{Settings}
use Rattle.reflector.specs.declared.relist_reason.RelistReason.{RelistReason}
use Rattle.reflector.specs.declared.informer.Informer.{Informer}
use Rattle.mirroring.specs.Turns.{MirrorsAll, MirrorsSome, is_undialled}
use Rattle.mirroring.specs.declared.fault.MirrorFault.{MirrorFault}
use Rattle.mirroring.specs.declared.fault.MirrorFault.TheVariants as mirror
use Rattle.mirror_program.specs.Printing.{Prints, PrintsFewer}
use Rattle.mirror_program.specs.Statuses.{IsEndedBy, status_of}
use Rattle.mirror_program.specs.declared.fault.ProgramFault.{ProgramFault}

pub all_emitted : {I D : Type 0} (keys : I → Stored → List (List ℕ)) (answers : D → List ℕ → List ℕ → D → Type 0) (learns : D → RelistReason → D → Type 0) (s : Settings) (turns : ℕ) (a b : D) (i : Informer I) (old new : Option (List ℕ))
    → MirrorsAll keys answers learns s turns a fresh b i old new → Prints answers learns s turns a b old new
all_emitted keys answers learns s turns a b i old new (d, first, did, is, emitted) = (d, first, did, emitted)

pub fewer_emitted : {I D : Type 0} (keys : I → Stored → List (List ℕ)) (answers : D → List ℕ → List ℕ → D → Type 0) (learns : D → RelistReason → D → Type 0) (s : Settings) (turns : ℕ) (a : D) (i : Informer I) (old new : Option (List ℕ))
    → MirrorsSome keys answers learns s turns a fresh i old new → PrintsFewer answers learns s turns a old new
fewer_emitted keys answers learns s turns a i old new (n, fewer, mid, m, first, did, is, emitted) = (n, fewer, mid, (m, first, did, emitted))

-- the exit status of a connection that couldn't be dialled is that of no other fault
pub undialled_by : (m : MirrorFault) (f : ProgramFault) → IsEndedBy m f → status_of f ≡ 6 → is_undialled m ≡ true
undialled_by (mirror.Dial e) f is six = refl
undialled_by (mirror.Output e) f is six = absurd (omega (arith, is, six))
undialled_by mirror.Memory f is six = absurd (omega (arith, is, six))
