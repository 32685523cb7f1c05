-- What is left of bytes once the first of them are taken.
use Rattle.std.proofs.Common.{arith, ◌≡◌, ℕ, ◌+◌, List, [], length, drop, min, Option, Some, None, refl, sym, ap, ◌∙◌}
use Rattle.std.specs.Prelude.{option_map, unwrap_or}
use Rattle.std.specs.FinMap as fin
use Rattle.std.proofs.lemmas.List.{drop-drop, drop_all, drop_min}
use Rattle.httpedge.specs.Connections.{Connection, Phase, waiting, watching, ended, gone, untaken_in, out_of, out_on, with_taken}
use Rattle.httpedge.specs.Steps.{State, by_connection, with_bytes_taken, with_connection}
use Rattle.httpedge.proofs.Connected.{put_there}

pub left_after : (taken n : ℕ) (written : List ℕ) → drop (taken + min n (length (drop taken written))) written ≡ drop n (drop taken written)
left_after taken n written = sym (drop-drop (min n (length (drop taken written))) taken written) ∙ drop_min n (drop taken written)

none_left : (n : ℕ) → drop {A = ℕ} n [] ≡ []
none_left n = drop_all n [] (omega arith)

out_by : (st : Phase) (taken n : ℕ) (written : List ℕ)
    → untaken_in st (drop (taken + min n (length (untaken_in st (drop taken written)))) written) ≡ drop n (untaken_in st (drop taken written))
out_by (waiting prefix) taken n written = left_after taken n written
out_by (watching w) taken n written = left_after taken n written
out_by ended taken n written = left_after taken n written
out_by (gone had_ended) taken n written = sym (none_left n)

pub out_taken : (c : Connection) (n : ℕ) → out_of (with_taken c n) ≡ drop n (out_of c)
out_taken c n = out_by c.phase c.taken n c.written

out_on_by : (s : State) (id n : ℕ) (o : Option Connection) → fin.get s.connections id ≡ o
    → out_on (by_connection s o (λ c. with_connection s id (with_taken c n))).connections id ≡ drop n (unwrap_or (option_map out_of o) [])
out_on_by s id n None at = ap (λ (o : Option Connection). unwrap_or (option_map out_of o) []) at ∙ sym (none_left n)
out_on_by s id n (Some c) at =
    ap (λ (o : Option Connection). unwrap_or (option_map out_of o) []) (put_there s.connections id (with_taken c n)) ∙ out_taken c n

pub taken_on : (s : State) (id n : ℕ) → out_on (with_bytes_taken s id n).connections id ≡ drop n (out_on s.connections id)
taken_on s id n = out_on_by s id n (fin.get s.connections id) refl
