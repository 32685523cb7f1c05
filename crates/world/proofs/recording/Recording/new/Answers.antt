use Rattle.std.proofs.Common.{◌≡◌, ap, option_map, sym, subst, List, ℕ, Option, None}
use Rattle.std.specs.BTreeMap.{get, is_at}
use Rattle.std.specs.FinMap as fin
use Rattle.std.specs.Map.{lookup}
use Rattle.std.specs.Ordering.{nat_cmp}
use Rattle.httpedge.specs.Steps.{start}
use Rattle.world.specs.Recording.{IsKept}
use Rattle.world.proofs.recording.Recording.new.Goals as goal

pub returns : goal.returns
returns c = λ types m represents. (
  c.new.ensures types m represents,
  λ q.
      let none : option_map (λ v. v.items) (get nat_cmp c.new-2.result q) ≡ None = ap (λ es. option_map (λ v. v.items) (lookup (is_at (nat_cmp q)) es)) c.new-2.ensures.empty in
      subst (λ (o : Option (List ℕ)). IsKept o (fin.get (start types m).connections q)) (sym none) (c.all_is_out.ensures.start types m q),
)
