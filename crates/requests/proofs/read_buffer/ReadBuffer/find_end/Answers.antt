use Rattle.std.proofs.Common.{ℕ, List, take, ap, subst, ◌∙◌}
use Rattle.wire.specs.Heads.{max_head}
use Rattle.requests.specs.HeadEnds.{FindsAlike, IsWithin, end_after}
use Rattle.requests.proofs.Searching.{found_here, searched_on}
use Rattle.requests.proofs.read_buffer.ReadBuffer.find_end.Goals as goal

pub invariant_of-self : goal.invariant_of-self
invariant_of-self c =
    let self = c.args.self.now in
    let found = c.search_from-found in
    let prefix = c.bytes_before.ensures ∙ ap (take max_head) c.deref.ensures.value in
    record {
      within = subst (λ (bytes : List ℕ). IsWithin bytes found.result.searched) prefix found.ensures.within;
      goes_on = searched_on self.bytes.items self.searched found.result.searched self.goes_on
          (subst (λ (bytes : List ℕ). FindsAlike bytes self.searched found.result.searched) prefix found.ensures.alike);
    }

pub returns-clause-end : goal.returns-clause-end
returns-clause-end c =
    let self = c.args.self.now in
    let prefix = c.bytes_before.ensures ∙ ap (take max_head) c.deref.ensures.value in
    c.search_from-found.ensures.end ∙ ap (end_after self.searched) prefix ∙ found_here self.bytes.items self.searched self.goes_on
