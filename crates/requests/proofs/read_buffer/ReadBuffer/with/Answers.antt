use Rattle.std.proofs.Common.{ℕ, List, take, sym, subst}
use Rattle.wire.specs.Heads.{max_head}
use Rattle.requests.specs.HeadEnds.{IsSearchedTo, IsWithin}
use Rattle.requests.proofs.Searching.{searched_more, within_more}
use Rattle.requests.proofs.read_buffer.ReadBuffer.with.Goals as goal

pub invariant_of-result : goal.invariant_of-result
invariant_of-result c =
    let self = c.args.self in
    let longer = sym c.in_ok-extend_from_slice.ensures.items in
    record {
      within = subst (λ (bytes : List ℕ). IsWithin (take max_head bytes) self.searched) longer (within_more self.bytes.items c.args.more.now self.searched self.within);
      goes_on = subst (λ (bytes : List ℕ). IsSearchedTo bytes self.searched) longer (searched_more self.bytes.items c.args.more.now self.searched self.goes_on);
    }
