-- Names that tie are one.
use Rattle.std.proofs.Common.{◌≡◌, ℕ, true, is_eq, nat_cmp, List}
use Rattle.std.specs.Cmp.{Equal-is}
use Rattle.std.specs.Cmp.Lexicographic.{slice_cmp}
use Rattle.std.specs.FinMap.{nat_cmp-IsAntisymmetric, slice_cmp-IsAntisymmetric}

pub ties : (g f : List ℕ) → is_eq (slice_cmp nat_cmp g f) ≡ true → g ≡ f
ties g f e = slice_cmp-IsAntisymmetric nat_cmp-IsAntisymmetric g f ((Equal-is (slice_cmp nat_cmp g f)).0 e)
