-- What maps from paths answer, under the name that proofs use.
pub use Rattle.fieldpath.specs.Paths.{path_cmp_total}
pub use Rattle.pathmap.specs.Laws.{path_cmp_antisymmetric, same, either, either-cond, find-both, get-nothing, get-over, either-None, nothing-over, over-nothing, over-over, gather-both, get-under, get-under-top, get-here-below}
