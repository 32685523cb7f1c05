-- Parts of options and results.
use Rattle.std.proofs.Common.{◌≡◌, Some, Result, Ok, Err}
use Rattle.std.specs.Prelude.{OnErr}

pub some_of : {A : Type 0} {x y : A} → Some x ≡ Some y → x ≡ y
some_of e = cc

pub on_err_both : {A E P Q R : Type 0} (r : Result A E) → (P → Q → R) → OnErr r P → OnErr r Q → OnErr r R
on_err_both (Ok a) f p q = tt {0}
on_err_both (Err e) f p q = f p q

pub on_err : {A E P : Type 0} (r : Result A E) → P → OnErr r P
on_err (Ok a) p = tt {0}
on_err (Err e) p = p
