use Rattle.std.proofs.Common.{IfSome, subst, sym}
use Rattle.revstore.specs.CachedObject.{AreCached, AreIn}
use Rattle.revstore.proofs.cached.cached_of.Goals as goal

pub returns-in-Some-clause-current : goal.returns-in-Some-clause-current
returns-in-Some-clause-current c = λ h cached. c.cached_in.ensures.current h (subst (AreCached h) (sym c.deref.ensures.value) (subst (λ o. IfSome o (AreIn h)) c.in-Some.is cached))
