use Rattle.history.specs.Read.{key_of}
use Rattle.std.proofs.Common.{rules, tests}
use Rattle.std.proofs.lemmas.Iterator.{YieldsList-from_slice}
use Rattle.std.proofs.lemmas.Iterator.Search.{any_from_yields_List}
use Rattle.revstore.specs.Waiting.{is_key, write_in}
use Rattle.revstore.proofs.window.has_key.Goals as goal

pub returns : goal.returns
returns c = any_from_yields_List (λ w. is_key (key_of c.args.key.now) (write_in w).0) _ _ c.any.result c.any.ensures.ran (YieldsList-from_slice c.args.all.now cc) (λ x b q k. search (rules, tests))
