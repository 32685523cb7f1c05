-- The keys of an object in one index, as they are kept.
use Rattle.std.specs.Prelude.{ℕ, List, [], ◌∷◌, map}
use Rattle.std.specs.Rc.{rc_str_bytes}
use Rattle.std.specs.declared.alloc.Global.{Global}
use Rattle.std.specs.declared.rc.RcStr.{RcStr}
use Rattle.indexer.specs.declared.texts.Texts.{Texts}
use Rattle.indexer.specs.declared.texts.Texts.TheVariants.{One, Several}

abbrev pub kept_in : Texts → List (RcStr Global)
kept_in (One text) = text ∷ []
kept_in (Several texts) = texts.items

abbrev pub bytes_in : Texts → List (List ℕ)
bytes_in texts = map rc_str_bytes (kept_in texts)
