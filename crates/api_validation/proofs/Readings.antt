-- What a query says word for word, it says on each type.
use Rattle.std.proofs.Common.{◌≡◌, ℕ, Bool, true, false, List, Result, Ok, Err, ap}
use Rattle.api_types.specs.Profiles.{is_discovered}
use Rattle.params.specs.declared.parameter.Parameter.{Parameter}
use Rattle.params.specs.declared.params.Asked.{Asked}
use Rattle.params.specs.Lenient.{values_read}
use Rattle.params.specs.Query.{Pairs, pairs_in}
use Rattle.params.specs.Reading.{params_of}
use Rattle.params.specs.Values.{Values}
use Rattle.params.proofs.LenientReads.{lenient_reads_all}
use Rattle.api_request.proofs.Checks.{no_err, ok_is}
use Rattle.api_validation.specs.Parameters.{OthersAreReadByWords, WordsAreReadOnEach, read_or_refused}

read_back : {X : Type 0} (r : Result X Parameter) (x : X) → read_or_refused r ≡ Ok x → r ≡ Ok x
read_back (Ok y) x e = ap Ok (ok_is y x e)
read_back (Err p) x e = no_err _ x e

by_mark : (is_lenient : Bool) (asked : Asked) (pairs : Pairs) (values : Values) → params_of asked pairs ≡ Ok values → values_read is_lenient asked pairs ≡ Ok values
by_mark true asked pairs values is = lenient_reads_all asked pairs values is
by_mark false asked pairs values is = is

pub others_are_read_by_words : OthersAreReadByWords
others_are_read_by_words t asked query is = ap (λ (b : Bool). read_or_refused (values_read b asked (pairs_in query))) is

pub words_are_read_on_each : WordsAreReadOnEach
words_are_read_on_each t asked query values is = ap read_or_refused (by_mark (is_discovered t.profile) asked (pairs_in query) values (read_back (params_of asked (pairs_in query)) values is))
