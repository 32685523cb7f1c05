use Rattle.std.proofs.Common.{◌≡◌, ap, map, string_bytes, true}
use Rattle.std.specs.List.{position}
use Rattle.std.specs.Str.{bytes_eq}
use Rattle.std.proofs.lemmas.Result.{IfOk-weaker}
use Rattle.indexer.specs.Objects.{is_among, under_number}
use Rattle.indexer.specs.Postings.{under}
use Rattle.indexer.proofs.Shown.{iff_along, nothing_ascends}
use Rattle.indexer.proofs.postings.texts_in.Goals as goal

pub returns-in-Some-clause-members : goal.returns-in-Some-clause-members
returns-in-Some-clause-members c =
    let number = position (λ n. bytes_eq n c.args.name.now) (map string_bytes c.args.names.now) in
    IfOk-weaker c.texts_of_one.result _ _
    (λ v h k. iff_along (is_among (map (λ t. t.now) v.items) k ≡ true) (under c.in-Some.postings.now k) (under_number c.args.postings.now number k) (c.in-Some.ensures k) (h k)) c.texts_of_one.ensures.members

pub returns-in-None-clause-ascending : goal.returns-in-None-clause-ascending
returns-in-None-clause-ascending c = nothing_ascends _ (ap (map (λ t. t.now)) c.new.ensures.items)
