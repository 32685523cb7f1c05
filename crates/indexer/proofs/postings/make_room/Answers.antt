use Rattle.std.proofs.Common.{◌∙◌, ap, List, nat_cmp}
use Rattle.std.specs.BTreeMap.{is_at}
use Rattle.std.specs.Cmp.Lexicographic.{slice_cmp}
use Rattle.std.specs.Map.{lookup}
use Rattle.std.specs.Rc.{rc_str_bytes}
use Rattle.indexer.specs.Objects.{under_at}
use Rattle.indexer.specs.Postings.{Postings, has_in}
use Rattle.indexer.proofs.Rows.{under_at-push}
use Rattle.indexer.proofs.postings.make_room.Goals as goal

pub returns-in_ok-push-clause-same : goal.returns-in_ok-push-clause-same
returns-in_ok-push-clause-same c = λ j k q.
    ap (λ (ps : List Postings). under_at ps j k q) c.in_ok-push.ensures.items
    ∙ under_at-push c.args.postings.now.items c.new.result j k q (ap (λ es. has_in (lookup (is_at (λ t. slice_cmp nat_cmp k (rc_str_bytes t))) es) q) c.new.ensures.empty)
