use Rattle.std.proofs.Common.{◌≡◌, Err, subst, sym}
use Rattle.std.specs.Prelude.{IfSome}
use Rattle.serde_json.specs.View as value
use Rattle.api_types.specs.Discovered.{profile_of}
use Rattle.api_types.specs.Served.{types_view}
use Rattle.api_types.specs.TypesFile.{declared_types}
use Rattle.api_types.specs.Views.{FailsWith}
use Rattle.api_types.specs.declared.profile.Profile.{Profile}
use Rattle.api_types.specs.declared.profile.Profile.TheVariants.{Plain}
use Rattle.api_types.proofs.Profiles.{refused_alike}
use Rattle.verbs.specs.declared.fault.RetypeFault.{RetypeFault}
use Rattle.verbs.specs.Retyping.{retyping}
use Rattle.verbs.specs.Views.{IsFileFault, retype_refusal, reported_of_file}
use Rattle.verbs.proofs.Served.{never_unreadable, no_types, tells_file}
use Rattle.verbs.proofs.retyping.types_in.Goals as goal

pub returns-in-Err : goal.returns-in-Err
returns-in-Err c =
    let alike : (p : Profile) → FailsWith c.in-Err.fault (declared_types p (value.view c.args.file.now)) = λ p.
    refused_alike (profile_of (types_view c.args.others.now)) p (value.view c.args.file.now) c.in-Err.fault (subst (λ q. FailsWith c.in-Err.fault (declared_types q (value.view c.args.file.now))) c.profile.ensures c.in-Err.ensures) in
    record {
      types = tt;
      refused = λ served m.
          subst (λ (e : RetypeFault). IfSome (retype_refusal e) (λ why. retyping served m (value.view c.args.file.now) ≡ Err why)) (sym c.file_fault.ensures)
          (no_types c.in-Err.fault served m (value.view c.args.file.now) (alike (profile_of served)));
      reported = subst (λ (e : RetypeFault). IfSome (reported_of_file e) (IsFileFault (value.view c.args.file.now))) (sym c.file_fault.ensures)
          (tells_file c.in-Err.fault (value.view c.args.file.now) (alike Plain));
      readable = λ same. let is = c.file_fault.ensures in never_unreadable c.in-Err.fault cc;
    }
