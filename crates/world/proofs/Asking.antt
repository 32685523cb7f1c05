-- The settings' fault, as the code finds it.
use Rattle.std.proofs.Common.{◌≡◌, ◌∙◌, ℕ, Bool, true, false, cond, List, Option, Some, None, ap, refl, sym}
use Rattle.std.specs.Prelude.{is_ok, is_some, slice_get}
use Rattle.api_types.specs.TypesFile.{ServedShape}
use Rattle.selector.specs.Grammar.{parse_selector}
use Rattle.indexer.specs.Names.{are_distinct}
use Rattle.reflector.specs.Faults.{is_namespace_or_all, is_page_size}
use Rattle.reflector.specs.declared.settings.SettingsFault.TheVariants.{Page, Namespace}
use Rattle.world_laws.specs.Tasks.{RunSettings, or_fault, settings_fault}

passed : (n : ℕ) (b : Bool) (others : Option ℕ) → or_fault n b None ≡ None → or_fault n b others ≡ others
passed n true others is = refl
passed n false others is = absurd cc

no_label : (page namespace : Bool) → or_fault 1 page None ≡ None → cond page (cond namespace None (Some Namespace)) (Some Page) ≡ Some Namespace → or_fault 5 namespace None ≡ Some 5
no_label true true is fault = absurd cc
no_label true false is fault = refl
no_label false namespace is fault = absurd cc

pub namespace_fault : (types : List ServedShape) (names : List (List ℕ)) (s : RunSettings) (namespace : Option (List ℕ)) → or_fault 1 (is_page_size s.page) None ≡ None → or_fault 2 (is_ok (parse_selector s.selector)) None ≡ None
    → or_fault 3 (is_some (slice_get types s.kind)) None ≡ None → or_fault 4 (are_distinct names) None ≡ None → namespace ≡ s.namespace
    → cond (is_page_size s.page) (cond (is_namespace_or_all namespace) None (Some Namespace)) (Some Page) ≡ Some Namespace → settings_fault types names s ≡ Some 5
namespace_fault types names s namespace page selector kind distinct same fault =
    passed 1 (is_page_size s.page) _ page ∙ passed 2 (is_ok (parse_selector s.selector)) _ selector ∙ passed 3 (is_some (slice_get types s.kind)) _ kind ∙ passed 4 (are_distinct names) _ distinct
    ∙ no_label (is_page_size s.page) (is_namespace_or_all s.namespace) page (sym (ap (λ o. cond (is_page_size s.page) (cond (is_namespace_or_all o) None (Some Namespace)) (Some Page)) same) ∙ fault)
