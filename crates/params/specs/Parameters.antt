-- The names of parameters (Kubernetes documentation, "Kubernetes API Concepts"; Kubernetes API reference,
-- "Common Parameters").
use Rattle.std.specs.Prelude.{ℕ, List, codes}
use Rattle.params.specs.declared.parameter.Parameter.{Parameter}
use Rattle.params.specs.declared.parameter.Parameter.TheVariants.{AllowWatchBookmarks, Continue, DryRun, FieldManager, FieldSelector, FieldValidation, Force, LabelSelector, Limit, ResourceVersion, ResourceVersionMatch, SendInitialEvents, TimeoutSeconds, Watch}

abbrev pub name_of : Parameter → List ℕ
name_of AllowWatchBookmarks = codes "allowWatchBookmarks"
name_of Continue = codes "continue"
name_of DryRun = codes "dryRun"
name_of FieldManager = codes "fieldManager"
name_of FieldSelector = codes "fieldSelector"
name_of FieldValidation = codes "fieldValidation"
name_of Force = codes "force"
name_of LabelSelector = codes "labelSelector"
name_of Limit = codes "limit"
name_of ResourceVersion = codes "resourceVersion"
name_of ResourceVersionMatch = codes "resourceVersionMatch"
name_of SendInitialEvents = codes "sendInitialEvents"
name_of TimeoutSeconds = codes "timeoutSeconds"
name_of Watch = codes "watch"
