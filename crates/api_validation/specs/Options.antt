-- The body of a deletion: what it asks of the object that stands (Kubernetes API reference, "DeleteOptions", "Preconditions").
-- Members that are not named here are ignored, and so is one that is blank, as is said of each.
use Rattle.std.specs.Prelude.{ℕ, Bool, true, false, ◌&&◌, ◌||◌, List, [], ◌∷◌, Option, Some, None, option_and_then, if◌then◌else◌, codes}
use Rattle.std.specs.Str.{bytes_eq}
use Rattle.std.specs.declared.result.Result.TheVariants.{Ok}
use Rattle.serde_json.specs.Data.{Data, null, string, array, object, Items, no_items, item, Members}
use Rattle.serde_json.specs.Find.{get_member, as_object}
use Rattle.json_values.specs.Texts.{unless_empty}
use Rattle.names.specs.Decimals.{version_of}
use Rattle.api_request.specs.declared.reason.Reason.TheVariants.{BadRequest}
use Rattle.api_request.specs.Validated.{Validated, and_then, refused_for}

abbrev pub bad_options : {X : Type 0} → Validated X
bad_options = refused_for BadRequest (codes "bad delete options")

abbrev pub is_no_text : List ℕ → Bool
is_no_text [] = true
is_no_text (b ∷ bs) = false

abbrev pub is_no_list : Items → Bool
is_no_list no_items = true
is_no_list (item d ds) = false

-- absent, null, the empty text or the empty list
abbrev pub is_blank : Option Data → Bool
is_blank None = true
is_blank (Some null) = true
is_blank (Some (string s)) = is_no_text s
is_blank (Some (array ds)) = is_no_list ds
is_blank (Some d) = false

abbrev pub is_all : Data → Bool
is_all (string s) = bytes_eq s (codes "All")
is_all d = false

-- the list of `All` ("Kubernetes API Concepts", "Dry-run")
abbrev pub are_all : Items → Bool
are_all no_items = false
are_all (item d ds) = is_no_list ds && is_all d

abbrev pub asks_dry_run : Option Data → Bool
asks_dry_run (Some (array ds)) = are_all ds
asks_dry_run d = false

-- the text of a member; none where it is absent, null or the empty text
abbrev pub text_in : Option Data → Validated (Option (List ℕ))
text_in None = Ok None
text_in (Some null) = Ok None
text_in (Some (string s)) = Ok (unless_empty s)
text_in (Some d) = bad_options

abbrev pub version_or_bad : Option ℕ → Validated (Option ℕ)
version_or_bad None = bad_options
version_or_bad (Some v) = Ok (Some v)

-- the version that the object has to have
abbrev pub version_given : Option (List ℕ) → Validated (Option ℕ)
version_given None = Ok None
version_given (Some s) = version_or_bad (version_of s)

-- no object here has a `uid`
abbrev pub no_uid : Option (List ℕ) → Validated (Unit {0})
no_uid None = Ok tt
no_uid (Some uid) = bad_options

abbrev pub preconditions_read : Members → Validated (Option ℕ)
preconditions_read ms =
    and_then (text_in (get_member (codes "uid") ms)) (λ uid.
    and_then (no_uid uid) (λ u.
    and_then (text_in (get_member (codes "resourceVersion") ms)) version_given))

-- the version that `preconditions` asks for, if it is there; only an object or null may stand there
abbrev pub preconditions_in : Option Data → Validated (Option ℕ)
preconditions_in None = Ok None
preconditions_in (Some null) = Ok None
preconditions_in (Some (object ms)) = preconditions_read ms
preconditions_in (Some d) = bad_options

-- `dryRun` has to be blank, but of a type that clients discover it may ask for a dry run
abbrev pub may_stand : Bool → Option Data → Bool
may_stand is_lenient dry_run = if is_lenient then is_blank dry_run || asks_dry_run dry_run else is_blank dry_run

-- the version that the options ask for, if any
abbrev pub options_in : Bool → Option Members → Validated (Option ℕ)
options_in is_lenient None = bad_options
options_in is_lenient (Some ms) = if may_stand is_lenient (get_member (codes "dryRun") ms) then preconditions_in (get_member (codes "preconditions") ms) else bad_options

-- the version that the body of a deletion asks for, if any
abbrev pub options_validated : Bool → Option Data → Validated (Option ℕ)
options_validated is_lenient None = Ok None
options_validated is_lenient (Some body) = options_in is_lenient (as_object body)

-- whether the body of a deletion asks for a dry run
abbrev pub is_dry_deletion : Option Data → Bool
is_dry_deletion body = asks_dry_run (option_and_then (get_member (codes "dryRun")) (option_and_then as_object body))
