-- What a client takes from a line.
use Rattle.std.proofs.Common.{◌≡◌, ℕ, ◌<◌, ◌≤◌, ◌^◌, Bool, true, false, cond, List, [], ◌∷◌, ◌++◌, Option, Some, None, IsUtf8, refl, ap, ap₂, subst, ◌∙◌, arith}
use Rattle.std.specs.Prelude.{codes, decimal, option_and_then}
use Rattle.std.specs.Cmp.Lexicographic.{bytes_decides}
use Rattle.std.specs.Str.{bytes_eq, is_utf8}
use Rattle.std.specs.declared.result.Result.TheVariants.{Ok, Err}
use Rattle.std.proofs.lemmas.Str.{IsUtf8-append}
use Rattle.json.proofs.Printed.Utf8.{are_ascii, IsUtf8-are_ascii}
use Rattle.serde_json.specs.Data.{Data, null, boolean, number, string, array, object}
use Rattle.serde_json.specs.Read.{read}
use Rattle.serde_json.specs.Written.{compact_text}
use Rattle.names.specs.Decimals.{version_of}
use Rattle.names.proofs.Decimals.{exact}
use Rattle.schema.specs.ObjectShape.{IsObjectShape}
use Rattle.schema.specs.Shape.{Shape}
use Rattle.objects.specs.State.{State}
use Rattle.objects.specs.SystemMetadata.{Stamp, at_version}
use Rattle.objects.specs.ObjectText.{Identity, object_value}
use Rattle.objects.specs.ReadBack.{IsCounted, IsObjectText, max_version}
use Rattle.history.specs.History.{Object}
use Rattle.history.specs.Seen.{SeenChange, SeenKind, Added, Modified, Deleted}
use Rattle.indexer.specs.Objects.{Stored}
use Rattle.decoder.specs.declared.malformed.Malformed.TheVariants.{ApiVersion, Json, Kind, Version}
use Rattle.decoder.specs.Lines as reads
use Rattle.decoder.specs.Lines.{bookmark_of, line_in, line_of}
use Rattle.json_values.specs.Texts.{unless_empty}
use Rattle.decoder.specs.Members.{Read, ◌>>=◌, is_text, or_malformed, unless}
use Rattle.decoder.specs.Objects.{object_of}
use Rattle.decoder.specs.Wanted.{Wanted, api_version_of}
use Rattle.watchline.specs.declared.event.EventType.{EventType}
use Rattle.watchline.specs.declared.event.EventType.TheVariants as event
use Rattle.watchline.specs.Lines.{bookmark_value, expired_message, expired_value, text_shown, type_of}
use Rattle.line_laws.specs.Shown.{IsShown, line_value, shown, taken, stamp_shown}
use Rattle.line_laws.proofs.Renumbered.{has_room, object_over, shows_text, text_is}
use Rattle.line_laws.proofs.Texts.{decimal_utf8, has_texts, renumbered_texts, text_utf8}
use Rattle.line_laws.proofs.Values.{line_in_value, line_read}

-- ---- a line of any kind

-- as JSON these bytes are this line, whether or not they are UTF-8
pub record SaysLine (wanted : Wanted) (bytes : List ℕ) (l : reads.Line) : Type 0 where
  pub value : Data
  pub is_json : read bytes ≡ Some value
  pub is_line : line_of wanted value ≡ Ok l

-- where they are a client reads the line, and where they aren't no JSON
pub line_by : (wanted : Wanted) (bytes : List ℕ) (l : reads.Line) → SaysLine wanted bytes l → (b : Bool) → is_utf8 bytes ≡ b → line_in wanted bytes ≡ cond b (Ok l) (Err Json)
line_by wanted bytes l says b text = ap by_text text ∙ go b
  where
    by_text : Bool → Read reads.Line
    by_text t = or_malformed Json (cond t (read bytes) None) >>= line_of wanted

    go : (b : Bool) → by_text b ≡ cond b (Ok l) (Err Json)
    go true = ap (λ (o : Option Data). or_malformed Json o >>= line_of wanted) says.is_json ∙ says.is_line
    go false = refl

line_says : (wanted : Wanted) (what : EventType) (d : Data) (l : reads.Line) → IsShown d → IsUtf8 (compact_text d) → line_of wanted (line_value what d) ≡ Ok l → line_in wanted (shown what (compact_text d)) ≡ Ok l
line_says wanted what d l fits text is = ap (λ (r : Read Data). r >>= line_of wanted) (line_in_value what d fits text) ∙ is

-- ---- objects

object_line : (wanted : Wanted) (k : SeenKind) (d : Data) (o : Stored) → object_of wanted d ≡ Ok o → line_of wanted (line_value (type_of k) d) ≡ Ok (taken k o)
object_line wanted k null o is = absurd cc
object_line wanted k (boolean b) o is = absurd cc
object_line wanted k (number n) o is = absurd cc
object_line wanted k (string s) o is = absurd cc
object_line wanted k (array ds) o is = absurd cc
object_line wanted Added (object ms) o is = ap (λ (r : Read Stored). r >>= λ x. Ok (reads.put x)) is
object_line wanted Modified (object ms) o is = ap (λ (r : Read Stored). r >>= λ x. Ok (reads.put x)) is
object_line wanted Deleted (object ms) o is = ap (λ (r : Read Stored). r >>= λ x. Ok (reads.deleted x)) is

-- at any version it has the same generation
pub shown_counted : (k : SeenKind) (v : Stamp) (revision : ℕ) → IsCounted v.system → IsCounted (stamp_shown k v revision).system
shown_counted Added v revision counted = counted
shown_counted Modified v revision counted = counted
shown_counted Deleted v revision counted = counted

pub shown_text : (k : SeenKind) (s : Shape) (of : Identity) (v : Stamp) (state : State) (o : Object) → IsObjectShape s → IsObjectText s of v state o.body
    → text_shown k o ≡ compact_text (object_value s of (stamp_shown k v o.revision) state)
shown_text Added s of v state o shaped said = said.is_text ∙ text_is s of v state
shown_text Modified s of v state o shaped said = said.is_text ∙ text_is s of v state
shown_text Deleted s of v state o shaped said = shows_text s of v o.revision state o.body shaped said ∙ text_is s of (at_version o.revision v) state

-- with its own version, or with that of the deletion
shown_utf8 : (k : SeenKind) (s : Shape) (of : Identity) (v : Stamp) (state : State) (o : Object) → IsObjectShape s → IsObjectText s of v state o.body → o.revision ≤ max_version → IsUtf8 o.body
    → IsUtf8 (compact_text (object_value s of (stamp_shown k v o.revision) state))
shown_utf8 Added s of v state o shaped said low text = subst IsUtf8 (said.is_text ∙ text_is s of v state) text
shown_utf8 Modified s of v state o shaped said low text = subst IsUtf8 (said.is_text ∙ text_is s of v state) text
shown_utf8 Deleted s of v state o shaped said low text =
    let encodable = (has_room s of v state shaped.1 said.well_typed.0 said.counted).encodable in
    let texts = has_texts (object_value s of v state) encodable (subst IsUtf8 (said.is_text ∙ text_is s of v state) text) in
    text_utf8 (object_value s of (at_version o.revision v) state)
    (renumbered_texts o.revision (object_value s of v state) (object_value s of (at_version o.revision v) state) low texts (object_over s of state shaped.1 said.well_typed.0 v o.revision said.counted))

pub change_read : (wanted : Wanted) (s : Shape) (of : Identity) (v : Stamp) (state : State) (x : SeenChange) (o : Stored) → IsObjectShape s → IsObjectText s of v state x.object.body
    → x.object.revision ≤ max_version → IsUtf8 x.object.body → object_of wanted (object_value s of (stamp_shown x.kind v x.object.revision) state) ≡ Ok o
    → line_in wanted (shown (type_of x.kind) (text_shown x.kind x.object)) ≡ Ok (taken x.kind o)
change_read wanted s of v state x o shaped said low text is =
    let stamp = stamp_shown x.kind v x.object.revision in
    let same : text_shown x.kind x.object ≡ compact_text (object_value s of stamp state) = shown_text x.kind s of v state x.object shaped said in
    ap (λ t. line_in wanted (shown (type_of x.kind) t)) same
    ∙ line_says wanted (type_of x.kind) (object_value s of stamp state) (taken x.kind o) (has_room s of stamp state shaped.1 said.well_typed.0 (shown_counted x.kind v x.object.revision said.counted)) (shown_utf8 x.kind s of v state x.object shaped said low text)
    (object_line wanted x.kind (object_value s of stamp state) o is)

-- what the line of a change says, as JSON
pub change_says : (wanted : Wanted) (s : Shape) (of : Identity) (v : Stamp) (state : State) (x : SeenChange) (o : Stored) → IsObjectShape s → IsObjectText s of v state x.object.body
    → object_of wanted (object_value s of (stamp_shown x.kind v x.object.revision) state) ≡ Ok o → SaysLine wanted (shown (type_of x.kind) (text_shown x.kind x.object)) (taken x.kind o)
change_says wanted s of v state x o shaped said is =
    let what : EventType = type_of x.kind in
    let stamp : Stamp = stamp_shown x.kind v x.object.revision in
    let value : Data = object_value s of stamp state in
    record {
      value = line_value what value;
      is_json = ap (λ t. read (shown what t)) (shown_text x.kind s of v state x.object shaped said) ∙ line_read what value (has_room s of stamp state shaped.1 said.well_typed.0 (shown_counted x.kind v x.object.revision said.counted));
      is_line = object_line wanted x.kind value o is;
    }

pub object_shown : (s : Shape) (of : Identity) (v : Stamp) (state : State) (text : List ℕ) → IsObjectShape s → IsObjectText s of v state text
    → IsShown (object_value s of v state) × (text ≡ compact_text (object_value s of v state))
object_shown s of v state text shaped said = (has_room s of v state shaped.1 said.well_typed.0 said.counted, said.is_text ∙ text_is s of v state)

-- ---- bookmarks

fits : 9223372036854775807 < 2 ^ 64
fits = omega arith

pub version_back : (v : ℕ) → v ≤ max_version → version_of (decimal v) ≡ Some v
version_back v low = (exact 9223372036854775807 (decimal v) v fits).1 (low, refl)

in_word : (n : ℕ) → n ≤ max_version → n < 2 ^ 64
in_word n low = omega (arith, low)

pub filled : (xs : List ℕ) → (xs ≡ [] → ⊥) → unless_empty xs ≡ Some xs
filled [] h = absurd (h refl)
filled (x ∷ xs) h = refl

pub version_filled : (xs : List ℕ) (v : ℕ) → version_of xs ≡ Some v → unless_empty xs ≡ Some xs
version_filled [] v is = absurd cc
version_filled (x ∷ xs) v is = refl

pub joined_filled : (prefix back : List ℕ) → unless_empty (prefix ++ codes "/" ++ back) ≡ Some (prefix ++ codes "/" ++ back)
joined_filled [] back = refl
joined_filled (x ∷ prefix) back = refl

pub itself : (xs : List ℕ) → bytes_eq xs xs ≡ true
itself xs = (bytes_decides xs xs).1 refl

abbrev marks : List ℕ → List ℕ → Option (List ℕ) → Option (List ℕ) → Option (List ℕ) → Read ℕ
marks api_version kind a k v = (unless (is_text api_version a) ApiVersion >>= λ u. unless (is_text kind k) Kind) >>= λ u. or_malformed Version (option_and_then version_of v)

bookmark_is : (wanted : Wanted) (r : ℕ) → r ≤ max_version → (wanted.kind ≡ [] → ⊥) → bookmark_of wanted (bookmark_value (api_version_of wanted) wanted.kind (decimal r)) ≡ Ok r
bookmark_is wanted r low some =
    let api_version = api_version_of wanted in
    let kind = wanted.kind in
    ap (λ a. marks api_version kind a (unless_empty kind) (unless_empty (decimal r))) (joined_filled wanted.group wanted.version)
    ∙ ap₂ (λ k v. marks api_version kind (Some api_version) k v) (filled kind some) (version_filled (decimal r) r (version_back r low))
    ∙ ap₂ (λ p q. (unless p ApiVersion >>= λ u. unless q Kind) >>= λ u. or_malformed Version (version_of (decimal r))) (itself api_version) (itself kind)
    ∙ ap (or_malformed Version) (version_back r low)

pub bookmark_fits : (api_version kind version : List ℕ) → IsShown (bookmark_value api_version kind version)
bookmark_fits api_version kind version = record { encodable = (refl, (tt, (tt, ((refl, (tt, tt)), tt)))); whole = refl; shallow = omega arith }

ascii : (xs : List ℕ) → are_ascii xs ≡ true → IsUtf8 xs
ascii = IsUtf8-are_ascii

bookmark_utf8 : (api_version kind version : List ℕ) → IsUtf8 api_version → IsUtf8 kind → IsUtf8 version → IsUtf8 (compact_text (bookmark_value api_version kind version))
bookmark_utf8 api_version kind version a k v =
    text_utf8 (bookmark_value api_version kind version)
    (ascii (codes "apiVersion") refl, (a, (ascii (codes "kind") refl, (k, (ascii (codes "metadata") refl, ((ascii (codes "resourceVersion") refl, (v, tt)), tt))))))

pub bookmark_read : (wanted : Wanted) (r : ℕ) → r ≤ max_version → IsUtf8 (api_version_of wanted) → IsUtf8 wanted.kind → (wanted.kind ≡ [] → ⊥)
    → line_in wanted (shown event.Bookmark (compact_text (bookmark_value (api_version_of wanted) wanted.kind (decimal r)))) ≡ Ok (reads.bookmark r)
bookmark_read wanted r low a k some =
    line_says wanted event.Bookmark (bookmark_value (api_version_of wanted) wanted.kind (decimal r)) (reads.bookmark r) (bookmark_fits (api_version_of wanted) wanted.kind (decimal r))
    (bookmark_utf8 (api_version_of wanted) wanted.kind (decimal r) a k (decimal_utf8 r low))
    (ap (λ (x : Read ℕ). x >>= λ n. Ok (reads.bookmark n)) (bookmark_is wanted r low some))

-- ---- errors

pub expired_fits : (message : List ℕ) → IsShown (expired_value message)
expired_fits message = record { encodable = (refl, (tt, (omega arith, (tt, (tt, ((refl, tt), (tt, (tt, tt)))))))); whole = refl; shallow = omega arith }

message_utf8 : (r c : ℕ) → r ≤ max_version → c ≤ max_version → IsUtf8 (expired_message r c)
message_utf8 r c low under =
    IsUtf8-append (codes "too old resource version: " ++ decimal r ++ codes " (" ++ decimal c) (codes ")")
    (IsUtf8-append (codes "too old resource version: " ++ decimal r ++ codes " (") (decimal c)
    (IsUtf8-append (codes "too old resource version: " ++ decimal r) (codes " (") (IsUtf8-append (codes "too old resource version: ") (decimal r) (ascii (codes "too old resource version: ") refl) (decimal_utf8 r low)) (ascii (codes " (") refl))
    (decimal_utf8 c under)) (ascii (codes ")") refl)

expired_utf8 : (message : List ℕ) → IsUtf8 message → IsUtf8 (compact_text (expired_value message))
expired_utf8 message m =
    text_utf8 (expired_value message) (
      ascii (codes "apiVersion") refl,
      (
        ascii (codes "v1") refl,
        (
          ascii (codes "code") refl,
          (
            omega arith,
            (
              ascii (codes "kind") refl,
              (
                ascii (codes "Status") refl,
                (
                  ascii (codes "message") refl,
                  (
                    m,
                    (ascii (codes "metadata") refl, (tt, (ascii (codes "reason") refl, (ascii (codes "Expired") refl, (ascii (codes "status") refl, (ascii (codes "Failure") refl, tt)))))),
                  ),
                ),
              ),
            ),
          ),
        ),
      ),
    )

pub error_read : (wanted : Wanted) (r c : ℕ) → r ≤ max_version → c ≤ max_version → line_in wanted (shown event.Error (compact_text (expired_value (expired_message r c)))) ≡ Ok reads.error
error_read wanted r c low under = line_says wanted event.Error (expired_value (expired_message r c)) reads.error (expired_fits (expired_message r c)) (expired_utf8 (expired_message r c) (message_utf8 r c low under)) refl
