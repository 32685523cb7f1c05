-- A request target without a question mark, and texts of a head's parts.
use Rattle.std.proofs.Common.{arith, ◌≡◌, ℕ, ◌<◌, ◌+◌, true, eqb, List, [], length, sym, subst}
use Rattle.std.specs.Prelude.{IsUtf8}
use Rattle.std.specs.List.{position_or_len}
use Rattle.std.proofs.lemmas.List.{take_all, drop_all}
use Rattle.std.proofs.lemmas.List.Elements.{All-weaker}
use Rattle.std.proofs.lemmas.Bool.Decides.{nat_tests}
use Rattle.std.proofs.lemmas.Str.{IsUtf8-from_ascii}
use Rattle.std.proofs.lemmas.Str.Ascii.{IsAscii-from_all}
use Rattle.httparse.specs.Grammar.{is_token_byte, AllPass}
use Rattle.httparse.specs.declared.spans.HeaderSpan.{HeaderSpan}
use Rattle.httparse.specs.declared.spans.RequestSpans.{RequestSpans}
use Rattle.httparse.specs.Spans.{span_bytes}
use Rattle.requests.specs.Bodies.{path_of, query_of}
use Rattle.requests.specs.Views.{IsWholeAt}

pub whole_before : (request_target : List ℕ) → position_or_len (λ b. eqb b 63) request_target ≡ length request_target → request_target ≡ path_of request_target
whole_before request_target none = sym (take_all (position_or_len (λ b. eqb b 63) request_target) request_target (omega (arith, none)))

pub nothing_after : (request_target : List ℕ) → position_or_len (λ b. eqb b 63) request_target ≡ length request_target → [] ≡ query_of request_target
nothing_after request_target none = sym (drop_all (position_or_len (λ b. eqb b 63) request_target + 1) request_target (omega (arith, none)))

-- ---- a method is a token, and a request target is a text

token_is_ascii : (b : ℕ) → is_token_byte b ≡ true → b < 128
unfolding is_token_byte
token_is_ascii b token = grind (arith, nat_tests)

token_text : (bytes : List ℕ) → AllPass is_token_byte bytes → IsUtf8 bytes
token_text bytes pass = IsUtf8-from_ascii bytes (IsAscii-from_all bytes (All-weaker (λ b. is_token_byte b ≡ true) (λ b. b < 128) token_is_ascii bytes pass))

pub method_text : (buf : List ℕ) (headers : List HeaderSpan) (parts : RequestSpans) → IsWholeAt buf headers parts → IsUtf8 (span_bytes buf parts.method)
method_text buf headers parts (h, reads, at) = subst IsUtf8 (sym at.method) (token_text h.method reads.0.method.1)

pub path_text : (buf : List ℕ) (headers : List HeaderSpan) (parts : RequestSpans) → IsWholeAt buf headers parts → IsUtf8 (span_bytes buf parts.path)
path_text buf headers parts (h, reads, at) = subst IsUtf8 (sym at.path) reads.0.target_text
