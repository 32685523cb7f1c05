-- The bytes of a request, before and after they decide what it asks.
use Rattle.std.specs.Prelude.{ℕ, List}
use Rattle.requests.specs.declared.read_buffer.ReadBuffer.{ReadBuffer}
use Rattle.requests.specs.declared.request.Request.{Request}

-- all that came
abbrev pub buffered : ReadBuffer → List ℕ
buffered prefix = prefix.bytes.items

abbrev pub request_bytes : Request → List ℕ
request_bytes request = request.bytes.items
