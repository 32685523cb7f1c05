-- A body in chunks (RFC 9112, section 7.1).
use Rattle.std.specs.Prelude.{◌<◌, ℕ, List, ◌++◌, length}
use Rattle.std.specs.List.{flat_map}
use Rattle.wire.specs.Heads.{crlf}
use Rattle.wire.specs.Lengths.{IsSize, hexadecimal}

-- the digits of a chunk's size, and its data
pub record Chunk : Type 0 where
  pub size : List ℕ
  pub content : List ℕ

pub record IsChunk (chunk : Chunk) : Type 0 where
  pub size : IsSize chunk.size (length chunk.content)
  pub some : 0 < length chunk.content
  pub fits : length chunk.content < 18446744073709551616

-- the chunk of these data, its size in as few digits as may be
abbrev pub chunk_of : List ℕ → Chunk
chunk_of content = record { size = hexadecimal (length content); content = content }

abbrev pub print_chunk : Chunk → List ℕ
print_chunk chunk = chunk.size ++ (crlf ++ (chunk.content ++ crlf))

-- the size of the last chunk, which is 0, and the empty trailer
abbrev pub print_last : List ℕ → List ℕ
print_last last = last ++ (crlf ++ crlf)

abbrev pub print_chunks : List Chunk → List ℕ → List ℕ
print_chunks chunks last = flat_map print_chunk chunks ++ print_last last
