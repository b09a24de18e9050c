-- What each line of a page takes in a slot, as one byte.
use Rattle.std.specs.Prelude.{ℕ, ◌==◌, List, Option, Some, None, if◌then◌else◌, map, unwrap_or}
use Rattle.std.specs.Str.{bytes_eq}
use Rattle.hier_types.specs.declared.settings.Codec.{Codec}
use Rattle.hier_types.specs.Lines.{zero_line}
use Rattle.line_codec.specs.Slots.{stored}

-- 1 for a line of zeros, 0 for one that has no stored size, and else the stored size, which is 2 or more
unfoldable pub kept_size : Codec → List ℕ → ℕ
kept_size codec line = if bytes_eq line zero_line then 1 else unwrap_or (stored codec line) 0

-- and of all lines
abbrev pub kept_sizes : Codec → List (List ℕ) → List ℕ
kept_sizes codec lines = map (kept_size codec) lines

-- the stored size that a byte says, where a line of zeros has this one
abbrev pub size_told : Option ℕ → ℕ → Option ℕ
size_told zero byte = if byte == 1 then zero else if byte == 0 then None else Some byte

-- and all of a page
abbrev pub sizes_told : Option ℕ → List ℕ → List (Option ℕ)
sizes_told zero bytes = map (size_told zero) bytes
