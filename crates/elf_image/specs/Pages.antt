-- What loads put over a page.
use Rattle.std.specs.Prelude.{◌≡◌, ℕ, ◌+◌, ◌-◌, ◌<◌, ◌≤◌, ◌&&◌, nat_le, nat_lt, if◌then◌else◌, List, length, slice_index}
use Rattle.elf_image.specs.Image.{covers, byte_of}
use Rattle.elf_image.specs.declared.headers.Header.{Header}

-- the bytes that it loads, if any, lie in a file of so many bytes
abbrev pub IsWithin : ℕ → Header → Type 0
IsWithin bytes load = 0 < load.file_size → load.offset + load.file_size ≤ bytes

-- the byte at an address after a load was put over the one before
abbrev pub byte_over : List ℕ → Header → ℕ → ℕ → ℕ
byte_over file load before at = if covers at load then byte_of file at load else before

-- the bytes stand at a place of the list, which is otherwise as before
pub record PutsAt (at : ℕ) (bytes old new : List ℕ) : Type 0 where
  pub len : length new ≡ length old
  pub each : (k : ℕ) → k < length old → slice_index new k ≡ (if nat_le at k && nat_lt k (at + length bytes) then slice_index bytes (k - at) else slice_index old k)
