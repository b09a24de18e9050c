-- The rules of the values that a command line gives.
use Rattle.std.specs.Prelude.{◌==◌, ◌&&◌, ◌||◌, ℕ, Bool, List, Option, Some, None, length, map, nat_le, if◌then◌else◌, codes, option_and_then}
use Rattle.std.specs.Char.{is_ascii_digit}
use Rattle.std.specs.Int.{is_power_of_two}
use Rattle.std.specs.List.{list_all, list_any}
use Rattle.std.specs.Str.{bytes_eq}
use Rattle.std.specs.Str.Parse.{digits_value}
use Rattle.clap.specs.Words.{Text}
use Rattle.hier_types.specs.declared.beats.Beat.{Beat}
use Rattle.hier_types.specs.declared.beats.Beat.TheVariants.{Hart, Mover, Cleaner}
use Rattle.hier_types.specs.declared.settings.Codec.{Codec}
use Rattle.hier_types.specs.declared.settings.Codec.TheVariants.{Bdi, Fpc}

-- 1 to 20 decimal digits and nothing else
abbrev pub is_number : Text → Bool
is_number text = nat_le 1 (length text) && (nat_le (length text) 20 && list_all is_ascii_digit text)

abbrev pub within : ℕ → ℕ → ℕ → Option ℕ
within low high number = if nat_le low number && nat_le number high then Some number else None

-- the number that the text writes, where it is from `low` to `high`
abbrev pub number_within : ℕ → ℕ → Text → Option ℕ
number_within low high text = if is_number text then within low high (digits_value 10 text) else None

-- the same, of a power of two that is at most `most`
abbrev pub power_within : ℕ → Text → Option ℕ
power_within most text =
    option_and_then (λ number. if is_power_of_two number then Some number else None) (number_within 1 most text)

abbrev pub codec_of : Text → Option Codec
codec_of text = if bytes_eq text (codes "bdi") then Some Bdi
    else if bytes_eq text (codes "fpc") then Some Fpc else None

-- `h` (104) is the hart, `m` (109) the mover and `c` (99) the cleaner
abbrev pub is_beat_letter : ℕ → Bool
is_beat_letter letter = letter == 104 || (letter == 109 || letter == 99)

abbrev pub beat_of : ℕ → Beat
beat_of letter = if letter == 104 then Hart else if letter == 109 then Mover else Cleaner

-- at most 64 letters, with an `h` among them
abbrev pub beats_of : Text → Option (List Beat)
beats_of text =
    if nat_le (length text) 64 && (list_all is_beat_letter text && list_any (λ letter. letter == 104) text)
    then Some (map beat_of text) else None
