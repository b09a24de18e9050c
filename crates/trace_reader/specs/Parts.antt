-- Bytes that are cut at marks.
use Rattle.std.specs.Prelude.{ℕ, ◌==◌, List, [], Option}
use Rattle.std.specs.List.{slice_split}
use Rattle.std.specs.Option.{option_map_or}
use Rattle.std.specs.Borrow.{Bor}

-- the parts round each mark, one more than there are marks
abbrev pub parts : ℕ → List ℕ → List (List ℕ)
parts mark bytes = slice_split (λ byte. byte == mark) bytes

-- the parts of what stands behind a mark, and none where there was no mark
abbrev pub parts_behind : ℕ → Option (Bor (List ℕ)) → List (List ℕ)
parts_behind mark behind = option_map_or (λ (bytes : Bor (List ℕ)). parts mark bytes.now) behind []
