-- The words of the generated program are those of its parts, one after the other.
use Rattle.std.proofs.Common.{ℕ, ◌≡◌, List, [], ◌++◌, map}
use Rattle.std.proofs.lemmas.List.{map-append}
use Rattle.rv_decode.specs.declared.instruction.Instr.{Instr}
use Rattle.rv_asm.specs.Encoding.{word_of}
use Rattle.rv_asm.specs.Demo.{demo_instructions, end, fill, middle, start, sum}

-- a list of words that begins empty and grows by the words of each part ends as those of the program
pub encoded : (number : ℕ) (a b c d e : List Instr) (u v w x y z : List ℕ) → a ≡ start number → b ≡ fill → c ≡ middle → d ≡ sum → e ≡ end
    → u ≡ [] → v ≡ u ++ map word_of a → w ≡ v ++ map word_of b → x ≡ w ++ map word_of c → y ≡ x ++ map word_of d → z ≡ y ++ map word_of e
    → z ≡ map word_of (demo_instructions number)
unfolding demo_instructions
encoded number a b c d e u v w x y z of_a of_b of_c of_d of_e of_u of_v of_w of_x of_y of_z =
    let two = map-append word_of (start number) fill in
    let three = map-append word_of (start number ++ fill) middle in
    let four = map-append word_of (start number ++ fill ++ middle) sum in
    let five = map-append word_of (start number ++ fill ++ middle ++ sum) end in
    cc
