-- A file of one load, field by field (System V gABI, "Object files", "ELF header" and "Program header"; RISC-V psABI).
use Rattle.std.specs.Prelude.{ℕ, ◌*◌, List, [], ◌∷◌, ◌++◌, length, replicate}
use Rattle.std.specs.List.{flat_map}
use Rattle.byteorder.specs.Endian.{little_bytes}

-- 16 bits
abbrev pub half : ℕ → List ℕ
half number = little_bytes 2 number

-- 32 bits
abbrev pub word : ℕ → List ℕ
word number = little_bytes 4 number

-- e_ident: the magic number, 32 bits, little-endian, version 1, padding
abbrev pub identification : List ℕ
identification = (0x7f ∷ 0x45 ∷ 0x4c ∷ 0x46 ∷ 1 ∷ 1 ∷ 1 ∷ []) ++ replicate 9 0

-- the file header
abbrev pub file_header : List ℕ
file_header =
    identification
    ++ half 2  -- e_type, an executable
    ++ half 243  -- e_machine, RISC-V
    ++ word 1  -- e_version
    ++ word 0x10000  -- e_entry
    ++ word 52  -- e_phoff, behind this header
    ++ word 0  -- e_shoff, no sections
    ++ word 0  -- e_flags
    ++ half 52  -- e_ehsize
    ++ half 32  -- e_phentsize
    ++ half 1  -- e_phnum
    ++ half 0  -- e_shentsize
    ++ half 0  -- e_shnum
    ++ half 0  -- e_shstrndx

-- the program header of a load of so many bytes
abbrev pub program_header : ℕ → List ℕ
program_header bytes =
    word 1  -- p_type, a load
    ++ word 84  -- p_offset, behind both headers
    ++ word 0x10000  -- p_vaddr
    ++ word 0x10000  -- p_paddr
    ++ word bytes  -- p_filesz
    ++ word bytes  -- p_memsz
    ++ word 5  -- p_flags, read and execute
    ++ word 4  -- p_align

-- the file that loads the words at 0x10000 and starts there
unfoldable pub elf_file : List ℕ → List ℕ
elf_file words = file_header ++ program_header (4 * length words) ++ flat_map word words
