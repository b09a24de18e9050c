-- Of the operations that share an opcode the word has the row and the fields.
use Rattle.std.proofs.Common.{rules, w16, SFits}
use Rattle.std.proofs.lemmas.Int.{to_z-of_z}
use Rattle.rv_asm.proofs.EncodingLemmas.{branch_encodes, load_encodes, store_encodes, imm_encodes, shift_encodes, reg_encodes}
use Rattle.rv_asm.proofs.words.encode.Goals as goal

pub returns-in-Branch-clause-row : goal.returns-in-Branch-clause-row
returns-in-Branch-clause-row c =
    let i = c.in-Branch in
    let in_type : SFits w16 i.off = search rules in
    rw i.is (branch_encodes _ c.branch_row.result i.op i.rs1 i.rs2 i.off (simp to_z-of_z at c.b_word.ensures) (c.branch_row.ensures.value i.rs1 i.rs2 i.off) (rw i.is at c.requires))

pub returns-in-Load-clause-row : goal.returns-in-Load-clause-row
returns-in-Load-clause-row c =
    let i = c.in-Load in
    let in_type : SFits w16 i.imm = search rules in
    rw i.is (load_encodes _ c.load_row.result i.op i.rd i.rs1 i.imm (simp to_z-of_z at c.i_word-in-Load.ensures) (c.load_row.ensures.value i.rd i.rs1 i.imm) (rw i.is at c.requires))

pub returns-in-Store-clause-row : goal.returns-in-Store-clause-row
returns-in-Store-clause-row c =
    let i = c.in-Store in
    let in_type : SFits w16 i.imm = search rules in
    rw i.is (store_encodes _ c.store_row.result i.op i.rs1 i.rs2 i.imm (simp to_z-of_z at c.s_word.ensures) (c.store_row.ensures.value i.rs1 i.rs2 i.imm) (rw i.is at c.requires))

pub returns-in-Imm-clause-row : goal.returns-in-Imm-clause-row
returns-in-Imm-clause-row c =
    let i = c.in-Imm in
    let in_type : SFits w16 i.imm = search rules in
    rw i.is (imm_encodes _ c.imm_row.result i.op i.rd i.rs1 i.imm (simp to_z-of_z at c.i_word-in-Imm.ensures) (c.imm_row.ensures.value i.rd i.rs1 i.imm) (rw i.is at c.requires))

pub returns-in-Shift-clause-row : goal.returns-in-Shift-clause-row
returns-in-Shift-clause-row c =
    let i = c.in-Shift in
    rw i.is (shift_encodes _ c.shift_row.result i.op i.rd i.rs1 i.by c.r_word.ensures (c.shift_row.ensures.value i.rd i.rs1 i.by) (rw i.is at c.requires))

pub returns-in-Reg-clause-row : goal.returns-in-Reg-clause-row
returns-in-Reg-clause-row c =
    let i = c.in-Reg in
    rw i.is (reg_encodes _ c.reg_row.result i.op i.rd i.rs1 i.rs2 c.r_word-in-Reg.ensures (c.reg_row.ensures.value i.rd i.rs1 i.rs2) (rw i.is at c.requires))
