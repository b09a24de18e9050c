-- An instruction that makes a call pokes nothing itself.
use Rattle.std.proofs.Common.{◌≡◌, ◌==◌, ◌&&◌, ◌%◌, ℕ, true, false, cond, [], Option, Some, None, refl}
use Rattle.hier_types.specs.Span.{Span, has}
use Rattle.rv_decode.specs.declared.instruction.Instr.{Instr}
use Rattle.rv_decode.specs.declared.instruction.Instr.TheVariants.{Lui, Auipc, Jal, Jalr, Branch, Load, Store, Imm, Shift, Reg, Fence, FenceI, Ecall, Ebreak}
use Rattle.rv_decode.specs.declared.instruction.StoreOp.{StoreOp}
use Rattle.rv_decode.specs.Table.{decoded}
use Rattle.rv_core.specs.Effect.{Calls, effect_at, effect_of, effect_of_word, fetched, stores}
use Rattle.rv_core.specs.Hart.{Hart}
use Rattle.rv_core.specs.Operations.{store_width}
use Rattle.rv_core.specs.Touched.{poked, pokes_of, pokes_of_word}

-- a store makes no call
no_call : (span : Span) (op : StoreOp) (value at : ℕ) (h : Hart) → stores span op value at h ≡ Calls → ⊥
no_call span op value at h e =
    elim (at % store_width op == 0) as (λ b. (at % store_width op == 0) ≡ b → ⊥) [
      | false ↦ λ f. let no = rw f at e in cc
      | true ↦ λ f. elim (has span at) as (λ b. has span at ≡ b → ⊥) [ false ↦ λ g. let no = rw (f, g) at e in cc | true ↦ λ g. let no = rw (f, g) at e in cc ] refl
    ] refl

call_pokes : (span : Span) (instr : Instr) (h : Hart) → effect_of span instr h ≡ Calls → pokes_of span instr h ≡ []
call_pokes span (Lui rd imm) h e = refl
call_pokes span (Auipc rd imm) h e = refl
call_pokes span (Jal rd off) h e = refl
call_pokes span (Jalr rd rs1 imm) h e = refl
call_pokes span (Branch op rs1 rs2 off) h e = refl
call_pokes span (Load op rd rs1 imm) h e = refl
call_pokes span (Store op rs1 rs2 imm) h e = absurd (no_call span op _ _ h e)
call_pokes span (Imm op rd rs1 imm) h e = refl
call_pokes span (Shift op rd rs1 by) h e = refl
call_pokes span (Reg op rd rs1 rs2) h e = refl
call_pokes span Fence h e = refl
call_pokes span FenceI h e = refl
call_pokes span Ecall h e = refl
call_pokes span Ebreak h e = refl

word_pokes : (span : Span) (instr : Option Instr) (word : ℕ) (h : Hart) → effect_of_word span instr word h ≡ Calls → pokes_of_word span instr h ≡ []
word_pokes span (Some instr) word h e = call_pokes span instr h e
word_pokes span None word h e = refl

-- an instruction that makes a call pokes nothing itself
pub pokes_of_call : (span : Span) (h : Hart) → effect_at span h ≡ Calls → poked span h ≡ []
unfolding effect_at poked
pokes_of_call span h e =
    elim (h.pc % 4 == 0) as (λ b. (h.pc % 4 == 0) ≡ b → cond (b && has span h.pc) (pokes_of_word span (decoded (fetched span h)) h) [] ≡ []) [
      | false ↦ λ f. refl
      | true ↦ λ f. elim (has span h.pc) as (λ b. has span h.pc ≡ b → cond b (pokes_of_word span (decoded (fetched span h)) h) [] ≡ [])
          [ false ↦ λ g. refl | true ↦ λ g. word_pokes span (decoded (fetched span h)) (fetched span h) h (rw (f, g) at e) ] refl
    ] refl
