-- The code of a program, as instructions read it.
use Rattle.std.specs.Prelude.{ℕ, List}
use Rattle.hier_types.specs.Span.{Span}
use Rattle.rv_core.specs.Effect.{Effect, effect_at}
use Rattle.rv_core.specs.Hart.{Hart}
use Rattle.rv_core.specs.Touched.{poked, touched}

-- How a program's code is read in a span: the effect of the instruction at pc, the lines that it touches, and the bytes that it pokes.
pub record Code : Type 0 where
  pub span : Span
  pub effect : Hart → Effect
  pub touched : Hart → List ℕ
  pub poked : Hart → List (ℕ × ℕ)

-- instructions of whole words
abbrev pub words : Span → Code
words span = record { span = span; effect = effect_at span; touched = touched span; poked = poked span }
