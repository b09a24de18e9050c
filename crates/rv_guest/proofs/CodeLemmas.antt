-- How the guest's code is read depends on none of its registers and bytes.
use Rattle.std.proofs.Common.{◌≡◌, ℕ, refl}
use Rattle.hier_types.specs.Span.{Span}
use Rattle.rv_core.specs.Hart.{Hart}
use Rattle.rv_guest.specs.State.{GuestState, code_at}

pub code_stays : (span : Span) (s : GuestState) (hart : Hart) (retired : ℕ) → code_at span (record s { hart = hart; retired = retired }) ≡ code_at span s
unfolding code_at
code_stays span s hart retired = refl
