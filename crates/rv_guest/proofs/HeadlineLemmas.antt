-- A run that follows the flat run from a file's first state has the headline.
use Rattle.std.proofs.Common.{◌≡◌, ◌-◌, ℕ, List, [], Some, subst, arith}
use Rattle.hier_types.specs.Span.{Span}
use Rattle.hier_types.specs.Streams.{Streams}
use Rattle.rv_guest.specs.declared.ends.MachineEnd.{MachineEnd}
use Rattle.rv_guest.specs.declared.ends.MachineEnd.TheVariants.{Exit, Trap, Budget, Space, InFault, OutFault}
use Rattle.rv_guest.specs.Beside.{guest_beside}
use Rattle.rv_guest.specs.Flat.{flat_step}
use Rattle.rv_guest.specs.FlatRun.{FlatEnd, after_by, run_by}
use Rattle.rv_guest.specs.FollowsFlat.{EndsBy, FollowsFlat, StandsAfter}
use Rattle.rv_guest.specs.Headline.{Ends, EndsAsFlat, IsCut}
use Rattle.rv_guest.specs.Start.{code_of_file, start_guest, start_of}
use Rattle.rv_guest.specs.State.{GuestState, flat_of}

less_none : (n : ℕ) → n - 0 ≡ n
less_none n = omega arith

module _ (span : Span) (budget : ℕ) (file : List ℕ) (last : GuestState) (streams : Streams) where
  whole : (end : FlatEnd) → EndsBy (guest_beside (code_of_file span file)) budget (start_guest span file) end last streams → Ends span budget file end last streams
  whole end h = record {
    output = h.bytes;
    wrote = h.wrote;
    run = λ input e. let so = h.flat input e in (so.0, so.1, subst (λ n. run_by (flat_step (code_of_file span file)) n (start_of span file input) ≡ (end, flat_of last so.0 h.bytes)) (less_none budget) (so.2 []));
  }

  cut : (further : List ℕ) → StandsAfter (guest_beside (code_of_file span file)) budget (start_guest span file) last further streams → IsCut span budget file further last streams
  cut further h = record {
    allowed = h.allowed;
    output = h.bytes;
    wrote = h.wrote;
    run = λ input e. let so = h.flat input e in (so.0, so.1, subst (λ n. after_by (flat_step (code_of_file span file)) n (start_of span file input) ≡ Some (flat_of last so.0 h.bytes)) (less_none last.retired) (so.2 []));
  }

  pub headline : (end : MachineEnd) → FollowsFlat (guest_beside (code_of_file span file)) budget (start_guest span file) end last streams → EndsAsFlat span budget file end last streams
  headline (Exit status) h = whole _ h.ends
  headline (Trap trap) h = (whole _ h.ends.0, h.ends.1)
  headline Budget h = (whole _ h.ends.0, h.ends.1)
  headline (Space refusal) h = cut [] h.ends
  headline InFault h = record { at = h.ends.at; count = h.ends.count; stands = h.ends.call; rose = h.ends.rose; cut = cut [] h.ends.after }
  headline OutFault h = record { bytes = h.ends.bytes; taken = h.ends.taken; stands = h.ends.call; rose = h.ends.rose; cut = cut _ h.ends.after }
