-- The state that a machine begins in.
use Rattle.std.specs.Prelude.{◌≡◌, ◌*◌, ℕ, List, [], None, false, replicate}
use Rattle.hier_types.specs.declared.settings.Settings.{Settings}
use Rattle.l2_cache.specs.SecondLevel.{SecondLevel}
use Rattle.page_store.specs.Store.{Sizing, Store, fresh}
use Rattle.rv_guest.specs.Start.{start_guest}
use Rattle.hier_machine.specs.Memory.{Memory, store_of}
use Rattle.hier_machine.specs.Placed.{PlacedUpTo}
use Rattle.hier_machine.specs.State.{MachineState}

-- what sizes the store
abbrev pub asked_sizing : Settings → Sizing
asked_sizing settings = record { codec = settings.codec; frames = settings.frames; meta = settings.meta }

-- no level keeps a line, and nothing was counted
abbrev pub start_second : Settings → Store → SecondLevel Store
start_second settings store = record {
  below = store;
  codec = settings.codec;
  sets = replicate settings.l2_sets (record { ways = 2 * settings.l2_ways; lines = [] });
  cursor = 0;
  counts = record { reads = 0; read_hits = 0; writes = 0; write_hits = 0 };
}

abbrev pub start_memory : Settings → Store → Memory
start_memory settings store = record {
  below = start_second settings store;
  sets = replicate settings.l1_sets (record { ways = settings.l1_ways; lines = [] });
  held = None;
  counts = record { hits = 0; misses = 0; write_backs = 0 };
  span = settings.geometry;
}

-- A machine that has made no beat, under these settings.
pub record IsNew (settings : Settings) (s : MachineState) : Type 0 where
  pub budget : s.budget ≡ settings.budget
  pub beats : s.beats ≡ settings.beats
  pub cleaner : s.cleaner_turns ≡ 0
  pub running : s.ended ≡ false

-- A machine begins with the image in its store.
pub record Starts (settings : Settings) (file : List ℕ) (s : MachineState) : Type 0 where
  pub placed : PlacedUpTo (record { span = settings.geometry; file = file }) (asked_sizing settings) settings.geometry.pages (store_of s.memory)
  pub memory : s.memory ≡ start_memory settings (store_of s.memory)
  pub guest : s.guest ≡ start_guest settings.geometry file
  pub new : IsNew settings s

-- A machine for a trace begins with zeros, and its guest makes no instruction.
pub record StartsEmpty (settings : Settings) (s : MachineState) : Type 0 where
  pub memory : s.memory ≡ start_memory settings (fresh (asked_sizing settings) settings.geometry.pages)
  pub bytes : s.guest.hart.bytes ≡ replicate (4096 * settings.geometry.pages) 0
  pub retired : s.guest.retired ≡ 0
  pub new : IsNew settings s
