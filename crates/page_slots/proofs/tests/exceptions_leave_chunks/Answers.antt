use Rattle.hier_types.specs.declared.settings.Codec.TheVariants.{Bdi}
use Rattle.page_slots.proofs.tests.exceptions_leave_chunks.Goals as goal

pub gather-requires : goal.gather-requires
gather-requires g c = (Bdi, c.hoist.ensures.sound Bdi c.laid_in-slots.ensures.sound)
