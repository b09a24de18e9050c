use Rattle.std.proofs.Common.{◌∙◌, ap, sym}
use Rattle.page_slots.specs.Descs.{content_of}
use Rattle.page_mover.proofs.FrontLemmas.{body_take, sound_take}
use Rattle.page_mover.proofs.tests.gather_front.Goals as goal

pub gather-requires : goal.gather-requires
gather-requires c = (c.requires.sound.0, sound_take c.requires.sound.0 c.args.shape c.args.size c.args.bytes.now c.requires.is_size c.requires.sound.1)

pub returns : goal.returns
returns c = c.gather.ensures ∙ ap (content_of c.args.shape) (sym (body_take c.args.shape c.args.size c.args.bytes.now c.requires.is_size))
