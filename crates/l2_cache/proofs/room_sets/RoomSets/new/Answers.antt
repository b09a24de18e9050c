use Rattle.std.proofs.Common.{◌*◌, ap}
use Rattle.l2_cache.proofs.RoomLemmas.{rooms_made, kept_made}
use Rattle.l2_cache.proofs.room_sets.RoomSets.new.Goals as goal

pub invariant_of-result : goal.invariant_of-result
invariant_of-result c = rooms_made c.in_ok-empty_sets.field-0.items c.args.codec c.args.sets c.args.ways c.in_ok-empty_sets.ensures c.requires.sets c.requires.ways

pub returns : goal.returns
returns c = ap (λ sets. record { codec = c.args.codec; sets = sets }) (kept_made c.in_ok-empty_sets.field-0.items c.args.codec c.args.sets (2 * c.args.ways) c.in_ok-empty_sets.ensures)
