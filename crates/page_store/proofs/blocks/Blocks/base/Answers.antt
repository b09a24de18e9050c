use Rattle.std.proofs.Common.{◌≡◌, ◌≢◌, ◌<◌, ◌≤◌, ◌*◌, ◌∙◌, ℕ, Some, length, option_map, ap, sym, arith, rules}
use Rattle.buddy_frames.specs.Units.{Place}
use Rattle.page_slots.specs.declared.desc.Desc.{Desc}
use Rattle.page_slots.specs.declared.desc.Shape.TheVariants.{Zero}
use Rattle.page_slots.specs.Descs.{shape_of}
use Rattle.page_store.specs.declared.room.Held.{Held}
use Rattle.page_store.specs.PageBlocks.{AreSound, base_at}
use Rattle.page_store.specs.Rooms.{unit_of}
use Rattle.page_store.specs.Store.{desc_at}
use Rattle.page_store.proofs.BlockRoomLemmas.{base_some, block_there, low_unit}
use Rattle.page_store.proofs.blocks.Blocks.base.Goals as goal
use Rattle.page_store.proofs.blocks.Blocks.base.Goals.{Else-eq}

abbrev own : Else-eq → Desc
own c = desc_at c.args.self.now.descriptors c.args.page

unit_is : (c : Else-eq) → c.held-held.result.unit ≡ unit_of (own c)
unit_is c = ap (λ (h : Held). h.unit) c.held-held.ensures

not_zero : (c : Else-eq) → shape_of (own c) ≢ Zero
not_zero c is =
    let some : c.held-held.result.shape ≢ Zero = search rules in
    some (ap (λ (h : Held). h.shape) c.held-held.ensures ∙ is)

low : (c : Else-eq) → 512 * c.held-held.result.unit < 268435456
low c =
    let sound : AreSound c.args.self.now.descriptors c.args.self.now.used = rw (← c.self.view_is) c.self.invariant in
    let few : length c.args.self.now.used ≤ 65536 = rw (← c.self.view_is) (omega (arith, c.count-count.ensures)) in
    omega (arith, unit_is c, low_unit c.args.self.now.descriptors c.args.self.now.used c.args.page sound c.requires few (not_zero c))

pub overflow_mul-result : goal.overflow_mul-result
overflow_mul-result c' = let c = (goal.at.overflow_mul-result c').Else-eq in omega (arith, low c)

pub returns-clause-base : goal.returns-clause-base
returns-clause-base c' =
    let c = (goal.at.returns-clause-base c').Else-eq in
    let there : base_at c.args.self.now.descriptors c.args.page ≡ Some (512 * unit_of (own c)) =
    ap (option_map (λ (block : Place). 512 * block.unit)) (block_there c.args.self.now.descriptors c.args.page c.requires) ∙ base_some (own c) (not_zero c) in
    ap (λ (u : ℕ). Some (512 * u)) (unit_is c) ∙ sym there

pub returns-clause-most : goal.returns-clause-most
returns-clause-most c' = low (goal.at.returns-clause-most c').Else-eq
