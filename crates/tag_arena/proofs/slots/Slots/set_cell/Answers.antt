use Rattle.std.proofs.Common.{◌<◌, length, Some, ap, ◌∙◌, sym, subst, refl, arith}
use Rattle.tag_arena.specs.Slotted.{AreSlots}
use Rattle.tag_arena.proofs.Lying.{same_slot}
use Rattle.tag_arena.proofs.Slotting.{counted_same, slotted_same}
use Rattle.tag_arena.proofs.slots.Slots.set_cell.Goals as goal
use Rattle.tag_arena.proofs.slots.Slots.set_cell.Goals.{in-Some, in_default}

pub invariant_of-self : goal.invariant_of-self
invariant_of-self g c =
    let s = c.self.inside in
    let lt : c.args.slot < length s.slots.items = omega (arith, c.if-slot-len.false, c.len.ensures) in
    elim c.match-index_mut.branch [
      | in-Some w ↦
          let same = same_slot s.slots.items c.args.slot _ c.index_mut.result.now lt (ap (λ u. Some u) w.timed.view_is ∙ sym w.in-Some.is) c.index_mut.ensures.value in
          subst (λ x. AreSlots x.slots x.vacant x.room x.units) (sym w.self-inside-is) (record { slotted = slotted_same s.slots _ s.vacant s.room c.self.invariant.slotted same refl; counted = counted_same s.slots.items _ c.args.slot s.units s.units c.self.invariant.counted same refl })
      | in_default w ↦
          let same = same_slot s.slots.items c.args.slot c.index_mut.result.now c.index_mut.result.now lt refl c.index_mut.ensures.value in
          subst (λ x. AreSlots x.slots x.vacant x.room x.units) (sym w.self-inside-is) (record { slotted = slotted_same s.slots _ s.vacant s.room c.self.invariant.slotted same refl; counted = counted_same s.slots.items _ c.args.slot s.units s.units c.self.invariant.counted same refl })
    ]
