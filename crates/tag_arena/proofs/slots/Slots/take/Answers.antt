use Rattle.std.proofs.Common.{None, slice_set, ap, ◌∙◌, subst, refl, arith}
use Rattle.tag_arena.specs.FreeTags.{FreeTag, SlotBecomes, tag_at}
use Rattle.tag_arena.specs.Slotted.{slot_units}
use Rattle.tag_arena.proofs.Slotting.{counted_set, emptied, one_counted, slot_set, slot_within, taken_is}
use Rattle.tag_arena.proofs.slots.Slots.take.Goals as goal

pub overflow_sub-self : goal.overflow_sub-self
overflow_sub-self g c =
    let s = c.self.inside in
    let here = ap (λ v. tag_at v.tags c.args.slot) c.self.view_is ∙ c.requires.1 in
    let deed = taken_is s.slots.items c.args.slot c.requires.0 c.in-Some.deed c.take.result c.index_mut.result.now here c.in-Some.is c.take.ensures.value c.index_mut.ensures.value in
    let units = c.len.ensures.value ∙ ap (λ (t : FreeTag). t.range.range.len) deed in
    omega (arith, units, one_counted s.slots.items c.args.slot s.units c.requires.0 c.self.invariant.counted here)

pub invariant_of-self : goal.invariant_of-self
invariant_of-self g c =
    let s = c.self.inside in
    let here = ap (λ v. tag_at v.tags c.args.slot) c.self.view_is ∙ c.requires.1 in
    let is = ap (λ o. slice_set s.slots.items c.args.slot o) c.take.ensures.after in
    let deed = taken_is s.slots.items c.args.slot c.requires.0 c.in-Some.deed c.take.result c.index_mut.result.now here c.in-Some.is c.take.ensures.value c.index_mut.ensures.value in
    let units = c.len.ensures.value ∙ ap (λ (t : FreeTag). t.range.range.len) deed in
    let fits = one_counted s.slots.items c.args.slot s.units c.requires.0 c.self.invariant.counted here in
    record {
      slotted = emptied s.slots _ s.vacant c.push_reserved.new.self s.room c.args.slot c.requires.0 c.self.invariant.slotted here is c.push_reserved.ensures.items c.push_reserved.ensures.len c.push_reserved.ensures.capacity refl;
      counted = counted_set s.slots.items _ c.args.slot s.units _ c.self.invariant.counted None (slot_within s.slots.items c.args.slot c.requires.0 here) (omega arith) is (omega (arith, units, fits, ap slot_units here));
    }

pub returns-clause-becomes : goal.returns-clause-becomes
returns-clause-becomes g c =
    let s = c.self.inside in
    let here = ap (λ v. tag_at v.tags c.args.slot) c.self.view_is ∙ c.requires.1 in
    rw c.take.ensures.after (subst (λ l. SlotBecomes l (slice_set s.slots.items c.args.slot None) c.args.slot None) (ap (λ v. v.tags) c.self.view_is) (slot_set s.slots.items c.args.slot None (slot_within s.slots.items c.args.slot c.requires.0 here)))
