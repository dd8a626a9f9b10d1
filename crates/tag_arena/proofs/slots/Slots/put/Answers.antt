use Rattle.std.proofs.Common.{◌-◌, ◌<◌, Some, slice_set, ap, sym, subst, refl, arith}
use Rattle.tag_arena.specs.FreeTags.{SlotBecomes}
use Rattle.tag_arena.specs.Slotted.{slot_units, taken_count}
use Rattle.tag_arena.proofs.Slotting.{counted_push, counted_set, filled, grown, one_of, room_counted, slot_pushed, slot_set, taken_set, vacant_last}
use Rattle.tag_arena.proofs.slots.Slots.put.Goals as goal

pub overflow_add-self : goal.overflow_add-self
overflow_add-self g c =
    let s = c.self.inside in
    omega (arith, room_counted s.slots.items s.units c.self.invariant.counted (omega (arith, c.len.ensures, c.len.type_inv)), c.len-2.ensures.small)

pub invariant_of-self : goal.invariant_of-self
invariant_of-self g c =
    let s = c.self.inside in
    let after = c.replace.ensures.after in
    let is = ap (λ o. slice_set s.slots.items c.in-Some.slot o) after in
    let last = vacant_last s.slots s.vacant c.pop.new.self s.room c.in-Some.slot c.args.deed c.self.invariant.slotted c.in-Some.ensures.items in
    record {
      slotted = filled s.slots s.vacant c.pop.new.self s.room c.in-Some.slot c.args.deed c.self.invariant.slotted c.in-Some.ensures.items (omega (arith, c.in-Some.ensures.len)) (sym c.in-Some.ensures.capacity) _ is refl;
      counted = counted_set s.slots.items _ c.in-Some.slot s.units _ c.self.invariant.counted (Some c.args.deed) last.0 (omega (arith, c.len-2.ensures)) is (omega (arith, c.len-2.ensures.value, ap slot_units last.1));
    }

pub invariant_of-self-in-None : goal.invariant_of-self-in-None
invariant_of-self-in-None g c =
    let s = c.self.inside in
    let none = c.in-None.ensures.cases in
    let more = subst (λ v. taken_count v.tags < v.room) (sym c.self.view_is) c.requires in
    record {
      slotted = grown s.slots _ s.vacant c.pop.new.self s.room c.args.deed c.self.invariant.slotted none.0 none.1 c.in-None.ensures.capacity more c.push_reserved.ensures.items c.push_reserved.ensures.len c.push_reserved.ensures.capacity;
      counted = counted_push s.slots.items _ 0 s.units _ c.self.invariant.counted (Some c.args.deed) (omega (arith, c.len-2.ensures)) c.push_reserved.ensures.items (omega (arith, c.len-2.ensures.value));
    }

pub returns-in-None-clause-becomes : goal.returns-in-None-clause-becomes
returns-in-None-clause-becomes g c =
    let s = c.self.inside in
    let becomes = slot_pushed s.slots.items (Some c.args.deed) (c.len-in-None.result - 1) (omega (arith, c.len-in-None.ensures, c.push_reserved.ensures.len)) in
    subst (λ l. SlotBecomes l c.push_reserved.new.self.items (c.len-in-None.result - 1) (Some c.args.deed)) (ap (λ v. v.tags) c.self.view_is) (subst (λ l. SlotBecomes s.slots.items l (c.len-in-None.result - 1) (Some c.args.deed)) (sym c.push_reserved.ensures.items) becomes)

pub returns-in-None-replace-clause-within : goal.returns-in-None-replace-clause-within
returns-in-None-replace-clause-within g c =
    let s = c.self.inside in
    let last = vacant_last s.slots s.vacant c.pop.new.self s.room c.in-Some.slot c.args.deed c.self.invariant.slotted c.in-Some.ensures.items in
    omega (arith, last.0, c.self.invariant.slotted.within)

pub returns-in-None-replace-clause-becomes : goal.returns-in-None-replace-clause-becomes
returns-in-None-replace-clause-becomes g c =
    let s = c.self.inside in
    let last = vacant_last s.slots s.vacant c.pop.new.self s.room c.in-Some.slot c.args.deed c.self.invariant.slotted c.in-Some.ensures.items in
    let after = c.replace.ensures.after in
    rw after (subst (λ l. SlotBecomes l (slice_set s.slots.items c.in-Some.slot (Some c.args.deed)) c.in-Some.slot (Some c.args.deed)) (ap (λ v. v.tags) c.self.view_is) (slot_set s.slots.items c.in-Some.slot (Some c.args.deed) last.0))

pub returns-in-None-replace-clause-taken : goal.returns-in-None-replace-clause-taken
returns-in-None-replace-clause-taken g c =
    let s = c.self.inside in
    let last = vacant_last s.slots s.vacant c.pop.new.self s.room c.in-Some.slot c.args.deed c.self.invariant.slotted c.in-Some.ensures.items in
    let count = taken_set s.slots.items c.in-Some.slot c.replace.new.self last.0 in
    let was = ap one_of last.1 in
    let now = ap one_of c.replace.ensures.after in
    let same = ap (λ v. taken_count v.tags) c.self.view_is in
    omega (arith, count, was, now, same)
