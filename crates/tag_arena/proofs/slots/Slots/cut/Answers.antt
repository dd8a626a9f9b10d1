use Rattle.std.proofs.Common.{◌≡◌, Some, None, slice_set, ap, ◌∙◌, sym, subst, refl, arith}
use Rattle.std.specs.Vec.{with_item}
use Rattle.deed_core.specs.Holding.{Holding}
use Rattle.tag_arena.specs.Cuts.{IsCut}
use Rattle.tag_arena.specs.FreeTags.{SlotBecomes, tag_at}
use Rattle.tag_arena.specs.Slotted.{slot_units, taken_count}
use Rattle.tag_arena.proofs.Lying.{none_taken}
use Rattle.tag_arena.proofs.Slotting.{counted_same, counted_set, emptied, one_counted, one_taken, room_beside, slot_set, slot_within, set_back, slotted_same, tag_is, taken_is}
use Rattle.tag_arena.proofs.slots.Slots.cut.Goals as goal

pub overflow_sub-self : goal.overflow_sub-self
overflow_sub-self g c =
    let s = c.self.inside in
    let here = ap (λ v. tag_at v.tags c.args.at) c.self.view_is ∙ c.requires.here in
    let units = c.len.ensures.value ∙ ap (λ (h : Holding). h.range.len) c.range.ensures.value in
    omega (arith, units, one_counted s.slots.items c.args.at s.units c.args.tag c.self.invariant.counted here)

pub invariant_of-self : goal.invariant_of-self
invariant_of-self g c =
    let s = c.self.inside in
    let here = ap (λ v. tag_at v.tags c.args.at) c.self.view_is ∙ c.requires.here in
    let is = ap (λ o. slice_set s.slots.items c.args.at o) c.take.ensures.after in
    let units = c.len.ensures.value ∙ ap (λ (h : Holding). h.range.len) c.range.ensures.value in
    let fits = one_counted s.slots.items c.args.at s.units c.args.tag c.self.invariant.counted here in
    record {
      slotted = emptied s.slots _ s.vacant c.push_reserved.new.self s.room c.args.at c.args.tag c.self.invariant.slotted here is c.push_reserved.ensures.items c.push_reserved.ensures.len c.push_reserved.ensures.capacity refl;
      counted = counted_set s.slots.items _ c.args.at s.units _ c.self.invariant.counted None (slot_within s.slots.items c.args.at c.args.tag here) (omega arith) is (omega (arith, units, fits, ap slot_units here));
    }

pub invariant_of-self-in-Err : goal.invariant_of-self-in-Err
invariant_of-self-in-Err g c =
    let s = c.self.inside in
    let here = ap (λ v. tag_at v.tags c.args.at) c.self.view_is ∙ c.requires.here in
    let timed = taken_is s.slots.items c.args.at c.args.tag c.in-Some.timed c.take.result c.index_mut.result.now here c.in-Some.is c.take.ensures.value c.index_mut.ensures.value in
    let same : c.in-Err.same ≡ c.args.tag.range = c.in-Err.ensures.handed_back ∙ (c.into_deed.ensures ∙ ap (λ u. u.range) timed) in
    let put = tag_is c.new-timed.result c.args.tag c.in-Err.same c.since.result c.power.result c.new-timed.ensures same c.since.ensures c.power.ensures in
    let back = set_back s.slots.items c.args.at c.take.new.self c.replace.new.self (c.replace.ensures.after ∙ (ap (λ u. Some u) put ∙ sym here)) in
    record {
      slotted = slotted_same s.slots _ s.vacant s.room c.self.invariant.slotted back refl;
      counted = counted_same s.slots.items _ c.args.at s.units s.units c.self.invariant.counted back refl;
    }

pub returns-in-Ok-clause-cut : goal.returns-in-Ok-clause-cut
returns-in-Ok-clause-cut g c =
    let s = c.self.inside in
    let here = ap (λ v. tag_at v.tags c.args.at) c.self.view_is ∙ c.requires.here in
    let timed = taken_is s.slots.items c.args.at c.args.tag c.in-Some.timed c.take.result c.index_mut.result.now here c.in-Some.is c.take.ensures.value c.index_mut.ensures.value in
    let cut = c.in-Ok.cut in
    subst (λ (h : Holding). IsCut h c.args.base c.args.end cut.low cut.piece cut.high) (c.into_deed.ensures ∙ ap (λ u. u.range) timed) c.in-Ok.ensures.cut

pub returns-in-Ok-clause-becomes : goal.returns-in-Ok-clause-becomes
returns-in-Ok-clause-becomes g c =
    let s = c.self.inside in
    let here = ap (λ v. tag_at v.tags c.args.at) c.self.view_is ∙ c.requires.here in
    rw c.take.ensures.after (subst (λ l. SlotBecomes l (slice_set s.slots.items c.args.at None) c.args.at None) (ap (λ v. v.tags) c.self.view_is) (slot_set s.slots.items c.args.at None (slot_within s.slots.items c.args.at c.args.tag here)))

pub returns-in-Ok-clause-taken : goal.returns-in-Ok-clause-taken
returns-in-Ok-clause-taken g c =
    let s = c.self.inside in
    let here = ap (λ v. tag_at v.tags c.args.at) c.self.view_is ∙ c.requires.here in
    let one = one_taken s.slots (with_item s.slots c.args.at c.take.new.self) s.vacant c.push_reserved.new.self s.room c.args.at c.args.tag c.self.invariant.slotted here (ap (λ o. slice_set s.slots.items c.args.at o) c.take.ensures.after) c.push_reserved.ensures.items in
    let same = ap (λ v. taken_count v.tags) c.self.view_is in
    omega (arith, one, same)

pub returns-in-None-clause-unchanged : goal.returns-in-None-clause-unchanged
returns-in-None-clause-unchanged g c =
    let s = c.self.inside in
    let here = ap (λ v. tag_at v.tags c.args.at) c.self.view_is ∙ c.requires.here in
    let timed = taken_is s.slots.items c.args.at c.args.tag c.in-Some.timed c.take.result c.index_mut.result.now here c.in-Some.is c.take.ensures.value c.index_mut.ensures.value in
    let same : c.in-Err.same ≡ c.args.tag.range = c.in-Err.ensures.handed_back ∙ (c.into_deed.ensures ∙ ap (λ u. u.range) timed) in
    let put = tag_is c.new-timed.result c.args.tag c.in-Err.same c.since.result c.power.result c.new-timed.ensures same c.since.ensures c.power.ensures in
    let back = set_back s.slots.items c.args.at c.take.new.self c.replace.new.self (c.replace.ensures.after ∙ (ap (λ u. Some u) put ∙ sym here)) in
    back ∙ ap (λ v. v.tags) c.self.view_is

pub unreachable-requires-in-Some-replace : goal.unreachable-requires-in-Some-replace
unreachable-requires-in-Some-replace g c =
    let s = c.self.inside in
    let here = ap (λ v. tag_at v.tags c.args.at) c.self.view_is ∙ c.requires.here in
    none_taken s.slots.items c.args.at c.args.tag c.in-Some-replace.field-0 c.take.new.self c.replace.result c.index_mut-in-Err.result.now here c.take.ensures.after c.in-Some-replace.is c.replace.ensures.value c.index_mut-in-Err.ensures.value

pub push_reserved-requires : goal.push_reserved-requires
push_reserved-requires g c =
    let s = c.self.inside in
    let here = ap (λ v. tag_at v.tags c.args.at) c.self.view_is ∙ c.requires.here in
    room_beside s.slots s.vacant s.room c.args.at c.args.tag c.self.invariant.slotted here
