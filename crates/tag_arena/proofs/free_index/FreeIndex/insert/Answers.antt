use Rattle.std.proofs.Common.{◌≡◌, ◌+◌, ◌++◌, ◌∷◌, [], Some, All, length, sym, ap, ◌∙◌, subst, arith}
use Rattle.tag_arena.specs.FreeRanges.{keeps_bases, keeps_sizes}
use Rattle.tag_arena.specs.FreeTags.{SlotBecomes, ranges_by_age}
use Rattle.tag_arena.specs.declared.orders.Order.TheVariants.{Rising, Sizes}
use Rattle.deed_core.specs.Holding.{Apart}
use Rattle.tag_arena.proofs.Bordering.{begins_apart}
use Rattle.tag_arena.proofs.Lasting.{all_ranges}
use Rattle.tag_arena.proofs.Mirroring.{all_else, kept_put}
use Rattle.tag_arena.proofs.Indexing.{taken_below, newer, place_in, absent_in, new_tag, indexed_put, lists_so, ranges_put}
use Rattle.tag_arena.proofs.free_index.FreeIndex.insert.Goals as goal

pub put-slot-requires : goal.put-slot-requires
put-slot-requires g c =
    let few = ap (λ v. length v.ranges) c.self.view_is in
    let room = ap (λ v. v.room) c.self.view_is in
    let x = c.self.invariant in
    omega (arith, taken_below c.self.inside.slots.tags c.self.inside.room x.timed (omega (arith, few, room, c.requires.room)), x.slots_room)

pub enter-requires-clause-room : goal.enter-requires-clause-room
enter-requires-clause-room g c =
    let few = ap (λ v. length v.ranges) c.self.view_is in
    let room = ap (λ v. v.room) c.self.view_is in
    let s = c.self.inside in
    place_in (keeps_bases s.policy) Rising s.slots s.room s.rising c.self.invariant.rising c.self.invariant.timed (omega (arith, few, room, c.requires.room))

pub enter-requires-clause-absent : goal.enter-requires-clause-absent
enter-requires-clause-absent g c =
    let s = c.self.inside in
    let x = c.self.invariant in
    let t = c.tag-tag.result in
    let made : t ≡ record { range = c.args.deed; since = s.clock + 1; power = c.ilog2-power.result } = c.tag-tag.ensures ∙ c.new-deed.ensures in
    let held = ap (λ h. h.range.len) c.held_range_of.ensures.value in
    let is = new_tag s.clock c.ilog2-power.result c.len.result c.args.deed t made c.held_range_of.ensures.range (c.len.ensures.value ∙ held) c.ilog2-power.ensures.power_le c.ilog2-power.ensures.next_power_gt c.ilog2-power.ensures.bound in
    let clear = subst (λ h. All (Apart h) (ranges_by_age s.slots.tags)) (sym (ap (λ u. u.range) made)) (subst (All (Apart c.args.deed)) (sym (ap (λ v. v.ranges) c.self.view_is)) c.requires.clear) in
    let absent = begins_apart (ranges_by_age s.slots.tags) t.range is.range (all_ranges s.clock s.slots.tags x.tags) clear in
    absent_in (keeps_bases s.policy) Rising s.slots s.room s.rising x.rising s.clock c.put-slot.result t x.tags is absent

pub enter-requires-2-clause-room : goal.enter-requires-2-clause-room
enter-requires-2-clause-room g c =
    let few = ap (λ v. length v.ranges) c.self.view_is in
    let room = ap (λ v. v.room) c.self.view_is in
    let s = c.self.inside in
    place_in (keeps_sizes s.policy) Sizes s.slots s.room s.sizes c.self.invariant.sizes c.self.invariant.timed (omega (arith, few, room, c.requires.room))

pub enter-requires-2-clause-absent : goal.enter-requires-2-clause-absent
enter-requires-2-clause-absent g c =
    let s = c.self.inside in
    let x = c.self.invariant in
    let t = c.tag-tag.result in
    let made : t ≡ record { range = c.args.deed; since = s.clock + 1; power = c.ilog2-power.result } = c.tag-tag.ensures ∙ c.new-deed.ensures in
    let held = ap (λ h. h.range.len) c.held_range_of.ensures.value in
    let is = new_tag s.clock c.ilog2-power.result c.len.result c.args.deed t made c.held_range_of.ensures.range (c.len.ensures.value ∙ held) c.ilog2-power.ensures.power_le c.ilog2-power.ensures.next_power_gt c.ilog2-power.ensures.bound in
    let clear = subst (λ h. All (Apart h) (ranges_by_age s.slots.tags)) (sym (ap (λ u. u.range) made)) (subst (All (Apart c.args.deed)) (sym (ap (λ v. v.ranges) c.self.view_is)) c.requires.clear) in
    let absent = begins_apart (ranges_by_age s.slots.tags) t.range is.range (all_ranges s.clock s.slots.tags x.tags) clear in
    absent_in (keeps_sizes s.policy) Sizes s.slots s.room s.sizes x.sizes s.clock c.put-slot.result t x.tags is absent

pub enter-requires-3-clause-power : goal.enter-requires-3-clause-power
enter-requires-3-clause-power g c =
    let s = c.self.inside in
    let t = c.tag-tag.result in
    let made : t ≡ record { range = c.args.deed; since = s.clock + 1; power = c.ilog2-power.result } = c.tag-tag.ensures ∙ c.new-deed.ensures in
    let power = ap (λ u. u.power) made in
    omega (arith, power, c.ilog2-power.ensures.bound)

pub enter-requires-3-clause-room : goal.enter-requires-3-clause-room
enter-requires-3-clause-room g c = λ kept. let wide = c.self.invariant.lists_meet.room kept in omega (arith, wide, c.put-slot.ensures.within, c.put-slot.ensures.room)

pub enter-requires-3-clause-linked : goal.enter-requires-3-clause-linked
enter-requires-3-clause-linked g c = λ kept. (c.self.inside.slots.tags, c.self.invariant.lists_meet.linked kept)

pub invariant_of-self : goal.invariant_of-self
invariant_of-self g c =
    let few = ap (λ v. length v.ranges) c.self.view_is in
    let room = ap (λ v. v.room) c.self.view_is in
    let s = c.self.inside in
    let x = c.self.invariant in
    let t = c.tag-tag.result in
    let made : t ≡ record { range = c.args.deed; since = s.clock + 1; power = c.ilog2-power.result } = c.tag-tag.ensures ∙ c.new-deed.ensures in
    let held = ap (λ h. h.range.len) c.held_range_of.ensures.value in
    let is = new_tag s.clock c.ilog2-power.result c.len.result c.args.deed t made c.held_range_of.ensures.range (c.len.ensures.value ∙ held) c.ilog2-power.ensures.power_le c.ilog2-power.ensures.next_power_gt c.ilog2-power.ensures.bound in
    let now = ap (λ u. u.since) made in
    let s2 = c.put-slot.new.self in
    let k = c.put-slot.result in
    let vacant = c.put-slot.ensures.vacant in
    let becomes = subst (λ u. SlotBecomes s.slots.tags s2.tags k (Some u)) (sym c.tag-tag.ensures) c.put-slot.ensures.becomes in
    let later = newer s.clock k s.slots.tags s2.tags t x.tags now in
    let count = c.put-slot.ensures.taken in
    let hr = kept_put (keeps_bases s.policy) Rising s.slots s2 s.room s.rising c.enter.new.self x.rising c.enter.ensures.rest k t vacant becomes count c.enter.ensures.rises c.enter.ensures.items in
    let hz = kept_put (keeps_sizes s.policy) Sizes s.slots s2 s.room s.sizes c.enter-2.new.self x.sizes c.enter-2.ensures.rest k t vacant becomes count c.enter-2.ensures.rises c.enter-2.ensures.items in
    let hl = lists_so s.policy s.slots s2 s.lists c.enter-3.new.self k t x.lists_meet c.enter-3.ensures.is_kept c.enter-3.ensures.room c.put-slot.ensures.room (λ kept linked. c.enter-3.ensures.linked kept s.slots.tags s2.tags linked x.timed vacant later becomes) in
    indexed_put s.policy s.slots s2 s.rising s.sizes s.lists c.enter.new.self c.enter-2.new.self c.enter-3.new.self s.clock s.room k t x vacant becomes count (omega (arith, few, room, c.requires.room)) c.put-slot.ensures.room is now hr (all_else s.rising c.enter.new.self c.enter.ensures.rest).0 hz hl

pub returns-clause-ranges : goal.returns-clause-ranges
returns-clause-ranges g c =
    let s = c.self.inside in
    let x = c.self.invariant in
    let t = c.tag-tag.result in
    let made : t ≡ record { range = c.args.deed; since = s.clock + 1; power = c.ilog2-power.result } = c.tag-tag.ensures ∙ c.new-deed.ensures in
    let held = ap (λ h. h.range.len) c.held_range_of.ensures.value in
    let is = new_tag s.clock c.ilog2-power.result c.len.result c.args.deed t made c.held_range_of.ensures.range (c.len.ensures.value ∙ held) c.ilog2-power.ensures.power_le c.ilog2-power.ensures.next_power_gt c.ilog2-power.ensures.bound in
    let now = ap (λ u. u.since) made in
    let s2 = c.put-slot.new.self in
    let k = c.put-slot.result in
    let becomes = subst (λ u. SlotBecomes s.slots.tags s2.tags k (Some u)) (sym c.tag-tag.ensures) c.put-slot.ensures.becomes in
    let later = newer s.clock k s.slots.tags s2.tags t x.tags now in
    ranges_put s.slots.tags s2.tags k t x.timed c.put-slot.ensures.vacant becomes later ∙ (ap (λ h. ranges_by_age s.slots.tags ++ h ∷ []) (ap (λ u. u.range) made) ∙ ap (λ v. v.ranges ++ c.args.deed ∷ []) c.self.view_is)
