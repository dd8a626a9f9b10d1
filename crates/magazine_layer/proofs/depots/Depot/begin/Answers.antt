use Rattle.std.proofs.Common.{◌≡◌, ◌<◌, length, ap, ◌∙◌, arith}
use Rattle.magazine_layer.proofs.OldCounting.{old_taken}
use Rattle.magazine_layer.proofs.ListLemmas.{room_first, room_old, stocked_old, stocked_first}
use Rattle.magazine_layer.proofs.depots.Depot.begin.Goals as goal

pub invariant_of-self : goal.invariant_of-self
invariant_of-self g c = (
  stocked_old _ c.take_first.result c.take_first.new.items.items c.drain.new.draining.items c.take_first.ensures.items c.self.invariant.0,
  c.self.invariant.1,
  room_old _ _ _ _ _ _ _ _ c.self.invariant.2 c.take_first.ensures.len c.take_first.ensures.capacity,
  (let len : c.len.result ≡ length c.take_first.result = c.len.ensures ∙ (c.drain.new.draining.ok.0 ∙ ap length c.drain.ensures) in rw len (old_taken c.self.inside.old_full.items c.take_first.new.items.items c.take_first.result c.self.inside.old_rounds c.take_first.ensures.items c.self.invariant.3).1),
)

pub overflow_sub-self : goal.overflow_sub-self
overflow_sub-self g c =
    let len : c.len.result ≡ length c.take_first.result = c.len.ensures ∙ (c.drain.new.draining.ok.0 ∙ ap length c.drain.ensures) in
    omega (arith, len, (old_taken c.self.inside.old_full.items c.take_first.new.items.items c.take_first.result c.self.inside.old_rounds c.take_first.ensures.items c.self.invariant.3).0)

pub invariant_of-self-2 : goal.invariant_of-self-2
invariant_of-self-2 g c =
    let some : 0 < c.self.inside.full_reapable = omega (arith, c.if-self-eq0.false) in (
      (stocked_first _ c.take_first-2.result c.take_first-2.new.items.items c.drain-2.new.draining.items c.take_first-2.ensures.items some c.self.invariant.0),
      c.self.invariant.1,
      room_first _ _ _ _ _ _ _ _ c.self.invariant.2 c.take_first-2.ensures.len c.take_first-2.ensures.capacity,
      c.self.invariant.3,
    )

pub returns-then-not-is_empty-2-clause-sound : goal.returns-then-not-is_empty-2-clause-sound
returns-then-not-is_empty-2-clause-sound g c = (invariant_of-self g c).0

pub returns-clause-sound : goal.returns-clause-sound
returns-clause-sound g c = (invariant_of-self-2 g c).0
