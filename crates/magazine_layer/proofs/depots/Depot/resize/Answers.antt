use Rattle.std.proofs.Common.{◌≡◌, ◌*◌, length, deque_len, sum_by, arith, ap, sym, ◌∙◌, refl}
use Rattle.magazine_layer.proofs.OldCounting.{old_added, old_few, full_few}
use Rattle.magazine_layer.specs.Depots.{depot_rounds}
use Rattle.magazine_layer.proofs.Belonging.{among_itself, moved_are_among}
use Rattle.magazine_layer.proofs.Weighing.{resize_weigh}
use Rattle.magazine_layer.proofs.ListLemmas.{room_resize, stocked_resize}
use Rattle.magazine_layer.proofs.depots.Depot.resize.Goals as goal

pub invariant_of-self : goal.invariant_of-self
invariant_of-self g c =
    let none : deque_len c.discard_oldest.new.empty ≡ 0 = omega arith in (
      rw (c.in-Ok.ensures.items, c.in-Ok.ensures.other_items, none) (stocked_resize _ c.args.size c.requires c.self.invariant.0),
      (λ k d below. absurd (omega (arith, c.discard_oldest.new.empty.ok.0))),
      room_resize _ _ _ _ _ _ _ _ _ _ _ _ c.self.invariant.2 c.in-Ok.ensures.other_len none c.in-Ok.ensures.len c.in-Ok.ensures.other_capacity c.discard_oldest.ensures.capacity c.in-Ok.ensures.capacity,
      (let len : c.len.result ≡ length c.self.inside.full.items = omega (arith, c.self.inside.full.ok.0) in rw (c.in-Ok.ensures.items, len) (old_added c.self.inside.old_full.items c.self.inside.full.items c.self.inside.size c.self.inside.old_rounds c.self.invariant.0.sized c.self.invariant.0.whole c.self.invariant.3)),
    )

pub overflow_add-self : goal.overflow_add-self
overflow_add-self g c =
    let len : c.len.result ≡ length c.self.inside.full.items = omega (arith, c.self.inside.full.ok.0) in
    let full = ap (λ n. n * c.self.inside.size) len in
    omega (arith, full, c.self.inside.full.ok.0, c.self.inside.old_full.ok.0, old_few c.self.inside.old_full.items c.self.inside.old_rounds c.self.invariant.3, full_few c.self.inside.size c.self.inside.full.items c.self.invariant.0.sized c.self.invariant.0.whole)

pub returns-clause-of : goal.returns-clause-of
returns-clause-of g c =
    let none : deque_len c.discard_oldest.new.empty ≡ 0 = omega arith in
    rw (← c.self.view_is, c.in-Ok.ensures.items, c.in-Ok.ensures.other_items, none) (omega arith, refl)

pub returns-clause-weights : goal.returns-clause-weights
returns-clause-weights g c f = resize_weigh c.args.size c.args.self.now f ∙ ap (λ d. sum_by f (depot_rounds d)) (sym (returns-clause-of g c).1)

pub returns-clause-kinds : goal.returns-clause-kinds
returns-clause-kinds g c = moved_are_among _ _ (returns-clause-weights g c)

pub returns-then-size-self-clause-kinds : goal.returns-then-size-self-clause-kinds
returns-then-size-self-clause-kinds g c = among_itself _

pub returns-clause-sound : goal.returns-clause-sound
returns-clause-sound g c = (invariant_of-self g c).0
