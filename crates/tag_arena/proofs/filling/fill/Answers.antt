use Rattle.std.proofs.Common.{◌∙◌, ◌+◌, sym, ap, subst, take, arith}
use Rattle.tag_arena.specs.Orders.{rank_of, entry_of, IsAbsent, Mirrors, PutsEntry}
use Rattle.tag_arena.proofs.Entering.{absent_next, mirrors_next, mirrors_past}
use Rattle.tag_arena.proofs.Mirroring.{all_else}
use Rattle.tag_arena.proofs.filling.fill.Goals as goal
use Rattle.tag_arena.proofs.filling.fill.Goals.{in-Some, in_default}

pub enter-requires-clause-absent : goal.enter-requires-clause-absent
enter-requires-clause-absent g c =
    let i = c.loop-slot.index in
    let absent = absent_next i.order i.items c.args.slots.now.tags c.loop-slot.slot (omega (arith, c.loop-slot-test.true, c.len-slot-end.ensures)) c.loop-slot.invariant.mirrors c.requires.tags.0 c.in-Some.tag c.requires.timed c.requires.tags.1 c.requires.apart (sym c.in-Some.ensures) in
    subst (λ b. IsAbsent b i.items (rank_of (entry_of i.order c.loop-slot.slot c.in-Some.tag))) (sym c.loop-slot.invariant.kept) absent

pub loop-slot-preserved : goal.loop-slot-preserved
loop-slot-preserved g c =
    let i = c.loop-slot.index in
    let x = c.loop-slot.invariant in
    let k = c.loop-slot.slot in
    let tags = c.args.slots.now.tags in
    elim c.match-peek.branch [
      | in-Some w ↦
          let i2 = w.enter.new.self in
          let same = all_else i i2 w.enter.ensures.rest in
          let puts = subst (λ b. PutsEntry b (entry_of i.order k w.in-Some.tag) i.items i2.items) x.kept w.enter.ensures.items in
          let m = mirrors_next i.order i.items tags k (omega (arith, c.loop-slot-test.true, c.len-slot-end.ensures)) x.mirrors w.in-Some.tag i2.items (sym w.in-Some.ensures) w.enter.ensures.rises puts in
          record {
            kept = ap (λ j. j.kept) w.index-is ∙ (same.0 ∙ x.kept);
            order = ap (λ j. j.order) w.index-is ∙ (same.1 ∙ x.order);
            room = ap (λ j. j.room) w.index-is ∙ (same.2 ∙ x.room);
            mirrors = subst (λ j. Mirrors j.order j.items (take (k + 1) tags)) (sym w.index-is) (subst (λ o. Mirrors o i2.items (take (k + 1) tags)) (sym same.1) m);
          }
      | in_default w ↦
          let m = mirrors_past i.order i.items tags k (omega (arith, c.loop-slot-test.true, c.len-slot-end.ensures)) x.mirrors (sym w.in_default.ensures) in
          record {
            kept = ap (λ j. j.kept) w.index-is ∙ x.kept;
            order = ap (λ j. j.order) w.index-is ∙ x.order;
            room = ap (λ j. j.room) w.index-is ∙ x.room;
            mirrors = subst (λ j. Mirrors j.order j.items (take (k + 1) tags)) (sym w.index-is) m;
          }
    ]
