use Rattle.std.proofs.Common.{arith, ◌∙◌}
use Rattle.slab_layer.proofs.slab_lists.SlabList.reserve.Goals as goal

pub invariant_of-self-2 : goal.invariant_of-self-2
invariant_of-self-2 g c =
    let kept = c.self.invariant.listed in
    let more = c.reserve-2.ensures in
    rw c.in_ok-reserve.ensures.items (record {
      listed = record {
        ascending = kept.ascending;
        some = kept.some;
        partial = more.partial ∙ kept.partial;
        complete = more.complete ∙ kept.complete;
        room = omega (arith, kept.room, more.kept);
      };
      whole = c.self.invariant.whole;
      ends = c.self.invariant.ends;
      summed = c.self.invariant.summed;
    })
