use Rattle.std.proofs.Common.{◌<◌, length, arith, ap, ◌∙◌}
use Rattle.magazine_layer.proofs.ListLemmas.{next_of}
use Rattle.magazine_layer.proofs.lists.discard_oldest.Goals as goal

pub discard_empty-requires : goal.discard_empty-requires
discard_empty-requires g c =
    let within : c.loop-done.done < length c.args.empty.now.items = omega (arith, c.args.empty.now.ok.0) in
    let next = next_of c.args.empty.now.items c.loop-done.empty.items c.take_first.new.items.items c.take_first.result c.loop-done.done within c.loop-done.invariant.0 c.take_first.ensures.items in
    ap (λ m. m.rounds) next.0 ∙ c.requires.none c.loop-done.done c.take_first.result within

pub loop-done-preserved : goal.loop-done-preserved
loop-done-preserved g c =
    let within : c.loop-done.done < length c.args.empty.now.items = omega (arith, c.args.empty.now.ok.0) in
    let next = next_of c.args.empty.now.items c.loop-done.empty.items c.take_first.new.items.items c.take_first.result c.loop-done.done within c.loop-done.invariant.0 c.take_first.ensures.items in
    (next.1, omega (arith, c.loop-done.invariant.1), c.take_first.ensures.capacity ∙ c.loop-done.invariant.2)
