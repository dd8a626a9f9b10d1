use Rattle.std.proofs.lemmas.List.Elements.{All-pop}
use Rattle.std.proofs.Common.{Some}
use Rattle.stock.specs.Endings.{IsBare}
use Rattle.stock.proofs.endings.discard_spaces.Goals as goal

pub discard-requires : goal.discard-requires
discard-requires g c = (All-pop IsBare c.loop-space.spaces.items c.pop.new.self.items (Some c.in-Some.space) c.in-Some.ensures.items c.loop-space.invariant).1

pub loop-space-preserved : goal.loop-space-preserved
loop-space-preserved g c = (All-pop IsBare c.loop-space.spaces.items c.pop.new.self.items (Some c.in-Some.space) c.in-Some.ensures.items c.loop-space.invariant).0
