use Rattle.std.proofs.Common.{rules, deque_len}
use Rattle.magazine_layer.proofs.Belonging.{none_reaped_among, taken_are_among}
use Rattle.magazine_layer.proofs.Weighing.{reaps_weigh}
use Rattle.magazine_layer.proofs.depots.Depot.reap.Goals as goal

pub returns-then-not-begin-clause-kinds : goal.returns-then-not-begin-clause-kinds
returns-then-not-begin-clause-kinds g c = none_reaped_among c.args.self.now c.begin.new.self (search rules)

pub returns-clause-weights : goal.returns-clause-weights
returns-clause-weights g c = reaps_weigh c.in-Some.segment c.args.self.now
    (record {
      size = c.self.inside.size;
      full = c.self.inside.full.items;
      full_reapable = c.self.inside.full_reapable;
      empty = deque_len c.self.inside.empty;
      empty_reapable = c.self.inside.empty_reapable;
      old_full = c.self.inside.old_full.items;
      draining = c.pop.new.self.items;
    }) (search rules)

pub returns-clause-kinds : goal.returns-clause-kinds
returns-clause-kinds g c = taken_are_among _ _ c.in-Some.segment (returns-clause-weights g c)
