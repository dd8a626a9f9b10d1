use Rattle.std.proofs.Common.{arith}
use Rattle.tag_arena.proofs.Grids.{powers_nest, power_bound, on_quantum, phase_multiple}
use Rattle.plain_arena.proofs.places.grid.Goals as goal

pub returns-then-request-eq0-clause-align : goal.returns-then-request-eq0-clause-align
returns-then-request-eq0-clause-align c = power_bound _ c.requires.quantum (omega arith)

pub returns-else-request-eq0-clause-on_grid : goal.returns-else-request-eq0-clause-on_grid
returns-else-request-eq0-clause-on_grid c = λ base. (
  λ e. record {
    on_quantum = on_quantum base _ _ c.args.quantum e (c.requires.good.align c.if-request-eq0.false).1 (phase_multiple c.args.quantum c.args.request.now c.requires.good.phase);
    on_phase = λ _. e;
  },
  λ grid. grid.on_phase c.if-request-eq0.false,
)

pub returns-else-request-eq0-clause-align : goal.returns-else-request-eq0-clause-align
returns-else-request-eq0-clause-align c = power_bound _ (c.requires.good.align c.if-request-eq0.false).0 (omega arith)

pub returns-else-request-eq0-clause-nest : goal.returns-else-request-eq0-clause-nest
returns-else-request-eq0-clause-nest c = λ some.
    powers_nest _ _ (c.requires.good.align c.if-request-eq0.false).0 (c.requires.good.nocross some).0
