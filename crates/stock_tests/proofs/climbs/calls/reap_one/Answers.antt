use Rattle.std.proofs.Common.{sym}
use Rattle.stock_tests.proofs.ClimbNames.{ran_leaves}
use Rattle.stock_tests.proofs.climbs.calls.reap_one.Goals as goal

pub shape_of-walk : goal.shape_of-walk
shape_of-walk g c = sym (ran_leaves _ _ _ _ (λ s. s.cpu.ghost_name) (λ s e x t d. d.2) _ _ _ _ c.reap_arena-answer.ensures.ran)

pub shape_of-walk-2 : goal.shape_of-walk-2
shape_of-walk-2 g c = sym (ran_leaves _ _ _ _ (λ s. s.stock.ghost_name) (λ s e x t d. d.1) _ _ _ _ c.reap_arena-answer.ensures.ran)
