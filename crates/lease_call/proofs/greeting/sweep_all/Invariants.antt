use Rattle.std.proofs.Common.{◌≡◌}
use Rattle.lease_call.specs.CallPlans.{CallRan}
use Rattle.lease_call.specs.Greeting.{HelloEnd, sweep_plan}
use Rattle.lease_call.proofs.greeting.sweep_all.Given as goal

-- what the rest does, the whole does
abbrev pub invariant-sweeps : goal.invariant-sweeps
invariant-sweeps g l =
    ((c : g.row.B.Denot) (t : g.row.P.Denot) (a : HelloEnd g.row.D.Denot) → CallRan g.P.Parts.step g.P.Parts.tree g.P.Parts.count g.P.Parts.rounds g.B.Books.step (sweep_plan l.tree l.taken l.left) l.book l.parts c t a
    → CallRan g.P.Parts.step g.P.Parts.tree g.P.Parts.count g.P.Parts.rounds g.B.Books.step (sweep_plan l.tree l.taken l.fn.turns) l.fn.book l.fn.parts c t a)
    × (g.P.Parts.tree l.parts ≡ g.P.Parts.tree l.fn.parts)

abbrev pub decreases-sweeps : goal.decreases-sweeps
decreases-sweeps g l = l.left
