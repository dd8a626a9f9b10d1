use Rattle.vmemd.proofs.attending.pass_over.Given as goal

-- nothing is said of what was read
abbrev pub invariant-loop : goal.invariant-loop
invariant-loop g l = Unit {0}
