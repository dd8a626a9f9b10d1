use Rattle.std.proofs.lemmas.List.Sorted.{IsPermutation-trans}
use Rattle.lease_threads.proofs.Gathered.{more_roots}
use Rattle.lease_threads.proofs.gathering.gather_roots.Goals as goal

pub returns-in-Ok-tell-clause-roots : goal.returns-in-Ok-tell-clause-roots
returns-in-Ok-tell-clause-roots g c = more_roots c.args.id _ _ _ c.hand_over.ensures.more (IsPermutation-trans _ _ _ c.sort_unstable_by_key.ensures.permutation c.put_in_turn.ensures.same)
