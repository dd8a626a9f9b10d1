use Rattle.std.proofs.Common.{rules}
use Rattle.std.proofs.lemmas.List.Sorted.{answers_always, IsNonDecreasingBy-from_sort}
use Rattle.lease_threads.specs.Ends.{turn_of}
use Rattle.lease_threads.proofs.closing.put_in_turn.Goals as goal

pub returns-clause-turn : goal.returns-clause-turn
returns-clause-turn g c = IsNonDecreasingBy-from_sort turn_of _ (c.sort_unstable_by_key.ensures.sorted turn_of (answers_always _ _ _ (λ f a r g h. search rules)))
