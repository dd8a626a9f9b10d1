use Rattle.std.proofs.Common.{rules, nat_lt}
use Rattle.std.proofs.lemmas.List.Sorted.{answers_always}
use Rattle.lease_threads.proofs.Roots.{in_order}
use Rattle.lease_threads.proofs.telling.are_in_order.Goals as goal

pub returns : goal.returns
returns g c = in_order c.args.roots.now c.is_sorted_by.result (c.is_sorted_by.ensures.cases (λ a b. nat_lt a.root b.root) (answers_always _ _ _ (λ f a r f' called. search rules)))
