use Rattle.std.proofs.Common.{ap, ◌∙◌, ◌++◌, ◌∷◌, []}
use Rattle.local_parts.proofs.NewCpus.{row_more, new_row_empty}
use Rattle.local_parts.proofs.cpu_caches.ArenaCaches.fill.Goals as goal

pub returns-in_err-reserve-clause-empty : goal.returns-in_err-reserve-clause-empty
returns-in_err-reserve-clause-empty g c = new_row_empty c.args.size _ c.reserve.new.self.items (c.reserve.ensures.items ∙ c.loop-cache.invariant)

pub returns-in_err-own-clause-empty : goal.returns-in_err-own-clause-empty
returns-in_err-own-clause-empty g c = new_row_empty c.args.size _ c.reserve.new.self.items (c.reserve.ensures.items ∙ c.loop-cache.invariant)

pub loop-cache-preserved : goal.loop-cache-preserved
loop-cache-preserved g c =
    c.push_reserved.ensures.items ∙ ap (λ x. c.reserve.new.self.items ++ x ∷ []) c.in_ok-own.ensures ∙ row_more c.args.size c.args.arena c.args.quantum c.loop-cache.cache c.reserve.new.self.items (c.reserve.ensures.items ∙ c.loop-cache.invariant)

pub returns-clause-empty : goal.returns-clause-empty
returns-clause-empty g c = new_row_empty c.args.size _ _ c.loop-cache.invariant
