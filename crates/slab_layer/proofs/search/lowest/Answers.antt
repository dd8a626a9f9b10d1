use Rattle.std.proofs.Common.{sym, ◌∙◌}
use Rattle.slab_layer.proofs.SearchLemmas.{cut_at, none_listed}
use Rattle.slab_layer.proofs.search.lowest.Goals as goal

pub returns-in_err-base : goal.returns-in_err-base
returns-in_err-base g c = λ test is. rw c.from_residual.ensures (none_listed test c.args.slabs.now.items (sym is ∙ c.in_err-base.ensures))

pub returns : goal.returns
returns g c = λ test is.
    let first = c.in_ok-base.ensures in
    cut_at test c.in_ok-base.base c.index_for.result first.0 c.args.slabs.now.items c.requires.ascending c.requires.some (sym is ∙ first.1) (record { within = c.index_for.ensures.within; below = c.index_for.ensures.below; above = c.index_for.ensures.above })
