use Rattle.std.proofs.Common.{subst, sym, ◌∙◌}
use Rattle.std.proofs.lemmas.List.{get_or_default}
use Rattle.plain_arena.specs.Found.{LowestSoFar}
use Rattle.plain_arena.proofs.Scans.{lowest_alone}
use Rattle.plain_arena.proofs.whole_spans.lower.Goals as goal

pub returns-in_default : goal.returns-in_default
returns-in_default g c =
    lowest_alone c.args.owned.now c.args.free.now c.args.at c.index-owned-at.result (λ d. get_or_default c.args.owned.now c.args.at d c.index-owned-at.result c.requires.at ∙ sym c.index-owned-at.is) c.whole_at.result c.whole_at.ensures
    (subst (LowestSoFar c.args.owned.now c.args.free.now c.args.at) c.in_default.is c.requires.lowest)
