use Rattle.std.proofs.Common.{subst}
use Rattle.deed_table.specs.Piece.{CoverOnce}
use Rattle.deed_table.proofs.Covers.{apart_once}
use Rattle.deed_table.proofs.pairs.look_at_both.Goals as goal

pub returns-clause-apart : goal.returns-clause-apart
returns-clause-apart c =
    let once = subst CoverOnce c.requires.both c.look.ensures.once in
    apart_once c.args.root c.args.first.now c.args.second.now c.requires.first c.requires.second once
