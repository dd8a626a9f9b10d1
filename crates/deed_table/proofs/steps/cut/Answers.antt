use Rattle.std.proofs.Common.{rules, subst, ℕ}
use Rattle.deed_table.specs.Piece.{CutsFirst}
use Rattle.deed_table.proofs.Keeps.{keeps_split, even_cut}
use Rattle.deed_table.proofs.steps.cut.Goals as goal

pub split_seat-requires : goal.split_seat-requires
split_seat-requires g c =
    let v = c.args.seat.now.me.0 in
    let inside : CutsFirst g.C.Chosen.number v.ranges = subst (λ (n : ℕ). CutsFirst n v.ranges) c.requires.at c.requires.inside in (
      c.requires.seat.0,
      search rules,
      λ s k at. keeps_split s.views _ v _ _ k at (even_cut g.C.Chosen.number v inside),
    )
