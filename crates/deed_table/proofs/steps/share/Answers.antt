use Rattle.std.proofs.Common.{rules, subst, ℕ, ◌≤◌}
use Rattle.deed_table.proofs.Keeps.{keeps_split, even_share}
use Rattle.deed_table.proofs.steps.share.Goals as goal

pub split_seat-requires : goal.split_seat-requires
split_seat-requires g c =
    let v = c.args.seat.now.me.0 in
    let left : g.C.Chosen.number ≤ v.left = subst (λ (n : ℕ). n ≤ v.left) c.requires.number c.requires.left in (
      c.requires.seat.0,
      search rules,
      λ s k at. keeps_split s.views _ v _ _ k at (even_share g.C.Chosen.number v left),
    )
