use Rattle.std.proofs.Common.{◌∙◌, [], sym, subst, arith}
use Rattle.tag_arena.specs.Outcomes.{RemoveOf}
use Rattle.std.specs.Prelude.{None}
use Rattle.deed_core.proofs.LawProofs.{slice_get_one}
use Rattle.stock.specs.Spaces.{with_arena}
use Rattle.stock.specs.Endings.{IsTakenOut}
use Rattle.stock.proofs.Owning.{others_stay, there_now, stay_reaped, owns_less}
use Rattle.stock.proofs.plain_stocks.close_owned_by.Goals as goal

pub loop-deed-smaller : goal.loop-deed-smaller
loop-deed-smaller c =
    let less = owns_less c.loop-deed.stock c.remove_owned.new.self c.args.arena _ c.in-Some.ensures.removed _ c.in-Some.ensures.loses (λ x. 1) in
    omega (arith, less)

pub loop-deed-preserved : goal.loop-deed-preserved
loop-deed-preserved c = record {
  balanced = c.in-Some.ensures.frame [] c.loop-deed.invariant.balanced;
  reaped = stay_reaped c.loop-deed.stock c.remove_owned.new.self c.args.arena _ c.in-Some.ensures.removed c.loop-deed.invariant.reaped;
  others = λ i ne. others_stay c.loop-deed.stock c.remove_owned.new.self c.args.arena _ c.in-Some.ensures.removed i ne ∙ c.loop-deed.invariant.others i ne;
  fixed = c.in-Some.ensures.fixed ∙ c.loop-deed.invariant.fixed;
}

pub returns-clause-reaped : goal.returns-clause-reaped
returns-clause-reaped c = stay_reaped c.loop-deed.stock c.remove_owned.new.self c.args.arena _ c.in_default.ensures.removed c.loop-deed.invariant.reaped

pub returns-clause-taken : goal.returns-clause-taken
returns-clause-taken c = λ s at.
    let on = c.in_default.ensures.removed in
    let is = slice_get_one c.remove_owned.new.self c.args.arena (with_arena on.arena on.space) s (there_now c.loop-deed.stock c.remove_owned.new.self c.args.arena (λ a b. RemoveOf a None b) on) at in
    let taken : IsTakenOut on.space = on.does.0 in
    subst IsTakenOut is (subst (λ a. IsTakenOut (with_arena a on.space)) (sym on.does.1) taken)

pub returns-clause-others : goal.returns-clause-others
returns-clause-others c i ne = others_stay c.loop-deed.stock c.remove_owned.new.self c.args.arena _ c.in_default.ensures.removed i ne ∙ c.loop-deed.invariant.others i ne
