use Rattle.std.proofs.Common.{sym, subst, ap, ◌∙◌, [], ◌∷◌, map, arith}
use Rattle.std.specs.Prelude.{Some, None, sum_by}
use Rattle.std.proofs.lemmas.List.{length-map, map-append}
use Rattle.std.proofs.lemmas.List.Sums.{sum_by_push}
use Rattle.deed_core.proofs.LawProofs.{slice_get_one}
use Rattle.tag_arena.specs.Outcomes.{RemoveOf}
use Rattle.stock.specs.Spaces.{with_arena}
use Rattle.stock.specs.Endings.{IsTakenOut}
use Rattle.stock.specs.Owning.{weight_owned}
use Rattle.stock.proofs.Owning.{others_stay, there_now, stay_reaped, owns_less, each_one, same_there}
use Rattle.stock.proofs.stocks.Stock.take_out.Goals as goal

pub push_reserved-requires : goal.push_reserved-requires
push_reserved-requires g c =
    let h = g.D.Deed.holding c.in-Some.deed in
    let less = owns_less c.loop-deed.self c.remove_owned.new.self c.args.arena (λ a b. RemoveOf a (Some h) b) c.in-Some.ensures.removed h c.in-Some.ensures.loses (λ x. 1) in
    let olds = each_one (map g.D.Deed.holding c.args.deeds.now.items) in
    let nows = each_one (map g.D.Deed.holding c.loop-deed.deeds.items) in
    omega (arith, less, olds, nows, c.loop-deed.invariant.same (λ x. 1), c.loop-deed.invariant.room, c.requires.room, c.loop-deed.deeds.ok.0, c.args.deeds.now.ok.0, length-map c.args.deeds.now.items g.D.Deed.holding, length-map c.loop-deed.deeds.items g.D.Deed.holding)

pub loop-deed-smaller : goal.loop-deed-smaller
loop-deed-smaller g c =
    let h = g.D.Deed.holding c.in-Some.deed in
    let less = owns_less c.loop-deed.self c.remove_owned.new.self c.args.arena (λ a b. RemoveOf a (Some h) b) c.in-Some.ensures.removed h c.in-Some.ensures.loses (λ x. 1) in
    omega (arith, less)

pub loop-deed-preserved : goal.loop-deed-preserved
loop-deed-preserved g c =
    let h = g.D.Deed.holding c.in-Some.deed in
    let i = c.loop-deed.invariant in
    record {
      others = λ k other. others_stay c.loop-deed.self c.remove_owned.new.self c.args.arena (λ a b. RemoveOf a (Some h) b) c.in-Some.ensures.removed k other ∙ i.others k other;
      reaped = λ all. stay_reaped c.loop-deed.self c.remove_owned.new.self c.args.arena (λ a b. RemoveOf a (Some h) b) c.in-Some.ensures.removed (i.reaped all);
      same = λ f.
          let less = owns_less c.loop-deed.self c.remove_owned.new.self c.args.arena (λ a b. RemoveOf a (Some h) b) c.in-Some.ensures.removed h c.in-Some.ensures.loses f in
          let more = ap (λ xs. sum_by f (map g.D.Deed.holding xs)) c.push_reserved.ensures.items ∙ ap (sum_by f) (map-append g.D.Deed.holding c.loop-deed.deeds.items (c.in-Some.deed ∷ [])) in
          omega (arith, less, more, i.same f, sum_by_push f (map g.D.Deed.holding c.loop-deed.deeds.items) h);
      frame = λ rest a. c.in-Some.ensures.frame rest (i.frame rest a);
      fixed = c.in-Some.ensures.fixed ∙ i.fixed;
      room = c.push_reserved.ensures.capacity ∙ i.room;
    }

pub returns-clause-taken : goal.returns-clause-taken
returns-clause-taken g c = λ s at.
    let on = c.in_default.ensures.removed in
    let is = slice_get_one c.remove_owned.new.self c.args.arena (with_arena on.arena on.space) s (there_now c.loop-deed.self c.remove_owned.new.self c.args.arena (λ a b. RemoveOf a None b) on) at in
    let taken : IsTakenOut on.space = on.does.0 in
    subst IsTakenOut is (subst (λ a. IsTakenOut (with_arena a on.space)) (sym on.does.1) taken)

pub returns-clause-others : goal.returns-clause-others
returns-clause-others g c = λ k other. others_stay c.loop-deed.self c.remove_owned.new.self c.args.arena (λ a b. RemoveOf a None b) c.in_default.ensures.removed k other ∙ c.loop-deed.invariant.others k other

pub returns-clause-reaped : goal.returns-clause-reaped
returns-clause-reaped g c = λ all. stay_reaped c.loop-deed.self c.remove_owned.new.self c.args.arena (λ a b. RemoveOf a None b) c.in_default.ensures.removed (c.loop-deed.invariant.reaped all)

pub returns-clause-deeds : goal.returns-clause-deeds
returns-clause-deeds g c f =
    let on = c.in_default.ensures.removed in
    let same = same_there c.loop-deed.self c.remove_owned.new.self c.args.arena on.space on.arena on.at on.after on.does.1 in
    omega (arith, c.loop-deed.invariant.same f, ap (sum_by (weight_owned f)) same)
