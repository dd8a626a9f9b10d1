use Rattle.std.proofs.Common.{sym, subst, ap, ◌∙◌, List, map, reverse, arith}
use Rattle.std.specs.Prelude.{sum_by}
use Rattle.std.proofs.lemmas.List.{length-map, reverse-reverse}
use Rattle.deed_core.specs.Holding.{Holding}
use Rattle.stock.specs.Spaces.{SpaceState}
use Rattle.stock.specs.Setups.{IsSetUpFrom}
use Rattle.stock.proofs.Owning.{each_one, turned}
use Rattle.stock.proofs.stocks.Stock.of.Goals as goal

pub give_back-requires-clause-room : goal.give_back-requires-clause-room
give_back-requires-clause-room g c =
    omega (
      arith,
      c.own_all.ensures.deeds (λ x. 1),
      c.own_all.ensures.room,
      c.reverse.ensures.capacity,
      c.reverse.ensures.len,
      each_one (map g.D.Deed.holding c.reverse.new.self.items),
      each_one (map g.D.Deed.holding c.own_all.new.deeds.items),
      c.reverse.new.self.ok.0,
      c.own_all.new.deeds.ok.0,
      c.args.deeds.ok.1,
      length-map c.reverse.new.self.items g.D.Deed.holding,
      length-map c.own_all.new.deeds.items g.D.Deed.holding,
    )

pub returns-in-Ok-own_all-clause-set_up : goal.returns-in-Ok-own_all-clause-set_up
returns-in-Ok-own_all-clause-set_up g c =
    let back = ap (λ xs. map g.D.Deed.holding (reverse xs)) c.reverse.ensures.items ∙ ap (map g.D.Deed.holding) (reverse-reverse c.args.deeds.items) in
    let made = c.in-Ok-own_all.ensures.set_up c.args.rounds c.in-Ok.ensures.unused in
    subst (λ (xs : List SpaceState). IsSetUpFrom c.args.setup.now (map g.D.Deed.holding c.args.deeds.items) c.args.rounds xs) (sym c.finish.ensures.value)
    (subst (λ (hs : List Holding). IsSetUpFrom c.args.setup.now hs c.args.rounds c.own_all.new.self) back made)

pub returns-in-Err-clause-handed_back : goal.returns-in-Err-clause-handed_back
returns-in-Err-clause-handed_back g c = λ f.
    let first = turned g.D.Deed.holding c.args.deeds.items f in
    let turn = ap (λ xs. sum_by f (map g.D.Deed.holding xs)) c.reverse.ensures.items in
    omega (arith, first, turn, c.own_all.ensures.deeds f, c.give_back.ensures.deeds f)
