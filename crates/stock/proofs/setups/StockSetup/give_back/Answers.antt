use Rattle.std.proofs.Common.{◌≡◌, refl, sym, subst, ap, ◌∙◌, inl, inr, false, true, [], All, map, length, arith}
use Rattle.std.specs.Prelude.{slice_get, IsOk}
use Rattle.std.proofs.lemmas.Bool.{cases_eq}
use Rattle.std.proofs.lemmas.List.{length-map}
use Rattle.std.proofs.lemmas.Option.{slice_get_within}
use Rattle.deed_core.proofs.LawProofs.{all_from}
use Rattle.stock.specs.Accounts.{Accounts}
use Rattle.stock.specs.Endings.{IsTakenOut}
use Rattle.stock.proofs.Chains.{plans_stay}
use Rattle.stock.proofs.Owning.{each_one, bare_owns_none}
use Rattle.stock.proofs.setups.StockSetup.give_back.Goals as goal

pub take_out-requires-clause-room : goal.take_out-requires-clause-room
take_out-requires-clause-room g c =
    omega (
      arith,
      c.loop-arena.invariant.same (λ x. 1),
      c.loop-arena.invariant.room,
      c.requires.room,
      each_one (map g.D.Deed.holding c.args.deeds.now.items),
      each_one (map g.D.Deed.holding c.loop-arena.deeds.items),
      c.loop-arena.deeds.ok.0,
      c.args.deeds.now.ok.0,
      length-map c.args.deeds.now.items g.D.Deed.holding,
      length-map c.loop-arena.deeds.items g.D.Deed.holding,
    )

pub loop-arena-preserved : goal.loop-arena-preserved
loop-arena-preserved g c =
    let i = c.loop-arena.invariant in
    record {
      taken = λ k s lt at. elim (cases_eq k c.loop-arena.arena) [
        | inl here ↦ c.take_out.ensures.taken s (ap (slice_get c.take_out.new.self) (sym here) ∙ at)
        | inr other ↦ i.taken k s (omega (arith, lt, other)) (sym (c.take_out.ensures.others k other) ∙ at)
      ];
      reaped = c.take_out.ensures.reaped i.reaped;
      same = λ f. omega (arith, i.same f, c.take_out.ensures.deeds f);
      frame = λ rest a. c.take_out.ensures.frame rest (i.frame rest a);
      fixed = c.take_out.ensures.fixed ∙ i.fixed;
      room = c.take_out.ensures.room ∙ i.room;
    }

pub unreachable-requires : goal.unreachable-requires
unreachable-requires g c =
    let i = c.loop-arena.invariant in
    let many = (plans_stay c.args.self c.loop-arena.stock i.fixed).0 in
    let value = ap length c.finish-stock.ensures.value in
    let taken : All IsTakenOut c.loop-arena.stock = all_from IsTakenOut c.loop-arena.stock (λ k s at. i.taken k s (omega (arith, slice_get_within c.loop-arena.stock k s at, many, value, c.count-arena-end.ensures.value)) at) in
    let accounts = i.frame _ (subst (λ xs. Accounts xs []) c.finish-stock.ensures.value c.finish-stock.ensures.nothing_out) in
    let done : IsOk c.close.result = (c.close.ensures.nothing_out [] accounts i.reaped taken).1 refl in
    absurd (let no : false ≡ true = subst IsOk c.in-Err.is done in cc)

pub returns : goal.returns
returns g c = record {
  deeds = λ f.
      let bare = (c.close.ensures.ok).0 (subst IsOk (sym c.in-Ok.is) refl) in
      omega (arith, c.loop-arena.invariant.same f, bare_owns_none c.loop-arena.stock bare f);
}
