use Rattle.std.proofs.Common.{◌∙◌, sym, ap, inl, inr, arith}
use Rattle.std.specs.Prelude.{slice_get}
use Rattle.std.proofs.lemmas.Bool.{cases_eq}
use Rattle.std.proofs.lemmas.Option.{slice_get_within}
use Rattle.deed_core.proofs.LawProofs.{all_from}
use Rattle.stock.specs.Endings.{IsTakenOut}
use Rattle.stock.proofs.Chains.{plans_stay}
use Rattle.stock.proofs.plain_stocks.close_owned.Goals as goal

pub loop-arena-preserved : goal.loop-arena-preserved
loop-arena-preserved c =
    let i = c.loop-arena.invariant in
    record {
      balanced = c.close_owned_by.ensures.balanced;
      reaped = c.close_owned_by.ensures.reaped;
      fixed = c.close_owned_by.ensures.fixed ∙ i.fixed;
      taken = λ k lt s at. elim (cases_eq k c.loop-arena.arena) [
        | inl here ↦ c.close_owned_by.ensures.taken s (ap (slice_get c.close_owned_by.new.stock) (sym here) ∙ at)
        | inr other ↦ i.taken k (omega (arith, lt, other)) s (sym (c.close_owned_by.ensures.others k other) ∙ at)
      ];
    }

pub returns-clause-taken : goal.returns-clause-taken
returns-clause-taken c =
    let i = c.loop-arena.invariant in
    let many = (plans_stay c.args.stock.now c.loop-arena.stock i.fixed).0 in
    all_from IsTakenOut c.loop-arena.stock (λ k s at. i.taken k (omega (arith, slice_get_within c.loop-arena.stock k s at, many, c.count-arena-end.ensures.value)) s at)
