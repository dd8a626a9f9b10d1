use Rattle.std.proofs.Common.{ℕ, ◌≤◌, arith, length, sym, subst, ◌∙◌}
use Rattle.lease_watch.specs.Rows.{comes_before}
use Rattle.lease_watch.proofs.RowLemmas.{some_place, no_place, place_within}
use Rattle.lease_watch.proofs.queries.ListQuery.place.Goals as goal

pub returns-in-Some : goal.returns-in-Some
returns-in-Some c =
    let is = some_place (comes_before c.args.self.now c.args.row.now) c.args.rows.now c.in-Some.place (sym c.next.ensures ∙ c.in-Some.is) in record {
      value = is;
      within = subst (λ (n : ℕ). n ≤ length c.args.rows.now) (sym is) (place_within (comes_before c.args.self.now c.args.row.now) c.args.rows.now);
    }

pub returns-in-None : goal.returns-in-None
returns-in-None c =
    record {
      value = no_place (comes_before c.args.self.now c.args.row.now) c.args.rows.now (sym c.next.ensures ∙ c.in-None.is);
      within = omega arith;
    }
