use Rattle.std.proofs.Common.{◌≡◌, ◌∙◌, sym, subst, insert, take}
use Rattle.std.proofs.lemmas.List.Sorted.{IsNonDecreasingBy-take}
use Rattle.lease_watch.specs.Rows.{IsInOrder, key, put_in}
use Rattle.lease_watch.proofs.RowLemmas.{put_in_order}
use Rattle.lease_watch.proofs.queries.ListQuery.look_at.Goals as goal

pub returns-clause-order : goal.returns-clause-order
returns-clause-order c =
    let q = c.args.self.now in
    let old = c.args.rows.now.items in
    let is : c.truncate.new.self.items ≡ take q.count (put_in q old c.args.row) = search (c.truncate.ensures.items, c.in_ok-insert.ensures.items, c.place-place.ensures.value, c.as_slice-2.ensures.value) in
    subst (IsInOrder q) (sym is) (IsNonDecreasingBy-take (key q) q.count (put_in q old c.args.row) (put_in_order q old c.args.row c.requires))
