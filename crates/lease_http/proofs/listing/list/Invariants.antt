use Rattle.std.proofs.Common.{◌≡◌, List}
use Rattle.lease_watch.specs.declared.rows.LeaseRow.{LeaseRow}
use Rattle.lease_watch.specs.Rows.{listed_of}
use Rattle.lease_http.specs.Listing.{MayHaveEach}
use Rattle.lease_http.proofs.listing.list.Given as goal

-- what the clients so far may have
abbrev pub invariant-loop-place : goal.invariant-loop-place
invariant-loop-place g l = (all : List LeaseRow) × MayHaveEach (g.V.View.may_have l.view) l.place all × (l.rows.items ≡ listed_of l.query all)
