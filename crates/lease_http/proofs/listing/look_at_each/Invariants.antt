use Rattle.std.proofs.Common.{◌≡◌, take}
use Rattle.std.specs.Prelude.{fold}
use Rattle.lease_watch.specs.Rows.{IsInOrder, after_look}
use Rattle.lease_http.proofs.listing.look_at_each.Given as goal

abbrev pub invariant-loop-lease : goal.invariant-loop-lease
invariant-loop-lease l = IsInOrder l.query l.rows.items × (l.rows.items ≡ fold (after_look l.query) l.initial.rows.items (take l.lease-index l.leases))
