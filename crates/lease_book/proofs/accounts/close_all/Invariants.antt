use Rattle.std.proofs.Common.{◌≡◌, [], All, vec_len}
use Rattle.lease_book.proofs.accounts.close_all.Given as goal

abbrev pub invariant-loop-one : goal.invariant-loop-one
invariant-loop-one g l = All (λ leases. leases ≡ []) l.leases.items

abbrev pub decreases-loop-one : goal.decreases-loop-one
decreases-loop-one g l = vec_len l.leases
