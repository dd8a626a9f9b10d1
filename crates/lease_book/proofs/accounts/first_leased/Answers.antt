use Rattle.std.proofs.Common.{arith}
use Rattle.lease_book.proofs.ShelfLemmas.{goes_past, found_first, found_none}
use Rattle.lease_book.proofs.accounts.first_leased.Goals as goal

pub returns-then-len-gt0-clause-value : goal.returns-then-len-gt0-clause-value
returns-then-len-gt0-clause-value g c = found_first _ _ c.index-leases-index.result c.loop-index-test.true c.index-leases-index.is (omega (arith, c.if-len-gt0.true, c.len.ensures)) c.loop-index.invariant

pub loop-index-preserved : goal.loop-index-preserved
loop-index-preserved g c = goes_past _ _ c.index-leases-index.result c.index-leases-index.is (omega (arith, c.if-len-gt0.false, c.len.ensures)) c.loop-index.invariant

pub returns-clause-value : goal.returns-clause-value
returns-clause-value g c = found_none _ _ c.loop-index-test.false c.loop-index.invariant
