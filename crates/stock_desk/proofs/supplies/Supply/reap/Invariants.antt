use Rattle.std.proofs.Common.{[]}
use Rattle.local_calls.specs.Looks.{finds_in_spaces}
use Rattle.lease_book.specs.BookState.{BookState}
use Rattle.stock_desk.specs.Supplies.{picture_with}
use Rattle.stock_desk.proofs.Reaping.{IsReapedSoFar}
use Rattle.stock_desk.proofs.supplies.Supply.reap.Given as goal
use Rattle.lease_machine.specs.Picture.{IsHeld}

abbrev pub invariant-turns : goal.invariant-turns
invariant-turns l = (b : BookState) → IsHeld [] (picture_with b l.fn.self) → IsReapedSoFar l.units (picture_with b l.fn.self) (picture_with b l.self)

abbrev pub decreases-turns : goal.decreases-turns
decreases-turns l = finds_in_spaces l.self.spaces
