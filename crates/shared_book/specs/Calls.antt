-- What a call of a book under its lock says of that book.
use Rattle.std.specs.Prelude.{◌≡◌}
use Rattle.arena_tree.specs.declared.limits.TheConstants.{MOST_ROOTS}
use Rattle.lease_book.specs.BookState.{BookState, HasHistory}
use Rattle.lease_call.specs.BookEvents.{BookEvent}
use Rattle.lease_call.specs.Calls.{BookCall, AnswerOf}

-- the call was an event of a book that some entries give, and whose mark is of the system's root
pub record IsLockedCall (D : Type 0) (k : BookCall) (a : AnswerOf D k) : Type 0 where
  pub old : BookState
  pub new : BookState
  pub mark : old.mark.root ≡ MOST_ROOTS
  pub history : HasHistory old
  pub event : BookEvent D old k a new
