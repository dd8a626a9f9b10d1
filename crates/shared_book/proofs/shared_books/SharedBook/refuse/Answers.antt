use Rattle.std.proofs.Common.{rules, ◌≡◌}
use Rattle.arena_tree.specs.declared.limits.TheConstants.{MOST_ROOTS}
use Rattle.lease_book.specs.BookState.{HasHistory}
use Rattle.shared_book.proofs.shared_books.SharedBook.refuse.Goals as goal

pub returns : goal.returns
returns g c =
    let mark : c.deref_mut.result.now.mark.root ≡ MOST_ROOTS = search rules in
    let history : HasHistory c.deref_mut.result.now = search rules in
    record { old = c.deref_mut.result.now; new = c.refuse.new.self; mark = mark; history = history; event = c.refuse.ensures }
