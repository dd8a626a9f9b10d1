use Rattle.std.proofs.Common.{refl}
use Rattle.lease_book.proofs.BookLemmas.{refused_at}
use Rattle.lease_book.proofs.books.Book.refuse_at.Goals as goal

pub invariant_of-self : goal.invariant_of-self
invariant_of-self g c =
    (refused_at _ _ c.self.view_is _ _ c.requires.index c.requires.new c.check.ensures _ c.args.refusal _ _ c.keep-kept.ensures.value refl c.keep-kept.ensures.accounts c.self.invariant).0

pub returns : goal.returns
returns g c =
    (refused_at _ _ c.self.view_is _ _ c.requires.index c.requires.new c.check.ensures _ c.args.refusal _ _ c.keep-kept.ensures.value c.receipt.ensures c.keep-kept.ensures.accounts c.self.invariant).1
