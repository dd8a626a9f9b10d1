use Rattle.std.proofs.Common.{ap, ◌∙◌}
use Rattle.lease_book.specs.BookState.{leased_segments}
use Rattle.lease_book.proofs.BookLemmas.{some_of}
use Rattle.lease_book.proofs.books.Book.close.Goals as goal

pub returns-then-is_some-clause-exactly : goal.returns-then-is_some-clause-exactly
returns-then-is_some-clause-exactly g c =
    ((λ never. absurd (cc)), (λ none. absurd (some_of c.first_leased.result c.if-is_some.ensures c.first_leased.ensures.some (ap leased_segments c.self.view_is ∙ none))))
