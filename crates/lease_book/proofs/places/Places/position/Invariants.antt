use Rattle.lease_book.proofs.PlacesLemmas.{Seeks, is_sought}
use Rattle.lease_book.proofs.places.Places.position.Given as goal

abbrev pub invariant-loop-end : goal.invariant-loop-end
invariant-loop-end g l = Seeks (is_sought l.fn.id.incarnation l.fn.arena l.fn.base) l.self.places l.end l.found

abbrev pub decreases-loop-end : goal.decreases-loop-end
decreases-loop-end g l = l.end
