use Rattle.std.proofs.Common.{◌≤◌, sym, subst, ◌∙◌}
use Rattle.std.proofs.lemmas.Bool.{le-ltb}
use Rattle.lease_book.proofs.PlaceLemmas.{none_before}
use Rattle.lease_book.specs.Shelf.{NoneBefore}
use Rattle.lease_book.proofs.leases.Leases.has_older.Goals as goal

pub returns-else-self-get : goal.returns-else-self-get
returns-else-self-get g c =
    le-ltb c.self.inside.least c.get.result c.if-self-get.false
    ∙ sym (none_before c.args.incarnation c.self.inside.least c.args.self.now (subst (λ i. i ≤ c.self.inside.least) c.get.ensures.value c.if-self-get.false)
    (subst (NoneBefore c.self.inside.least) c.self.view_is c.self.invariant.1))
