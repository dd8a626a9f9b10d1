use Rattle.std.proofs.Common.{ap, subst, ◌∙◌}
use Rattle.tag_arena.specs.Choice.{IsNextChoice}
use Rattle.tag_arena.specs.Fits.{base_of}
use Rattle.tag_arena.specs.FreeRanges.{keeps_bases}
use Rattle.tag_arena.proofs.Indexing.{bases_kept}
use Rattle.tag_arena.proofs.free_index.FreeIndex.next.Goals as goal

pub next_fit-requires-clause-mirrors : goal.next_fit-requires-clause-mirrors
next_fit-requires-clause-mirrors g c =
    let s = c.self.inside in
    bases_kept s.policy s.slots s.rising s.sizes s.lists s.clock s.room c.self.invariant (ap keeps_bases (ap (λ v. v.policy) c.self.view_is ∙ c.requires.is_next))

pub returns-clause-choice : goal.returns-clause-choice
returns-clause-choice g c = subst (λ l. IsNextChoice c.args.quantum c.args.request.now l c.args.rover (base_of c.next_fit.result)) (ap (λ v. v.ranges) c.self.view_is) c.next_fit.ensures.choice
