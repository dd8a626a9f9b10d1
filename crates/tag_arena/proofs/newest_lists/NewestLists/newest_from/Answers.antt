use Rattle.std.proofs.Common.{sym, ap, ◌∙◌, arith}
use Rattle.tag_arena.specs.Linked.{newest_of}
use Rattle.tag_arena.proofs.Linking.{first_listed, never_listed}
use Rattle.tag_arena.proofs.newest_lists.NewestLists.newest_from.Goals as goal

pub returns-in-Some : goal.returns-in-Some
returns-in-Some c = λ tags linked powers.
    let found = ap (λ v. newest_of v c.loop-at.at) (sym c.self.view_is) ∙ c.in-Some.is in
    first_listed c.args.self.now tags linked powers c.args.list c.loop-at.at c.loop-at.invariant c.in-Some.slot (omega (arith, c.loop-at.auto.at)) (omega (arith, c.loop-at-test.true)) found

pub returns : goal.returns
returns c = λ tags linked powers. never_listed c.args.self.now tags linked powers c.args.list c.loop-at.at c.loop-at.invariant (omega (arith, c.loop-at-test.false))
