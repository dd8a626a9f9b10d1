use Rattle.std.proofs.Common.{◌≡◌, ap, sym, ◌∙◌}
use Rattle.lease_proto.specs.Words.{words_left, parts_of}
use Rattle.lease_proto.proofs.WordLemmas.{parts_of-first, parts_of-one, space_there, space_nowhere}
use Rattle.lease_proto.proofs.sentences.Words.next.Goals as goal

pub returns-in-Some : goal.returns-in-Some
returns-in-Some c =
    let line = c.in_ok-rest.rest.now in
    let i = c.in-Some.i in
    let there = space_there line i (sym c.first_space.ensures ∙ c.in-Some.is) in
    let left : c.args.self.now ≡ parts_of line = sym c.self.view_is ∙ ap words_left c.in_ok-rest.was in
    left ∙ parts_of-first line i there.0 there.1 there.2

pub returns-in-None : goal.returns-in-None
returns-in-None c =
    let line = c.in_ok-rest.rest.now in
    let left : c.args.self.now ≡ parts_of line = sym c.self.view_is ∙ ap words_left c.in_ok-rest.was in
    left ∙ parts_of-one line (space_nowhere line (sym c.first_space.ensures ∙ c.in-None.is))
