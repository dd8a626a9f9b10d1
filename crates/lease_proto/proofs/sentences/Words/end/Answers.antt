use Rattle.std.proofs.Common.{ap, sym, ◌∙◌}
use Rattle.lease_proto.specs.Words.{words_left}
use Rattle.lease_proto.specs.Grammar.{end_at}
use Rattle.lease_proto.proofs.PartLemmas.{parts_left}
use Rattle.lease_proto.proofs.sentences.Words.end.Goals as goal

pub returns-in-Some : goal.returns-in-Some
returns-in-Some c = sym (parts_left c.in-Some.field-0.now) ∙ ap end_at (sym (ap words_left c.in-Some.is) ∙ c.self.view_is)
