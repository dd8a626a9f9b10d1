use Rattle.lease_proto.proofs.LineLemmas.{line_is_read, written_line_is_whole, lines_are_texts}
use Rattle.lease_proto.proofs.lines.line_law.Goals as goal

pub returns-clause-exact : goal.returns-clause-exact
returns-clause-exact c = lines_are_texts

pub returns-clause-written : goal.returns-clause-written
returns-clause-written c = line_is_read

pub returns-clause-whole : goal.returns-clause-whole
returns-clause-whole c = written_line_is_whole
