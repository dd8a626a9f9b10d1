use Rattle.lease_proto.proofs.ReplyLemmas.{replies_are_texts, written_reply_is_whole}
use Rattle.lease_proto.proofs.replies.reply_law.Goals as goal

pub returns-clause-exact : goal.returns-clause-exact
returns-clause-exact c = replies_are_texts

pub returns-clause-whole : goal.returns-clause-whole
returns-clause-whole c = written_reply_is_whole
