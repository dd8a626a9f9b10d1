-- The lemmas on lines that other crates may cite: what framing_law, line_feed_law, line_law, served_law, reply_law and setup_law state, part by part.
pub use Rattle.lease_proto.proofs.FrameLemmas.{frames_in-append, rest_in-append, frame_of-take, frames_in-take, rest_in-take, frames_of_rest-take}
pub use Rattle.lease_proto.proofs.FrameLemmas.{frames_in-text, rest_in-text, frames_in-none, rest_in-none, frames_in-ended, rest_in-ended, one_line}
pub use Rattle.lease_proto.proofs.FrameLemmas.{up_to, one_line_before}
pub use Rattle.lease_proto.proofs.ByteLemmas.{is_there, none_below}
pub use Rattle.lease_proto.proofs.LineLemmas.{lines_are_texts, line_is_read, written_line_is_whole}
pub use Rattle.lease_proto.proofs.OperatorLemmas.{clients_are_served, operators_are_served}
pub use Rattle.lease_proto.proofs.ReplyLemmas.{replies_are_texts, written_reply_is_whole}
pub use Rattle.lease_proto.proofs.SetupLemmas.{setups_are_texts}
