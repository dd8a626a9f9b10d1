-- The lemmas that other crates may cite: what move_laws, reply_laws and held_laws state, what waits,
-- and what a reply answers of it.
pub use Rattle.lease_client.proofs.ReplyLemmas.{moves_keep_sound, moves_in_turn, no_request}
pub use Rattle.lease_client.proofs.OnceLemmas.{sent_stays_sent, replies_count_once, answers_none}
pub use Rattle.lease_client.proofs.WaitingLemmas.{found_own, found_push, found_above, own_requests}
pub use Rattle.lease_client.proofs.HeldLemmas.{held_is_since_grant}
