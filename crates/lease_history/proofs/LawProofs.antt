-- The laws, for the crates above.
pub use Rattle.lease_history.proofs.HeldLemmas.{clients_begin_known, held_is_leased}
pub use Rattle.lease_history.proofs.AnsweredLemmas.{open_clients_agree, waiting_is_answered}
pub use Rattle.lease_history.proofs.ProtocolLemmas.{welcomes_may_be_told}
pub use Rattle.lease_history.proofs.PlaceLemmas.{none_leased}
pub use Rattle.lease_history.proofs.MoveLemmas.{moves_keep_known}
pub use Rattle.lease_history.proofs.ReplyLemmas.{told_stays_told, replies_agree, replies_keep_known}
pub use Rattle.lease_history.proofs.EntryLemmas.{hellos_keep_known, sweeps_keep_known, settlements_keep_known}
