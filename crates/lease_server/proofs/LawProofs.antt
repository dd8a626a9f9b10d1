-- The lemmas that other crates may cite: what hand_law states, part by part.
pub use Rattle.lease_server.proofs.IntakeLemmas.{hand_tells, line_is_whole, line_is_begun, line_goes_on}
