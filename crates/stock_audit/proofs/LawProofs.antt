-- What the proofs of the crates above cite, and all that they cite, of this crate: the laws that its
-- law functions state.
pub use Rattle.stock_audit.proofs.Placing.{audit_adds_up, unit_adds_up, units_weigh}
pub use Rattle.stock_audit.proofs.Keeping.{fresh_is_accounted, accounted_balances, hand_steps_keep, swaps_keep, pops_keep, pushes_keep, changes_keep, leases_keep, releases_keep, cpus_keep}
pub use Rattle.stock_audit.proofs.Exporting.{exported_is_children, allocated_is_out}
pub use Rattle.stock_audit.proofs.Climbing.{child_is_exported, spans_are_of_source, out_never_overlaps}
pub use Rattle.stock_audit.proofs.Tops.{tops_stand}
pub use Rattle.stock_audit.proofs.ChainSums.{chain_unit_adds_up, chain_adds_up}
pub use Rattle.stock_audit.proofs.Reaching.{free_is_not_out, reachable_is_not_held}
pub use Rattle.stock_audit.proofs.Giving.{free_above_is_free, given_was_reachable, given_fitted_in}
pub use Rattle.stock_audit.proofs.OffChain.{no_step_off_chain, off_chain_then, arena_step_off_chain, cache_step_off_chain}
