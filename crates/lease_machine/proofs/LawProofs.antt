-- What the proofs of the crates above cite, and all that they cite, of this crate: the laws that its
-- law functions state.
pub use Rattle.lease_machine.proofs.Spans.{same_grows, grows_then}
pub use Rattle.lease_machine.proofs.Homes.{pictures_stay, setup_only_grows, setup_stays, units_have_one_home, leases_are_apart, audit_tells_leases, audit_is_whole, audit_is_told}
pub use Rattle.lease_machine.proofs.Repeats.{lines_repeat}
pub use Rattle.lease_machine.proofs.Fitting.{grants_fit, kept_grants_fit}
pub use Rattle.lease_machine.proofs.NoRoom.{no_fit_means_taken, no_fit_means_taken_up, freed_is_whole, first_lease_is_served, never_both, runs_never_both}
pub use Rattle.lease_machine.proofs.Growing.{grows_add_free, grown_is_served, grown_stays, grows_keep, grows_keep_nothing, grows_are_answered}
pub use Rattle.lease_machine.proofs.Emptied.{reap_leaves_none, offline_has_no_round, tick_and_reap_empty, again_means_room}
pub use Rattle.lease_machine.proofs.Agreeing.{answers_agree, recent_repeat, repeats_fit}
pub use Rattle.lease_machine.proofs.CachedReach.{grants_were_reachable}
pub use Rattle.lease_machine.proofs.CouldServe.{what_serves_can}
pub use Rattle.lease_machine.proofs.FreshCpus.{fresh_is_picture, selected_is_picture, fresh_cpu_fits}
pub use Rattle.lease_machine.proofs.CachedSizes.{cached_by_number}
pub use Rattle.lease_machine.proofs.Stepping.{faults_are_answered, known_are_answered, old_hellos_are_answered, audits_are_answered, clients_are_told, cpus_are_selected, resizes_are_answered, releases_are_settled}
pub use Rattle.lease_machine.proofs.Settling.{refusals_are_answered}
pub use Rattle.lease_machine.proofs.Ticking.{ticks_are_answered, ticks_keep}
pub use Rattle.lease_machine.proofs.Resizing.{resizes_keep}
pub use Rattle.lease_machine.proofs.Fewer.{fewer_fit_too}
pub use Rattle.lease_machine.proofs.HeldLaws.{held_is_local, hand_is_local}
pub use Rattle.lease_machine.proofs.FreeLaws.{free_goes_back}
pub use Rattle.lease_machine.proofs.XallocLaws.{xalloc_carves}
pub use Rattle.lease_machine.proofs.AllocLaws.{alloc_climbs}
pub use Rattle.lease_machine.proofs.CachedLaws.{alloc_from_caches}
pub use Rattle.lease_machine.proofs.DrainLaws.{offline_is_local, drain_goes_offline}
pub use Rattle.lease_machine.proofs.CachedUnits.{cached_units_fit}
pub use Rattle.lease_machine.proofs.ReapLaws.{reap_reaps, reaps_none, reapings_add}
pub use Rattle.lease_machine.proofs.Leases.{leases_move}
pub use Rattle.lease_machine.proofs.GrantedApart.{grants_stay_apart}
pub use Rattle.lease_machine.proofs.Unsettled.{new_grants_stay_apart}
pub use Rattle.lease_machine.proofs.Replied.{clients_get_replies}
pub use Rattle.lease_machine.proofs.Ruling.{steps_keep_rules, runs_keep_rules}
pub use Rattle.lease_machine.proofs.RequestRuns.{request_runs}
pub use Rattle.lease_machine.proofs.HelloRuns.{hello_runs}
