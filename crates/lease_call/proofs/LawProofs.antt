-- What the proofs of the crates above cite of this crate: facts about lists of steps over any book and any
-- parts, since a clause doesn't range over types.
pub use Rattle.lease_call.proofs.CallPaths.{path_over, path_under}
pub use Rattle.lease_call.proofs.GoneThrough.{gone_through, gone_ends, ends_along, ends_over, ends_gives, end_same}
pub use Rattle.lease_call.proofs.TreeChains.{tree_chain}
pub use Rattle.lease_call.proofs.Takings.{is_plain_so, take_gives}
pub use Rattle.lease_call.proofs.CallHands.{request_keeps, hello_keeps, event_hands_back}
pub use Rattle.lease_call.proofs.CallStops.{request_stops, hello_stops_last, event_goes_on}
pub use Rattle.lease_call.proofs.NoFitAsks.{no_fit_is_last}
