-- What the proofs of the crates above cite, and all that they cite, of this crate: the laws that its law
-- functions state, and facts about lists of steps over any parts, since a clause doesn't range over types.
pub use Rattle.arena_tree.proofs.Paths.{path_then, path_split, path_keeps, ran_done, ran_ask, ran_then, ran_gives, ran_goes_on, ran_counts, ran_posts, gives_then, within_then, handles_then}
pub use Rattle.arena_tree.proofs.ClimbBounds.{within_return, within_refused, within_climb, climb_is_short, return_is_short}
pub use Rattle.arena_tree.proofs.ClimbGrants.{gives_return, gives_refused, gives_climb}
pub use Rattle.arena_tree.proofs.ClimbTold.{TellsAfter, tells_own, tells_then, tells_so, stopped_more, taken_in_more, ran_out_more, ran_out_before, ran_tells, tells_gives, climb_tells, return_tells, climb_bad, none_fits_among, no_fit_is_told}
pub use Rattle.arena_tree.proofs.ClimbHands.{handles_return, handles_refused, handles_climb}
pub use Rattle.arena_tree.proofs.Same.{tag_ok_same, tag_option_same, tag_all_same, tag_free_same, tag_add_same, tag_put_same, tag_slab_same, tag_push_same, tag_climb_same, tag_return_same}
pub use Rattle.arena_tree.proofs.OneReason.{one_refusal}
pub use Rattle.arena_tree.proofs.TreeNames.{own_name}
pub use Rattle.arena_tree.proofs.Amounts.{node_read, arena_read, chain_read}
