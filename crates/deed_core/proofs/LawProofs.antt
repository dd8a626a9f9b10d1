-- What the proofs of the crates above cite, and all that they cite, of this crate: the laws that its law
-- functions state, and facts about lists.
pub use Rattle.deed_core.proofs.Units.{counts_the_unit, covers_is, covers_cut, overlap_covers_twice, split_keeps_units, join_keeps_units}
pub use Rattle.deed_core.proofs.Weighing.{sum_by-filter, sum_by-smaller, sum_by-parts, sum_by-only_all, sum_by-only_none}
pub use Rattle.deed_core.proofs.Counting.{same_holding, same_tag, tests_say, counts_one_segment, counts_one_deed, counts_where_it_is, deed_counts_where_it_is, none_is_such, one_at_itself, one_at_is, one_at_most, one_at_held_itself, one_at_held_is, one_at_held_most}
pub use Rattle.deed_core.proofs.Sizes.{rounds_up, rounds_to_the_least, rounds_once, rounded_multiple, rounded_some, rounded_again, fits_rounded, power_some, smaller_power_divides, plain_is_of_its_size, plain_is_good, fits_plain}
pub use Rattle.deed_core.proofs.Lists.{sum_by-map, sum_by-flat_map, AllPairs-append}
pub use Rattle.deed_core.proofs.Places.{slice_get-set, slice_get-set_other, written, pushed, slice_get_some, slice_get_one, all_at, all_from, contains_at, read_is, slice_get_here, sum_set, set_same, map_set_same, mapped, slice_get_mapped, contains_mapped, mapped_contains}
pub use Rattle.deed_core.proofs.Sums.{sum_none, sum_at, sum_some, contained_some, part_of_sum, contained_in_sum, counts_none, sum_alike, sum_add, sum_if, count_by-none}
