use Rattle.std.proofs.Common.{refl}
use Rattle.cross_tests.proofs.arenas.arena_of_fours.Goals as goal

pub new-requires : goal.new-requires
new-requires c = (2, refl)
