use Rattle.deed_core.proofs.Sizes.{rounds_up, rounds_to_the_least, rounds_once, fits_rounded, power_some, smaller_power_divides}
use Rattle.deed_core.proofs.laws.size_laws.Goals as goal

pub returns : goal.returns
returns c = record { up = rounds_up; least = rounds_to_the_least; once = rounds_once; fits = fits_rounded; some = power_some; powers = smaller_power_divides }
