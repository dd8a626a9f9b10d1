use Rattle.deed_core.proofs.Sizes.{plain_is_of_its_size, plain_is_good, fits_plain}
use Rattle.deed_core.proofs.laws.plain_laws.Goals as goal

pub returns : goal.returns
returns c = record { plain = plain_is_of_its_size; good = plain_is_good; fits = fits_plain }
