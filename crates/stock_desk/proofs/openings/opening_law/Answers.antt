use Rattle.stock_desk.proofs.FirstPicture.{opened_is_picture}
use Rattle.stock_desk.proofs.openings.opening_law.Goals as goal

pub returns : goal.returns
returns c = opened_is_picture
