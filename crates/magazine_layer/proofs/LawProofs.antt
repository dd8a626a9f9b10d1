-- What the proofs of the crates above cite of this crate.
use Rattle.std.proofs.Common.{List}
use Rattle.std.specs.Prelude.{All}
use Rattle.std.proofs.lemmas.List.Elements.{All-contains}
use Rattle.deed_core.specs.Tag.{Tag}
use Rattle.magazine_layer.specs.Magazines.{AreAmong}

-- whatever holds of all those rounds holds of all these
pub kinds_kept : (P : Tag → Type 0) (these those : List Tag) → AreAmong these those → All P those → All P these
kinds_kept P these those among all k d within = All-contains P those _ all (among.each k d within)
