-- What a desk is opened with.
use Rattle.std.specs.Prelude.{◌≡◌, [], ◌∷◌, All, AllPairs}
use Rattle.arena_tree.specs.Settings.{SetupState, IsOwned, Clash}
use Rattle.arena_tree.specs.Trees.{IsTree}
use Rattle.stock.specs.Setups.{IsSetUpFrom, numbered_deeds}
use Rattle.lease_book.specs.BookState.{IsHistory}
use Rattle.lease_machine.specs.Picture.{Picture, IsPicture, fresh_cpu}

-- it has the setup's arenas by their names, with its spans, all of them free, and with caches whose
-- magazines take three rounds and of which none is there yet; CPU 0 alone, which is selected and
-- has no round; and a book of which nothing happened
pub record IsOpenedFrom (setup : SetupState) (d : Picture) : Type 0 where
  pub tree : d.tree ≡ setup.arenas
  pub stock : IsSetUpFrom setup (numbered_deeds setup.spans) 3 d.spaces
  pub cpus : d.cpus ≡ fresh_cpu 0 d.spaces ∷ []
  pub selected : d.selected ≡ 0
  pub book : IsHistory [] d.book

-- and so it is a picture, where the arenas are a tree, and each span is whole, of a root, and has
-- no unit in common with another of its arena's
abbrev pub OpenedIsPicture : Type 0
OpenedIsPicture = (setup : SetupState) (d : Picture) → IsTree setup.arenas
    → All (IsOwned setup.arenas) setup.spans → AllPairs (λ a b. ¬ Clash a b) setup.spans
    → IsOpenedFrom setup d → IsPicture d
