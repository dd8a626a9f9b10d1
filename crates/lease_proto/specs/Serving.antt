-- What may be written for the frames of a stream.
use Rattle.std.specs.Prelude.{◌≡◌, ℕ, List, [], ◌∷◌, ◌++◌, Ok, Err}
use Rattle.lease_proto.specs.Frames.{Frame}
use Rattle.lease_proto.specs.Faults.{error_line}

-- From old, this text may be written for the frames, and new is then the state: for a line an
-- answer that may be given to it, for a refused line its error line.
module _ {S : Type 0} (may_answer : S → List ℕ → List ℕ → S → Type 0) where
  abbrev pub ServesLines : S → List Frame → List ℕ → S → Type 0
  ServesLines old [] text new = (text ≡ []) × (new ≡ old)
  ServesLines old (Ok line ∷ frames) text new = (reply : List ℕ) × (rest : List ℕ) × (mid : S)
      × may_answer old line reply mid × (text ≡ reply ++ rest) × ServesLines mid frames rest new
  ServesLines old (Err fault ∷ frames) text new = (rest : List ℕ)
      × (text ≡ error_line fault ++ rest) × ServesLines old frames rest new
