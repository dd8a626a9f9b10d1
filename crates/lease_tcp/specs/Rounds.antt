-- Rounds that are gone by time.
use Rattle.std.specs.Prelude.{◌≡◌, Bool, true, false, ℕ, zero, suc}

module _ {K : Type 0} (may_rest : K → K → Type 0) (may_be_due : K → Bool → Type 0)
    (may_go : K → K → Type 0) where
  -- a round was gone just where it was due
  abbrev pub GoesIf : Bool → K → K → Type 0
  GoesIf true old new = may_go old new
  GoesIf false old new = new ≡ old

  abbrev pub TakesTurn : K → K → Type 0
  TakesTurn old new = (rested : K) × (due : Bool) × may_rest old rested × may_be_due rested due
      × GoesIf due rested new

module _ {K : Type 0} (may_end : K → Bool → Type 0) (may_rest : K → K → Type 0)
    (may_be_due : K → Bool → Type 0) (may_go : K → K → Type 0) where
  -- so many turns were taken, and before each it was found that it isn't over
  abbrev pub TakesTurns : ℕ → K → K → Type 0
  TakesTurns zero old new = new ≡ old
  TakesTurns (suc n) old new = (mid : K) × may_end old false
      × TakesTurn may_rest may_be_due may_go old mid × TakesTurns n mid new

  -- so it went on until it was found to be over
  abbrev pub KeepsRounds : K → K → Type 0
  KeepsRounds old new = (turns : ℕ) × TakesTurns turns old new × may_end new true
