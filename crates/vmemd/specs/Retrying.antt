-- What is put back at an end, and what is told of what can't be at once.
use Rattle.std.specs.Prelude.{◌≡◌, Bool, true, false, List, [], ◌∷◌, Result, Ok, Err}
use Rattle.lease_threads.specs.Systems.{CpuState, HoldsNothing}
use Rattle.locked_parts.specs.Kinds.{AreForSame}

module _ {A : Type 0} (may_note : A → Bool → A → Type 0) (may_tell : A → A → Type 0) where
  -- it is told just where it was noted for the first time
  abbrev pub TellsFirst : A → Bool → A → Type 0
  TellsFirst noted true new = may_tell noted new
  TellsFirst noted false new = new ≡ noted

  abbrev pub TellsStuck : A → A → Type 0
  TellsStuck old new = (first : Bool) × (noted : A) × may_note old first noted
      × TellsFirst noted first new

module _ {T D A : Type 0} (may_end : T → Result D T → Type 0)
    (may_note : A → Bool → A → Type 0) (may_tell : A → A → Type 0) where
  -- of each try that left something it was noted, and told the first time, and then it was tried
  -- again, with these ends; the last left nothing
  abbrev pub Retries : Result D T → A → List (Result D T) → D → A → Type 0
  Retries tried old [] done new = (tried ≡ Ok done) × (new ≡ old)
  Retries tried old (next ∷ more) done new = (rest : T) × (told : A)
      × (tried ≡ Err rest) × TellsStuck may_note may_tell old told
      × may_end rest next × Retries next told more done new

  -- so it went on, as often as it had to
  abbrev pub PutsBack : Result D T → A → D → A → Type 0
  PutsBack tried old done new = (tries : List (Result D T)) × Retries tried old tries done new

-- it is that CPU, and holds something still
pub record IsRestOfCpu (old rest : CpuState) : Type 0 where
  pub number : rest.number ≡ old.number
  pub magazines : AreForSame old.caches rest.caches
  pub holds : ¬ HoldsNothing rest
