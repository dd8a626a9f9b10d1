-- Connections that come, one after another, and what becomes of each.
use Rattle.std.specs.Prelude.{◌≡◌, Bool, true, false, List, [], ◌∷◌, Option, Some, None}
use Rattle.std.specs.Prelude.{Result, Ok, Err}
use Rattle.tcp_connections.specs.declared.arrivals.Reception.{Reception}

-- By what may come, what may be found of the door, and what may become of what couldn't be
-- accepted.
module _ {A C F : Type 0} (may_accept : A → Result C F → A → Type 0)
    (may_find : A → Bool → Type 0) (may_miss : A → F → A → Type 0) where
  -- these couldn't be accepted, one after another, and of each the door was found open, and it was
  -- missed, before the next came
  abbrev pub MissesEach : A → List F → A → Type 0
  MissesEach old [] new = new ≡ old
  MissesEach old (fault ∷ more) new = (here : A) × (missed : A)
      × may_accept old (Err fault) here × may_find here false × may_miss here fault missed
      × MissesEach missed more new

  -- the connection was accepted, and the door found open; or whatever came, it was found closed
  abbrev pub ComesLast : A → Option C → A → Type 0
  ComesLast old (Some connection) new = may_accept old (Ok connection) new × may_find new false
  ComesLast old None new = (last : Result C F) × may_accept old last new × may_find new true

  -- so it is after those that couldn't be accepted
  abbrev pub ComesNext : A → Option C → A → Type 0
  ComesNext old next new = (faults : List F) × (mid : A) × MissesEach old faults mid
      × ComesLast mid next new

-- The same, with what may become of a connection.
module _ {A C F : Type 0} (may_accept : A → Result C F → A → Type 0)
    (may_find : A → Bool → Type 0) (may_serve : A → C → A → Type 0) (may_miss : A → F → A → Type 0)
  where
    -- what came is served; where it couldn't be accepted, it is missed
    abbrev pub Meets : A → Result C F → A → Type 0
    Meets old (Ok connection) new = may_serve old connection new
    Meets old (Err fault) new = may_miss old fault new

    -- these came one after another, and of each the door was found open, and it was met, before the
    -- next came
    abbrev pub MeetsEach : A → List (Result C F) → A → Type 0
    MeetsEach old [] new = new ≡ old
    MeetsEach old (came ∷ more) new = (here : A) × (met : A)
        × may_accept old came here × may_find here false × Meets here came met
        × MeetsEach met more new

    -- so it went up to the first of which the door was found closed, and nothing more was done
    abbrev pub ServesEach : A → A → Type 0
    ServesEach old new = (all : List (Result C F)) × (last : Result C F) × (mid : A)
        × MeetsEach old all mid × may_accept mid last new × may_find new true

-- What comes, and what couldn't be accepted, the host knows nothing of.
abbrev pub AcceptsAt : {A H C F : Type 0} → (A → Result C F → A → Type 0)
    → Reception A H → Result C F → Reception A H → Type 0
AcceptsAt may_accept old came new =
    may_accept old.arrivals came new.arrivals × (new.host ≡ old.host)

abbrev pub FindsAt : {A H : Type 0} → (A → Bool → Type 0) → Reception A H → Bool → Type 0
FindsAt may_find here found = may_find here.arrivals found

abbrev pub MissesAt : {A H F : Type 0} → (A → F → A → Type 0)
    → Reception A H → F → Reception A H → Type 0
MissesAt may_miss old fault new =
    may_miss old.arrivals fault new.arrivals × (new.host ≡ old.host)

-- And of what the host begins with a connection those know nothing to whom it came.
abbrev pub BeginsAt : {A H C : Type 0} → (H → C → H → Type 0)
    → Reception A H → C → Reception A H → Type 0
BeginsAt may_begin old connection new =
    (new.arrivals ≡ old.arrivals) × may_begin old.host connection new.host
