-- Where units may stand, and the least such place.
use Rattle.std.specs.Prelude.{◌≡◌, ◌≢◌, ℕ, ◌+◌, ◌-◌, ◌/◌, ◌%◌, ◌≤◌, ◌⊎◌, List, Any, Option, Some}
use Rattle.std.specs.Prelude.{None}
use Rattle.deed_core.specs.Extent.{end_of}
use Rattle.deed_core.specs.Holding.{Holding}
use Rattle.deed_core.specs.Request.{Fits, rounding_of}
use Rattle.deed_core.specs.declared.requests.Request.{Request}

-- m is the least number of which P holds, and there is none where P holds of none
abbrev pub IsLeast : (ℕ → Type 0) → Option ℕ → Type 0
IsLeast P None = (n : ℕ) → P n → ⊥
IsLeast P (Some m) = P m × ((n : ℕ) → P n → m ≤ n)

-- len units from base on lie in [low, high), stand at the phase modulo align, and stay inside a
-- block of nocross units
pub record IsPlace (low high len align phase nocross base : ℕ) : Type 0 where
  pub from_low : low ≤ base
  pub to_high : base + len ≤ high
  pub on_phase : base % align ≡ phase
  pub inside : nocross ≢ 0 → base / nocross ≡ (base + len - 1) / nocross

-- blocks of align and of nocross units nest
abbrev pub Nest : ℕ → ℕ → Type 0
Nest align nocross = (nocross % align ≡ 0) ⊎ (align % nocross ≡ 0)

-- base is a multiple of the quantum, and at the phase where there is an align
pub record OnGrid (quantum : ℕ) (q : Request) (base : ℕ) : Type 0 where
  pub on_quantum : base % quantum ≡ 0
  pub on_phase : q.align ≢ 0 → base % q.align ≡ q.phase

-- the range serves the request at base
pub record ServesIn (quantum : ℕ) (q : Request) (r : Holding) (base : ℕ) : Type 0 where
  pub fits : Fits quantum q base (rounding_of quantum q.size)
  pub from : r.range.base ≤ base
  pub to : base + rounding_of quantum q.size ≤ end_of r.range

-- one of the free ranges serves the request at base
abbrev pub Serves : ℕ → Request → List Holding → ℕ → Type 0
Serves quantum q free base = Any (λ r. ServesIn quantum q r base) free
