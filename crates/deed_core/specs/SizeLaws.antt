-- Laws of sizes rounded to a quantum, of powers of two, and of plain requests.
use Rattle.std.specs.Prelude.{◌≡◌, ℕ, ◌+◌, ◌%◌, ◌^◌, ◌<◌, ◌≤◌, ◌↔◌}
use Rattle.std.specs.Int.{IsPowerOfTwo}
use Rattle.deed_core.specs.Request.{Fits, IsGood, IsPlain, rounding_of, plain_of, with_size}
use Rattle.deed_core.specs.declared.requests.Request.{Request}

-- a rounded size is a multiple of the quantum, at least the size, and less than a quantum above it
abbrev pub RoundsUp : Type 0
RoundsUp = (quantum size : ℕ) → 0 < quantum →
    (rounding_of quantum size % quantum ≡ 0) × (size ≤ rounding_of quantum size)
    × (rounding_of quantum size < size + quantum)

-- no multiple of the quantum from the size on is less
abbrev pub RoundsToTheLeast : Type 0
RoundsToTheLeast = (quantum size n : ℕ) → 0 < quantum → n % quantum ≡ 0 → size ≤ n →
    rounding_of quantum size ≤ n

-- a multiple of the quantum is rounded to itself, so a rounded size is the same when rounded again
abbrev pub RoundsOnce : Type 0
RoundsOnce = (quantum n : ℕ) → 0 < quantum → n % quantum ≡ 0 → rounding_of quantum n ≡ n

-- what fits the rounded size fits the size, and the other way round
abbrev pub FitsRounded : Type 0
FitsRounded = (quantum : ℕ) (q : Request) (base len : ℕ) → 0 < quantum →
    Fits quantum (with_size (rounding_of quantum q.size) q) base len ↔ Fits quantum q base len

-- no power of two is 0
abbrev pub PowerIsSome : Type 0
PowerIsSome = (n : ℕ) → IsPowerOfTwo n → 0 < n

-- a power of two divides each greater one, and so what this one divides
abbrev pub SmallerPowerDivides : Type 0
SmallerPowerDivides = (a b n : ℕ) → IsPowerOfTwo a → IsPowerOfTwo b → a ≤ b → n % b ≡ 0 → n % a ≡ 0

-- a plain request is the one for its size
abbrev pub PlainIsOfItsSize : Type 0
PlainIsOfItsSize = (q : Request) → IsPlain q ↔ (q ≡ plain_of q.size)

-- each arena takes a plain request for some unit
abbrev pub PlainIsGood : Type 0
PlainIsGood = (quantum size : ℕ) → 0 < size → IsGood quantum (plain_of size)

-- what fits a plain request: so many whole quanta on the quantum, that end at 2^62 or below
abbrev pub FitsPlain : Type 0
FitsPlain = (quantum size base len : ℕ) →
    Fits quantum (plain_of size) base len
    ↔ ((len ≡ rounding_of quantum size) × (base % quantum ≡ 0) × (base + len ≤ 2 ^ 62))
