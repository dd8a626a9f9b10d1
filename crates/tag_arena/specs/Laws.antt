-- What follows from the definitions, for the proofs of the layers above.
use Rattle.std.specs.Prelude.{◌≡◌, ℕ, ◌+◌, ◌<◌, ◌≤◌, ◌↔◌, ◌⊎◌, List, [], Contains, Option, Some}
use Rattle.std.specs.Prelude.{None, Result, Ok, Err, IsOk, sum_by}
use Rattle.deed_core.specs.Holding.{Holding}
use Rattle.deed_core.specs.Tag.{Tag}
use Rattle.deed_core.specs.Covering.{covering_held, units_held}
use Rattle.deed_core.specs.Weights.{one_at}
use Rattle.deed_core.specs.Request.{IsGood}
use Rattle.deed_core.specs.declared.requests.Request.{Request}
use Rattle.tag_arena.specs.declared.faults.ArenaFault.{ArenaFault}
use Rattle.tag_arena.specs.declared.faults.ArenaFault.TheVariants.{BadRequest, NoFit, NoMemory}
use Rattle.tag_arena.specs.declared.policies.Policy.{Policy}
use Rattle.tag_arena.specs.Place.{Serves}
use Rattle.tag_arena.specs.Choice.{IsBestChoice, IsNextChoice, IsInstantChoice, IsChoice}
use Rattle.tag_arena.specs.Layout.{FreeIsLongestRuns}
use Rattle.tag_arena.specs.ArenaState.{ArenaState, spans_of, layout_of, ranges_of, tags_of}
use Rattle.tag_arena.specs.ArenaState.{direct_tag}
use Rattle.tag_arena.specs.ArenaState.{IsChosen, IsSoundArena}
use Rattle.tag_arena.specs.Calls.{IsTagged}
use Rattle.tag_arena.specs.Outcomes.{CarveOf}

-- two best choices are the same
abbrev pub BestIsOne : Type 0
BestIsOne = (quantum : ℕ) (q : Request) (free : List Holding) (o p : Option ℕ)
    → IsBestChoice quantum q free o → IsBestChoice quantum q free p → o ≡ p

-- two next choices
abbrev pub NextIsOne : Type 0
NextIsOne = (quantum : ℕ) (q : Request) (free : List Holding) (rover : ℕ) (o p : Option ℕ)
    → IsNextChoice quantum q free rover o → IsNextChoice quantum q free rover p → o ≡ p

-- two instant choices
abbrev pub InstantIsOne : Type 0
InstantIsOne = (quantum : ℕ) (q : Request) (free : List Holding) (o p : Option ℕ)
    → IsInstantChoice quantum q free o → IsInstantChoice quantum q free p → o ≡ p

-- two segments that may be carved for one request of one arena are the same, and leave the same
-- but for how many free ranges were looked at
abbrev pub CarveIsOne : Type 0
CarveIsOne = (old new other : ArenaState) (q : Request) (t s : Tag) → IsSoundArena old
    → CarveOf old q (Ok t) new → CarveOf old q (Ok s) other → (t ≡ s)
    × (new ≡ record other { looks = new.looks })

-- where the policy chooses none, no address serves
abbrev pub NoneServes : Type 0
NoneServes = (policy : Policy) (quantum : ℕ) (q : Request) (free : List Holding) (rover : ℕ)
    → IsChoice policy quantum q free rover None → (base : ℕ) → Serves quantum q free base → ⊥

-- what an arena's policy chooses serves
abbrev pub ChoiceServes : Type 0
ChoiceServes = (a : ArenaState) (q : Request) (base : ℕ) → IsSoundArena a → IsChosen a q (Some base)
    → Serves a.quantum q a.free base

-- the free ranges of an arena are the longest runs
abbrev pub FreeAreLongestRuns : Type 0
FreeAreLongestRuns = (a : ArenaState) → IsSoundArena a → FreeIsLongestRuns (layout_of a)

-- no unit is in two spans of an arena
abbrev pub SpansOnce : Type 0
SpansOnce = (a : ArenaState) → IsSoundArena a → (u : ℕ) → covering_held u (spans_of a) ≤ 1

-- the units of an arena's spans are those that are free and those that are allocated
abbrev pub UnitsAddUp : Type 0
UnitsAddUp = (a : ArenaState) → IsSoundArena a
    → units_held (spans_of a) ≡ units_held a.free + units_held (ranges_of a.allocated)

-- what is allocated weighs as its ranges do
abbrev pub TagsWeigh : Type 0
TagsWeigh = (a : ArenaState) (f : Tag → ℕ)
    → sum_by f (tags_of a) ≡ sum_by (λ h. f (direct_tag a.id h)) (ranges_of a.allocated)

-- the segments that are allocated are those that stand at their bases
abbrev pub AllocatedStand : Type 0
AllocatedStand = (a : ArenaState) (t : Tag) → IsSoundArena a → Contains (tags_of a) t ↔ IsTagged a t

-- what stands weighs something, and what doesn't weighs nothing
abbrev pub AllocatedCount : Type 0
AllocatedCount = (a : ArenaState) (t : Tag) → IsSoundArena a
    → (IsTagged a t → 0 < sum_by (one_at t) (tags_of a))
    × (¬ IsTagged a t → sum_by (one_at t) (tags_of a) ≡ 0)

-- an arena of which nothing is allocated has no imported span; where it owns none, it holds no deed
abbrev pub GoesEmpty : Type 0
GoesEmpty = (a : ArenaState) → IsSoundArena a → tags_of a ≡ []
    → (a.imported ≡ []) × (a.owned ≡ [] → a.free ≡ [])

-- a carve is answered exactly: a bad request is told as bad; of a good one NoFit comes where no
-- address serves, and where one does a grant, or NoMemory
pub record IsAnsweredExactly (old : ArenaState) (q : Request)
    (answer : Result Tag ArenaFault) : Type 0 where
  pub bad : (answer ≡ Err BadRequest) ↔ (¬ IsGood old.quantum q)
  pub none : (answer ≡ Err NoFit)
      ↔ (IsGood old.quantum q × ((base : ℕ) → ¬ Serves old.quantum q old.free base))
  pub some : (IsOk answer ⊎ (answer ≡ Err NoMemory))
      ↔ (IsGood old.quantum q × ((base : ℕ) × Serves old.quantum q old.free base))

-- so is each carve
abbrev pub CarvesExactly : Type 0
CarvesExactly =
    (old new : ArenaState) (q : Request) (answer : Result Tag ArenaFault) → IsSoundArena old
    → CarveOf old q answer new → IsAnsweredExactly old q answer
