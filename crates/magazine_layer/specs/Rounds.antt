-- Runs of operations over a CPU's cache and its depot.
use Rattle.std.specs.Prelude.{◌≡◌, ◌≢◌, ℕ, ◌+◌, ◌⊎◌, List, [], ◌∷◌, ◌++◌}
use Rattle.deed_core.specs.Tag.{Tag}
use Rattle.magazine_layer.specs.Magazines.{CpuCacheState, BothEmpty, BothFull, Pops, Pushes}
use Rattle.magazine_layer.specs.Magazines.{after_change, empty_magazine}
use Rattle.magazine_layer.specs.Depots.{DepotState, SwapsForFull, SwapsForEmpty, PutsFull}
use Rattle.magazine_layer.specs.Depots.{both_rounds}
use Rattle.magazine_layer.specs.declared.rounds.RoundOp.{RoundOp}
use Rattle.magazine_layer.specs.declared.rounds.RoundOp.TheVariants.{Give, Take}
use Rattle.magazine_layer.specs.declared.rounds.RoundAnswer.{RoundAnswer}
use Rattle.magazine_layer.specs.declared.rounds.RoundAnswer.TheVariants.{Kept, Refused}
use Rattle.magazine_layer.specs.declared.rounds.RoundAnswer.TheVariants.{Taken, Nothing}

-- a CPU's cache and the depot
pub record CpuDepot : Type 0 where
  pub cpu : CpuCacheState
  pub depot : DepotState

abbrev pub cpu_depot : CpuCacheState → DepotState → CpuDepot
cpu_depot c d = record { cpu = c; depot = d }

-- the rounds of both
abbrev pub rounds_of : CpuDepot → List Tag
rounds_of s = both_rounds s.cpu s.depot

-- a taking, its answer, and the exchanges that it made
pub data TakesRound {D : Type 0} (s s' : CpuDepot) (answer : RoundAnswer D) (exchanges : ℕ) :
    Type 0 where
  -- of the CPU's own
  Own_taken : (x : Tag) → Pops x s.cpu s'.cpu → s'.depot ≡ s.depot
      → answer ≡ Taken x → exchanges ≡ 0 → TakesRound s s' answer exchanges
  -- of a full magazine of the depot's
  Swapped : (x : Tag) (c : CpuCacheState) → BothEmpty s.cpu
      → SwapsForFull s.cpu s.depot c s'.depot → Pops x c s'.cpu
      → answer ≡ Taken x → exchanges ≡ 1 → TakesRound s s' answer exchanges
  -- the depot has none
  None_full : BothEmpty s.cpu → s.cpu.size ≡ s.depot.size → s.depot.full ≡ []
      → s' ≡ s → answer ≡ Nothing → exchanges ≡ 0 → TakesRound s s' answer exchanges
  -- the depot's size is another: the CPU changes over, unless out of memory
  Old_size : BothEmpty s.cpu → s.cpu.size ≢ s.depot.size
      → (s' ≡ s) ⊎ (s' ≡ cpu_depot (after_change s.depot.size s.cpu) s.depot)
      → answer ≡ Nothing → exchanges ≡ 0 → TakesRound s s' answer exchanges

-- room made in a CPU's cache whose magazines are both full, and the exchanges that it took
pub data MakesRoom (s s' : CpuDepot) (exchanges : ℕ) : Type 0 where
  -- by an empty magazine of the depot's
  By_empty : SwapsForEmpty s.cpu s.depot s'.cpu s'.depot → exchanges ≡ 1
      → MakesRoom s s' exchanges
  -- by a new one, where the depot has none
  By_new : s.depot.empty ≡ 0
      → PutsFull (empty_magazine s.depot.size) s.cpu s.depot s'.cpu s'.depot
      → exchanges ≡ 1 → MakesRoom s s' exchanges
  -- by changing over to the depot's size
  By_change : s.cpu.size ≢ s.depot.size
      → s' ≡ cpu_depot (after_change s.depot.size s.cpu) s.depot → exchanges ≡ 0
      → MakesRoom s s' exchanges

-- room can't be made without memory
abbrev pub NeedsMemory : CpuDepot → Type 0
NeedsMemory s = s.cpu.size ≡ s.depot.size → s.depot.empty ≡ 0

-- a giving of x, its answer, and the exchanges that it made
pub data GivesRound {D : Type 0} (x : Tag) (s s' : CpuDepot) (answer : RoundAnswer D)
    (exchanges : ℕ) : Type 0 where
  -- to the CPU's own
  Own_given : Pushes x s.cpu s'.cpu → s'.depot ≡ s.depot
      → answer ≡ Kept → exchanges ≡ 0 → GivesRound x s s' answer exchanges
  -- once room is made
  Made : (made : CpuDepot) → BothFull s.cpu → MakesRoom s made exchanges
      → Pushes x made.cpu s'.cpu → s'.depot ≡ made.depot
      → answer ≡ Kept → GivesRound x s s' answer exchanges
  -- out of memory
  No_room : BothFull s.cpu → NeedsMemory s → s' ≡ s
      → answer ≡ Refused x → exchanges ≡ 0 → GivesRound x s s' answer exchanges

-- an operation, its answer, and the exchanges that it made
abbrev pub StepsRound : {D : Type 0} →
    RoundOp D → CpuDepot → CpuDepot → RoundAnswer D → ℕ → Type 0
StepsRound (Give x) s s' answer exchanges = GivesRound x s s' answer exchanges
StepsRound Take s s' answer exchanges = TakesRound s s' answer exchanges

-- operations one after another, from `s` on: their answers, what they leave, and all exchanges
pub data RunsRounds {D : Type 0} (s : CpuDepot) :
    List (RoundOp D) → List (RoundAnswer D) → CpuDepot → ℕ → Type 0 where
  Start : RunsRounds s [] [] s 0
  Then : {ops : List (RoundOp D)} {answers : List (RoundAnswer D)} {mid : CpuDepot}
      {exchanges : ℕ} (op : RoundOp D) (answer : RoundAnswer D) (s' : CpuDepot) (more : ℕ)
      → RunsRounds s ops answers mid exchanges → StepsRound op mid s' answer more
      → RunsRounds s (ops ++ op ∷ []) (answers ++ answer ∷ []) s' (exchanges + more)

-- the rounds that an operation brings
abbrev pub rounds_of_op : {D : Type 0} → RoundOp D → List Tag
rounds_of_op (Give x) = x ∷ []
rounds_of_op Take = []

-- the rounds that come with an answer
abbrev pub rounds_of_answer : {D : Type 0} → RoundAnswer D → List Tag
rounds_of_answer (Taken x) = x ∷ []
rounds_of_answer (Refused x) = x ∷ []
rounds_of_answer Kept = []
rounds_of_answer Nothing = []
