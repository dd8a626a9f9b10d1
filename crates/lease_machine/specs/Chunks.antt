-- How chunks come from an arena's quantum caches, and go back.
use Rattle.std.specs.Prelude.{◌≡◌, ◌⊎◌, ℕ, ◌+◌, List, [], Option, Some, None, Ok}
use Rattle.std.specs.List.{find}
use Rattle.deed_core.specs.Tag.{Tag}
use Rattle.deed_core.specs.declared.segments.Route.{Route}
use Rattle.deed_core.specs.declared.segments.Route.TheVariants.{Direct, Cached}
use Rattle.arena_tree.specs.declared.levels.Level.{Level}
use Rattle.magazine_layer.specs.Magazines.{CpuCacheState}
use Rattle.magazine_layer.specs.Depots.{DepotState}
use Rattle.magazine_layer.specs.Rounds.{StepsRound, cpu_depot}
use Rattle.magazine_layer.specs.declared.rounds.RoundOp.{RoundOp}
use Rattle.magazine_layer.specs.declared.rounds.RoundOp.TheVariants.{Give, Take}
use Rattle.magazine_layer.specs.declared.rounds.RoundAnswer.{RoundAnswer}
use Rattle.magazine_layer.specs.declared.rounds.RoundAnswer.TheVariants.{Kept, Refused}
use Rattle.magazine_layer.specs.declared.rounds.RoundAnswer.TheVariants.{Taken, Nothing}
use Rattle.slab_layer.specs.Cache.{idle_chunks}
use Rattle.slab_layer.specs.Calls.{TakeOf, PutOf, AddOf}
use Rattle.stock.specs.Spaces.{SpaceState, QuantumCacheState, IsCacheAt}
use Rattle.stock.specs.OwnCaches.{OwnCacheState, IsAtIndexesOf}
use Rattle.stock.specs.Steps.{OnSlab, OnDepot}
use Rattle.local_parts.specs.Cpus.{OnOwn}
use Rattle.lease_machine.specs.Picture.{NumberedCpu, Picture, is_cpu}
use Rattle.lease_machine.specs.Moves.{Climbs, Returns, OtherCpusStay, SameNames}

abbrev pub own_or_none : Option NumberedCpu → List (List OwnCacheState)
own_or_none None = []
own_or_none (Some c) = c.caches

-- the caches of the selected CPU
abbrev pub selected_caches : Picture → List (List OwnCacheState)
selected_caches d = own_or_none (find (is_cpu d.selected) d.cpus)

-- of all caches of CPUs at most one changed, and that so: the selected CPU's at the index j of
-- those of the arena at the index k
pub record OnSelected (k j : ℕ) (P : CpuCacheState → CpuCacheState → Type 0) (old new : Picture)
    : Type 0 where
  pub others : OtherCpusStay old new
  pub own : OnOwn k j (λ o p. IsAtIndexesOf o p × P o.cpu p.cpu) (selected_caches old)
      (selected_caches new)

-- a CPU's cache answered the operation so over a depot: both before, and both then
abbrev pub AnswersRound : RoundOp Tag → RoundAnswer Tag → DepotState → DepotState
    → CpuCacheState → CpuCacheState → Type 0
AnswersRound op answer d d' c c' =
    (exchanges : ℕ) × StepsRound op (cpu_depot c d) (cpu_depot c' d') answer exchanges

-- the selected CPU's cache at those indexes answered so over the depot of its quantum cache, which
-- is c; nothing else changed
abbrev pub MovesRound : ℕ → ℕ → QuantumCacheState → RoundOp Tag → RoundAnswer Tag
    → Picture → Picture → Type 0
MovesRound k j c op answer old new = (d : DepotState)
    × OnSelected k j (AnswersRound op answer c.depot d) old new
    × OnDepot k j (λ a b. b ≡ d) old.spaces new.spaces

-- it did and left the depot as it was; no other cache of a CPU changed
abbrev pub MovesNone : ℕ → ℕ → QuantumCacheState → RoundOp Tag → RoundAnswer Tag
    → Picture → Picture → Type 0
MovesNone k j c op answer old new =
    OnSelected k j (AnswersRound op answer c.depot c.depot) old new

-- the chunk was a round of the CPU's or of the depot's
abbrev pub WasRound : ℕ → ℕ → QuantumCacheState → Tag → Picture → Picture → Type 0
WasRound k j c t old new = MovesRound k j c Take (Taken t) old new

-- there is no round, and it was an idle one of the slabs
abbrev pub WasIdle : ℕ → ℕ → QuantumCacheState → Tag → Picture → Picture → Type 0
WasIdle k j c t old new = MovesNone k j c Take Nothing old new
    × OnSlab k j (λ a b. TakeOf a (Some t) b) old.spaces new.spaces

-- there is no round, and no idle chunk
abbrev pub LacksChunks : ℕ → ℕ → QuantumCacheState → Picture → Picture → Type 0
LacksChunks k j c old new = MovesNone k j c Take Nothing old new × (idle_chunks c.slab ≡ [])

-- it is the first of a new slab of so many units, whose span was climbed for
abbrev pub IsOfNewSlab : List Level → ℕ → ℕ → ℕ → Tag → List SpaceState → List SpaceState → Type 0
IsOfNewSlab chain units k j t old new = (span : Tag) × (mid : List SpaceState)
    × Climbs chain units span old mid × OnSlab k j (λ a b. AddOf a span (Ok t) b) mid new

-- where a chunk goes back to: to the rounds, or else home into its slab
abbrev pub BecomesRound : ℕ → ℕ → QuantumCacheState → Tag → Picture → Picture → Type 0
BecomesRound k j c t old new = MovesRound k j c (Give t) Kept old new

abbrev pub ComesHome : ℕ → ℕ → QuantumCacheState → Tag → Picture → Picture → Type 0
ComesHome k j c t old new = MovesNone k j c (Give t) (Refused t) old new
    × OnSlab k j (λ a b. PutOf a t (Ok tt) b) old.spaces new.spaces

-- the segment went back, by its route: what was carved to its arena, a chunk to the cache that it
-- is of; and nothing else changed
abbrev pub GoesBackBy : Route → Tag → Picture → Picture → Type 0
GoesBackBy Direct t old new = Returns new.spaces t old.spaces × (new.cpus ≡ old.cpus)
GoesBackBy (Cached number) t old new = (j : ℕ) × (c : QuantumCacheState) × (number ≡ j + 1)
    × IsCacheAt old.spaces t.arena j c
    × (BecomesRound t.arena j c t old new ⊎ ComesHome t.arena j c t old new)

abbrev pub GoesBack : Tag → Picture → Picture → Type 0
GoesBack t old new = SameNames old new × GoesBackBy t.route t old new
