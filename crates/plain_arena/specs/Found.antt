-- What a scan of the free ranges has found.
use Rattle.std.specs.Prelude.{◌≡◌, ℕ, ◌+◌, ◌<◌, ◌≤◌, List, HoldsAt, Contains, length, Option, Some}
use Rattle.std.specs.Prelude.{None}
use Rattle.std.specs.List.{AllWithin}
use Rattle.deed_core.specs.Extent.{end_of}
use Rattle.deed_core.specs.Holding.{Holding}
use Rattle.deed_core.specs.declared.requests.Request.{Request}
use Rattle.plain_arena.specs.declared.choices.Found.{Found}
use Rattle.plain_arena.specs.declared.power_lists.Listed.{Listed}
use Rattle.plain_arena.specs.declared.whole_spans.Whole.{Whole}
use Rattle.tag_arena.specs.ArenaState.{OnQuantum}
use Rattle.tag_arena.specs.Place.{ServesIn}
use Rattle.tag_arena.specs.Choice.{ComesFirst, OnList, ListServes}

-- f is the best of the first n ranges, and none of these serves where there is none
abbrev pub BestSoFar : ℕ → Request → List Holding → ℕ → Option Found → Type 0
BestSoFar quantum q free n None = AllWithin (λ r. (b : ℕ) → ServesIn quantum q r b → ⊥) free 0 n
BestSoFar quantum q free n (Some f) =
    (f.at < n) × HoldsAt (λ r. r ≡ f.range) free f.at × ServesIn quantum q f.range f.base
    × AllWithin (λ r. (b : ℕ) → ServesIn quantum q r b → ComesFirst f.range f.base r b) free 0 n

-- f has the least address from start on that serves in the first n ranges
abbrev pub EarliestSoFar : ℕ → Request → ℕ → List Holding → ℕ → Option Found → Type 0
EarliestSoFar quantum q start free n None =
    AllWithin (λ r. (b : ℕ) → ServesIn quantum q r b → start ≤ b → ⊥) free 0 n
EarliestSoFar quantum q start free n (Some f) =
    (f.at < n) × HoldsAt (λ r. r ≡ f.range) free f.at × ServesIn quantum q f.range f.base
    × (start ≤ f.base)
    × AllWithin (λ r. (b : ℕ) → ServesIn quantum q r b → start ≤ b → f.base ≤ b) free 0 n

-- f is the newest of the first n ranges on the least list whose every member serves
abbrev pub NewestSoFar : ℕ → ℕ → List Holding → ℕ → Option Listed → Type 0
NewestSoFar quantum len free n None =
    AllWithin (λ r. (i : ℕ) → OnList quantum r i → ListServes quantum len i → ⊥) free 0 n
NewestSoFar quantum len free n (Some f) =
    (f.at < n) × HoldsAt (λ r. r ≡ f.range) free f.at × OnList quantum f.range f.list
    × ListServes quantum len f.list
    × AllWithin (λ r. (i : ℕ) → OnList quantum r i → ListServes quantum len i → f.list ≤ i) free 0 n
    × AllWithin (λ r. OnList quantum r f.list → ⊥) free (f.at + 1) n

-- f has an index in the list of free ranges, and the range there serves at its base
abbrev pub IsPlaced : ℕ → Request → List Holding → Found → Type 0
IsPlaced quantum q free f = (f.at < length free) × HoldsAt (λ r. r ≡ f.range) free f.at
    × ServesIn quantum q f.range f.base

-- f has an index in the list of free ranges, and the `len` units from its base on are whole quanta
-- of the range there
pub record IsCuttable (quantum : ℕ) (free : List Holding) (f : Found) (len : ℕ) : Type 0 where
  pub within : f.at < length free
  pub here : HoldsAt (λ r. r ≡ f.range) free f.at
  pub some : 0 < len
  pub from : f.range.range.base ≤ f.base
  pub to : f.base + len ≤ end_of f.range.range
  pub grid : OnQuantum quantum (record { base = f.base; len = len })

abbrev pub base_of : Option Found → Option ℕ
base_of None = None
base_of (Some f) = Some f.base

-- w is the lowest of the first n spans that stand among the free ranges, and where it stands there
abbrev pub LowestSoFar : List Holding → List Holding → ℕ → Option Whole → Type 0
LowestSoFar owned free n None = AllWithin (λ s. Contains free s → ⊥) owned 0 n
LowestSoFar owned free n (Some w) =
    (w.at < n) × HoldsAt (λ s. s ≡ w.span) owned w.at × (w.free_at < length free)
    × HoldsAt (λ r. r ≡ w.span) free w.free_at
    × AllWithin (λ s. Contains free s → w.span.range.base ≤ s.range.base) owned 0 n
