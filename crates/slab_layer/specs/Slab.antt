-- What a contract sees of a slab, and where its chunks stand.
use Rattle.std.specs.Prelude.{
  ◌≡◌,
  ℕ,
  ◌+◌,
  ◌-◌,
  ◌*◌,
  ◌/◌,
  ◌<◌,
  ◌≤◌,
  count_by,
  Bool,
  true,
  false,
  not,
  List,
  [],
  ◌∷◌,
  ◌++◌,
  Option,
  Some,
  None,
  All,
  Contains,
  length,
  slice_index_or,
  slice_set,
  replicate,
  if◌then◌else◌,
}
use Rattle.std.specs.Option.{option_to_list}
use Rattle.deed_core.specs.Holding.{Holding, piece}
use Rattle.slab_layer.specs.Parts.{piece_or_none}

-- a slab: its span, how far behind the span's base the first chunk stands, the units of a chunk,
-- and chunk by chunk whether it is at home
pub record SlabState : Type 0 where
  pub span : Holding
  pub colour : ℕ
  pub chunk : ℕ
  pub home : List Bool

-- the i-th chunk
abbrev pub chunk_at : SlabState → ℕ → Holding
chunk_at s i = piece s.span.root (s.span.range.base + s.colour + i * s.chunk) s.chunk

-- the units of all chunks
abbrev pub used_units : SlabState → ℕ
used_units s = length s.home * s.chunk

-- the units behind the last chunk
abbrev pub unused_units : SlabState → ℕ
unused_units s = s.span.range.len - (s.colour + used_units s)

-- the units before the first chunk
abbrev pub gap_of : SlabState → Option Holding
gap_of s = piece_or_none s.span.root s.span.range.base s.colour

-- those behind the last one
abbrev pub tail_of : SlabState → Option Holding
tail_of s = piece_or_none s.span.root (s.span.range.base + s.colour + used_units s) (unused_units s)

-- what stands, by f, at the places whose Bool passes; the places count from i
abbrev pub items_where : {X : Type 0} → (Bool → Bool) → (ℕ → X) → ℕ → List Bool → List X
items_where test f i [] = []
items_where test f i (x ∷ xs) =
    if test x then f i ∷ items_where test f (i + 1) xs else items_where test f (i + 1) xs

-- by f, what the chunks at home are
abbrev pub idle_chunks_by : {X : Type 0} → (ℕ → X) → SlabState → List X
idle_chunks_by f s = items_where (λ b. b) f 0 s.home

-- and what those that are out are
abbrev pub chunks_out_by : {X : Type 0} → (ℕ → X) → SlabState → List X
chunks_out_by f s = items_where not f 0 s.home

-- all that lies in a slab: the colour gap, the idle chunks and the tail
abbrev pub deeds_in : SlabState → List Holding
deeds_in s =
    option_to_list (gap_of s) ++ (idle_chunks_by (chunk_at s) s ++ option_to_list (tail_of s))

-- every chunk is at home
abbrev pub IsComplete : SlabState → Type 0
IsComplete s = All (λ b. b ≡ true) s.home

-- every chunk is out
abbrev pub IsAllOut : SlabState → Type 0
IsAllOut s = All (λ b. b ≡ false) s.home

-- a chunk is at home and another is out
abbrev pub IsPartial : SlabState → Type 0
IsPartial s = Contains s.home true × Contains s.home false

-- how many chunks are at home
abbrev pub idle_count : SlabState → ℕ
idle_count s = count_by (λ b. b) s.home

-- the lowest chunk that is at home
pub record IsLowestIdle (j : ℕ) (home : List Bool) : Type 0 where
  pub within : j < length home
  pub idle : slice_index_or home j false ≡ true
  pub lowest : (k : ℕ) → k < j → slice_index_or home k false ≡ false

-- the chunks have units, and lie in the span
pub record IsSlab (s : SlabState) : Type 0 where
  pub some : 0 < s.chunk
  pub room : s.colour + used_units s ≤ s.span.range.len

-- a span as a new slab
abbrev pub new_slab : Holding → ℕ → ℕ → SlabState
new_slab span colour chunk =
    let home : List Bool = replicate (span.range.len / chunk) true in
    record { span = span; colour = colour; chunk = chunk; home = home }

-- the slab with its j-th chunk at home or out
abbrev pub with_chunk : SlabState → ℕ → Bool → SlabState
with_chunk s j b =
    record { span = s.span; colour = s.colour; chunk = s.chunk; home = slice_set s.home j b }

-- the deeds at the places, where the chunks are at home
abbrev pub stored_row : (ℕ → Holding) → ℕ → List Bool → List (Option Holding)
stored_row f i [] = []
stored_row f i (x ∷ xs) = (if x then Some (f i) else None) ∷ stored_row f (i + 1) xs

-- the deeds of a slab are those of its parts
pub record PartsAreStored (s : SlabState) (first : Option Holding) (row : List (Option Holding))
    (last : Option Holding) : Type 0 where
  pub shape : IsSlab s
  pub gap : first ≡ gap_of s
  pub chunks : row ≡ stored_row (chunk_at s) 0 s.home
  pub tail : last ≡ tail_of s

-- so they are, and the chunks at home are counted
pub record IsStored (s : SlabState) (first : Option Holding) (row : List (Option Holding))
    (last : Option Holding) (idle : ℕ) : Type 0 where
  pub parts : PartsAreStored s first row last
  pub counted : idle ≡ idle_count s
