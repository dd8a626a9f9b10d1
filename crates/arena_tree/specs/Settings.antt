-- What a contract sees of a setup, what is always so of one, what is added to it and why it is
-- refused.
use Rattle.std.specs.Prelude.{◌≡◌, ℕ, ◌<◌, ◌≤◌, ◌==◌, ◌⊎◌, List, [], ◌∷◌, ◌++◌, All, AllPairs}
use Rattle.std.specs.Prelude.{length, slice_get, Some, None}
use Rattle.std.specs.List.{count_by}
use Rattle.deed_core.specs.Extent.{Extent, Overlap}
use Rattle.arena_tree.specs.declared.limits.TheConstants.{MOST_SPANS}
use Rattle.arena_tree.specs.declared.trees.TreeArena.{TreeArena}
use Rattle.arena_tree.specs.declared.setups.OwnedSpan.{OwnedSpan}
use Rattle.arena_tree.specs.declared.settings.NewSpan.{NewSpan}
use Rattle.arena_tree.specs.declared.settings.Setting.{Setting}
use Rattle.arena_tree.specs.declared.settings.Setting.TheVariants.{Root, Child, Span}
use Rattle.arena_tree.specs.declared.setup_faults.SetupFault.{SetupFault}
use Rattle.arena_tree.specs.declared.setup_faults.SetupFault.TheVariants.{NameTaken, TooMany}
use Rattle.arena_tree.specs.declared.setup_faults.SetupFault.TheVariants.{NoArena, ChainTooLong}
use Rattle.arena_tree.specs.declared.setup_faults.SetupFault.TheVariants.{BadQuantum, BadCache}
use Rattle.arena_tree.specs.declared.setup_faults.SetupFault.TheVariants.{BadRange, NoMemory}
use Rattle.arena_tree.specs.Trees.{index_in, IsWholeRange}
use Rattle.arena_tree.specs.Setups.{root_range, CanRoot, CanChild, RefusesRoot, RefusesChild}
use Rattle.arena_tree.specs.Setups.{AddsRoot, AddsChild}

-- the arenas by number, and the spans that they own in order of coming
pub record SetupState : Type 0 where
  pub arenas : List TreeArena
  pub spans : List OwnedSpan

-- how many spans the arena owns
abbrev pub span_count : ℕ → List OwnedSpan → ℕ
span_count id spans = count_by (λ o. o.arena == id) spans

-- the two are spans of one arena that have a unit in common
abbrev pub Clash : OwnedSpan → OwnedSpan → Type 0
Clash a b = (a.arena ≡ b.arena) × Overlap a.range b.range

-- none of the spans is in the way of this one
abbrev pub HasNoClash : List OwnedSpan → OwnedSpan → Type 0
HasNoClash spans o = All (λ a. ¬ Clash a o) spans

-- the arena is a root
pub record IsRoot (arenas : List TreeArena) (id : ℕ) (x : TreeArena) : Type 0 where
  pub here : slice_get arenas id ≡ Some x
  pub root : x.source ≡ None

-- the span is in whole quanta of its arena, which is a root
abbrev pub IsOwned : List TreeArena → OwnedSpan → Type 0
IsOwned arenas o = (x : TreeArena) × IsRoot arenas o.arena x × IsWholeRange x.quantum o.range

-- what is so of every setup; a root comes with a span, and keeps it
pub record IsSetup (s : SetupState) : Type 0 where
  pub owned : All (IsOwned s.arenas) s.spans
  pub apart : AllPairs (λ a b. ¬ Clash a b) s.spans
  pub few : (id : ℕ) → span_count id s.spans ≤ MOST_SPANS
  pub rooted : (id : ℕ) (x : TreeArena) → IsRoot s.arenas id x → 0 < span_count id s.spans

-- the range that a span asks for
abbrev pub new_range : NewSpan → Extent
new_range n = record { base = n.base; len = n.len }

-- the root that a span is asked for, which may own one more
pub record HasSpanRoom (s : SetupState) (n : NewSpan) (id : ℕ) (x : TreeArena) : Type 0 where
  pub finds : index_in n.name s.arenas ≡ Some id
  pub root : IsRoot s.arenas id x
  pub few : span_count id s.spans < MOST_SPANS

-- the range can be a span of the arena
abbrev pub CanSpan : SetupState → ℕ → TreeArena → Extent → Type 0
CanSpan s id x e = IsWholeRange x.quantum e
    × HasNoClash s.spans (record { arena = id; range = e })

-- the arena of this name imports its spans
abbrev pub IsImporter : SetupState → List ℕ → Type 0
IsImporter s name = (id : ℕ) × (x : TreeArena) × (source : ℕ) × (index_in name s.arenas ≡ Some id)
    × (slice_get s.arenas id ≡ Some x) × (x.source ≡ Some source)

-- nothing speaks against the span, and this is what the root comes to own
pub record BecomesSpan (s : SetupState) (n : NewSpan) (o : OwnedSpan) : Type 0 where
  pub arena : TreeArena
  pub room : HasSpanRoom s n o.arena arena
  pub can : CanSpan s o.arena arena (new_range n)
  pub range : o.range ≡ new_range n

-- why a span is refused; memory is asked for only where nothing speaks against it
abbrev pub RefusesNewSpan : SetupState → NewSpan → SetupFault → Type 0
RefusesNewSpan s n NoArena = (index_in n.name s.arenas ≡ None) ⊎ IsImporter s n.name
RefusesNewSpan s n TooMany = (id : ℕ) × (x : TreeArena) × (index_in n.name s.arenas ≡ Some id)
    × IsRoot s.arenas id x × (MOST_SPANS ≤ span_count id s.spans)
RefusesNewSpan s n BadRange = (id : ℕ) × (x : TreeArena) × HasSpanRoom s n id x
    × (¬ CanSpan s id x (new_range n))
RefusesNewSpan s n NoMemory = (o : OwnedSpan) × BecomesSpan s n o
RefusesNewSpan s n NameTaken = ⊥
RefusesNewSpan s n ChainTooLong = ⊥
RefusesNewSpan s n BadQuantum = ⊥
RefusesNewSpan s n BadCache = ⊥

-- the span is the last
pub record AddsSpan (n : NewSpan) (old new : SetupState) : Type 0 where
  pub id : ℕ
  pub arena : TreeArena
  pub room : HasSpanRoom old n id arena
  pub can : CanSpan old id arena (new_range n)
  pub arenas : new.arenas ≡ old.arenas
  pub spans : new.spans ≡ old.spans ++ record { arena = id; range = new_range n } ∷ []

-- what is asked for is there; a root comes with a span of its own
abbrev pub TakesSetting : SetupState → Setting → SetupState → Type 0
TakesSetting old (Root r) new = AddsRoot r old.arenas new.arenas × (new.spans
    ≡ old.spans ++ record { arena = length old.arenas; range = root_range r } ∷ [])
TakesSetting old (Child c) new = AddsChild c old.arenas new.arenas × (new.spans ≡ old.spans)
TakesSetting old (Span n) new = AddsSpan n old new

-- nothing speaks against what is asked for
abbrev pub CanSet : SetupState → Setting → Type 0
CanSet s (Root r) = CanRoot s.arenas r
CanSet s (Child c) = CanChild s.arenas c
CanSet s (Span n) = (o : OwnedSpan) × BecomesSpan s n o

-- it isn't there, and why
abbrev pub RefusesSetting : SetupState → Setting → SetupFault → Type 0
RefusesSetting s (Root r) fault = RefusesRoot s.arenas r fault
RefusesSetting s (Child c) fault = RefusesChild s.arenas c fault
RefusesSetting s (Span n) fault = RefusesNewSpan s n fault
