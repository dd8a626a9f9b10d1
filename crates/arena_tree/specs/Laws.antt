-- Laws of setups; and of the lists of steps of climbs, over all chains: what they leave in the
-- hand, how many locks they take, what they give, and what each end tells of the way.
use Rattle.std.specs.Prelude.{◌≡◌, ℕ, List, [], ◌∷◌, Some, None, length, slice_get, IfOk}
use Rattle.deed_core.specs.Tag.{Tag}
use Rattle.arena_tree.specs.Plans.{Within, Handles, Gives}
use Rattle.arena_tree.specs.Climbs.{ClimbEnd, ReturnEnd, climb_plan, return_plan, climb_left}
use Rattle.arena_tree.specs.Climbs.{return_left, climb_most, IsGrantOf}
use Rattle.arena_tree.specs.Told.{Tells, ClimbTold, ReturnTold, NoneFits, OnlyNoFit, no_fits}
use Rattle.arena_tree.specs.Settings.{SetupState, RefusesSetting}
use Rattle.arena_tree.specs.declared.levels.Level.{Level}
use Rattle.arena_tree.specs.declared.settings.Setting.{Setting}
use Rattle.arena_tree.specs.declared.setup_faults.SetupFault.{SetupFault}
use Rattle.arena_tree.specs.Chains.{Node, IsChain, first_id, quantum_in, source_of}
use Rattle.arena_tree.specs.Trees.{IsTree, index_in, nodes_of}
use Rattle.arena_tree.specs.declared.trees.TreeArena.{TreeArena}

-- A climb begins with an empty hand. It ends with a segment that it gives, with an empty hand, or
-- with the one segment that a part refused or that wasn't placed any more: all else that it carved
-- it has freed or handed on.
abbrev pub ClimbHandles : Type 0
ClimbHandles = (chain : List Level) (n : ℕ) → Handles climb_left (climb_plan chain n) None

-- A hand back begins with its segment in the hand, and ends with an empty hand, or with the segment
-- that wasn't placed.
abbrev pub ReturnHandles : Type 0
ReturnHandles = (chain : List Level) (t : Tag) → Handles return_left (return_plan chain t) (Some t)

-- In a chain of d arenas a climb takes at most 2 d - 1 locks where it gives a segment, d where
-- nothing fits, and else 3 d - 2.
abbrev pub ClimbIsShort : Type 0
ClimbIsShort = (chain : List Level) (n : ℕ)
    → Within (climb_most (length chain)) (climb_plan chain n) 0

-- A hand back takes at most d locks.
abbrev pub ReturnIsShort : Type 0
ReturnIsShort = (chain : List Level) (t : Tag)
    → Within (λ (r : ReturnEnd). length chain) (return_plan chain t) 0

-- What a climb gives is a segment of the chain's first arena that fits the request.
abbrev pub ClimbGives : Type 0
ClimbGives = (nodes : List Node) (chain : List Level) (n : ℕ)
    → Gives nodes (λ (r : ClimbEnd). IfOk r (IsGrantOf nodes chain n)) (climb_plan chain n)

-- A climb in a chain of the tree tells a bad request for 0 units alone. Where it ends with NoFit it
-- has asked each arena of the chain to carve, in turn, and nothing else. It is out of memory only
-- where a carve or an import was, after which nothing was done but to free what it had carved. It
-- ends with a segment in the hand that isn't its grant only where a part has just refused that, or
-- was just stopped.
abbrev pub ClimbTells : Type 0
ClimbTells = (nodes : List Node) (chain : List Level) (n : ℕ) → IsChain nodes chain
    → Tells nodes (ClimbTold nodes chain n) (climb_plan chain n) []

-- A hand back along the chain of the segment's arena is stuck only where a part has just refused
-- the segment: the end of the chain is never reached. It is stopped only where a part just was, and
-- ends well only where nothing but frees was asked and the last made no span whole.
abbrev pub ReturnTells : Type 0
ReturnTells = (nodes : List Node) (chain : List Level) (t : Tag) → IsChain nodes chain
    → first_id chain ≡ Some t.arena → Tells nodes ReturnTold (return_plan chain t) []

-- So NoFit tells that each arena of the chain was asked and had no room, the first for what the
-- climb was to give; and as nothing else was asked, no unit has moved.
abbrev pub NoFitIsTold : Type 0
NoFitIsTold = (chain : List Level) (n : ℕ)
    → NoneFits chain n (no_fits chain n) × OnlyNoFit (no_fits chain n)

-- What is asked for is refused for one reason: the first that is so. Memory is asked for only where
-- there is none.
abbrev pub OneRefusal : Type 0
OneRefusal = (s : SetupState) (setting : Setting) (f g : SetupFault)
    → RefusesSetting s setting f → RefusesSetting s setting g → f ≡ g

-- By its number a node is found with its quantum and its source,
abbrev pub NodeIsRead : Type 0
NodeIsRead = (nodes : List Node) (id : ℕ) (n : Node) → slice_get nodes id ≡ Some n
    → (quantum_in nodes id ≡ n.quantum) × (source_of nodes id ≡ n.source)

-- and so is an arena,
abbrev pub ArenaIsRead : Type 0
ArenaIsRead = (arenas : List TreeArena) (id : ℕ) (x : TreeArena) → slice_get arenas id ≡ Some x
    → (quantum_in (nodes_of arenas) id ≡ x.quantum) × (source_of (nodes_of arenas) id ≡ x.source)

-- and the first of a chain, whose source is the next.
abbrev pub ChainIsRead : Type 0
ChainIsRead = (nodes : List Node) (l : Level) (up : List Level) → IsChain nodes (l ∷ up)
    → (quantum_in nodes l.id ≡ l.quantum) × (source_of nodes l.id ≡ first_id up)

-- An arena of a tree is found by its name.
abbrev pub OwnName : Type 0
OwnName = (arenas : List TreeArena) (id : ℕ) (x : TreeArena) → IsTree arenas
    → slice_get arenas id ≡ Some x → index_in x.name arenas ≡ Some id
