-- When a request is refused since nothing fits.
use Rattle.std.specs.Prelude.{◌≡◌, ℕ, Bool, true, false, List, [], ◌∷◌, Some, Err}
use Rattle.deed_core.specs.declared.requests.Request.{Request}
use Rattle.lease_terms.specs.declared.refusals.Refusal.TheVariants.{NoFit}
use Rattle.arena_tree.specs.Events.{Carve}
use Rattle.arena_tree.specs.Told.{AnsweredEvent}
use Rattle.arena_tree.specs.Trees.{index_in}
use Rattle.arena_tree.specs.declared.part_faults.PartFault.TheVariants as asking
use Rattle.arena_tree.specs.declared.trees.TreeArena.{TreeArena}
use Rattle.tag_arena.specs.declared.faults.ArenaFault.TheVariants as arena_fault
use Rattle.quantum_cache.specs.Caches.{chain_in}
use Rattle.quantum_cache.specs.Told.{NoneFitted}
use Rattle.lease_proto.specs.Requests.{demand_of}
use Rattle.lease_proto.specs.declared.lines.Op.{Op}
use Rattle.lease_proto.specs.declared.lines.Op.TheVariants as ops
use Rattle.lease_call.specs.Answered.{AnsweredStep, OfPart, OfBook}
use Rattle.lease_call.specs.Calls.{BookCall, Look, Settle, Refuse, Release, Hello, Sweep}
use Rattle.lease_call.specs.Leasing.{is_plain}

-- what the parts answered, the last first
abbrev pub of_parts : {D : Type 0} → List (AnsweredStep D) → List AnsweredEvent
of_parts [] = []
of_parts (OfPart a ∷ told) = a ∷ of_parts told
of_parts (OfBook k a ∷ told) = of_parts told

-- each call of the book was asked only after such answers of the parts
abbrev pub AskedAfter : {D : Type 0} → (BookCall → List AnsweredEvent → Type 0)
    → List (AnsweredStep D) → Type 0
AskedAfter post [] = Unit {0}
AskedAfter post (OfPart a ∷ told) = AskedAfter post told
AskedAfter post (OfBook k a ∷ told) = post k (of_parts told) × AskedAfter post told

-- the last that was asked is this carve, and nothing fitted
abbrev pub NotCarved : ℕ → Request → List AnsweredEvent → Type 0
NotCarved arena q told = (before : List AnsweredEvent) × (told
    ≡ record { event = Carve arena q; answer = Err (asking.Refused arena_fault.NoFit) } ∷ before)

-- each carve of the last climb found none: where the request is unconstrained, that of the arena,
-- and of each source up its chain for what would be imported; else the one carve
abbrev pub LastFoundNone : Bool → List TreeArena → ℕ → Request → List AnsweredEvent → Type 0
LastFoundNone true arenas arena q told = NoneFitted (chain_in arenas arena) q.size told
LastFoundNone false arenas arena q told = NotCarved arena q told

-- for a lease, in the arena that it names; a release never comes to that
abbrev pub NoneWasFound : List TreeArena → Op → List AnsweredEvent → Type 0
NoneWasFound arenas (ops.Lease l) told = (arena : ℕ) × (index_in l.arena arenas ≡ Some arena)
    × LastFoundNone (is_plain (demand_of l)) arenas arena (demand_of l) told
NoneWasFound arenas (ops.Release l) told = ⊥

-- where the book is asked to refuse the request for NoFit, nothing fitted
abbrev pub NoFitAfter : List TreeArena → Op → BookCall → List AnsweredEvent → Type 0
NoFitAfter arenas op (Look id) told = Unit {0}
NoFitAfter arenas op (Settle id given terms) told = Unit {0}
NoFitAfter arenas op (Refuse id why) told = why ≡ NoFit → NoneWasFound arenas op told
NoFitAfter arenas op (Release id arena base) told = Unit {0}
NoFitAfter arenas op (Hello client incarnation asked) told = Unit {0}
NoFitAfter arenas op (Sweep client) told = Unit {0}
