-- A worker of a running system, what it may reply, and how it tidies.
use Rattle.std.specs.Prelude.{◌≡◌, ◌<◌, ◌⊎◌, ℕ, Bool, true, false, List, Option, IfSome}
use Rattle.std.specs.Prelude.{length}
use Rattle.arena_tree.specs.declared.trees.TreeArena.{TreeArena}
use Rattle.lease_book.specs.Receipts.{ReceiptState}
use Rattle.lease_proto.specs.declared.lines.Line.{Line}
use Rattle.lease_proto.specs.declared.replies.Reply.{Reply}
use Rattle.lease_proto.specs.declared.replies.Reply.TheVariants.{Granted, Released}
use Rattle.lease_tcp.specs.Tidying.{Tidies}
use Rattle.lease_tcp.specs.declared.system_workers.TheConstants.{REAP_LIMIT}
use Rattle.lease_threads.specs.Calling.{RunsLine}
use Rattle.lease_threads.specs.Reaping.{KeepsHand, ReapsSoundly}
use Rattle.shared_book.specs.Replying.{IsAnswerTo, IsAgain}
use Rattle.lease_threads.specs.Retiring.{IsDrained, RetiresSoundly}
use Rattle.lease_threads.specs.Systems.{CpuState}
use Rattle.locked_parts.specs.Kinds.{AreForSame}
use Rattle.locked_parts.specs.declared.gates.NextStep.{NextStep}
use Rattle.quantum_cache.specs.declared.reaps.Reaping.{Reaping}

-- the arenas that its system was set up with, and its CPU
pub record SystemWorkerState : Type 0 where
  pub arenas : List TreeArena
  pub cpu : CpuState

-- it is the CPU that it was: its number, and what its magazines are for
pub record StaysCpu (old new : CpuState) : Type 0 where
  pub number : new.number ≡ old.number
  pub magazines : AreForSame old.caches new.caches

-- a CPU that connections share, and whether it moved units lately
pub record SeatState : Type 0 where
  pub cpu : CpuState
  pub has_moved : Bool

-- the arenas of a system, and how many seats connections share
pub record SharedState : Type 0 where
  pub arenas : List TreeArena
  pub seats : ℕ

-- units go through a CPU where a line is settled by this reply
abbrev pub moves_units : Reply → Bool
moves_units (Granted grant) = true
moves_units (Released id) = true
moves_units _ = false

-- a seat's gate is open: it lets each step come
abbrev pub any_step : NextStep → Type 0
any_step next = Unit {0}

-- the system over these arenas may answer the line so, by a CPU that this changes: with some receipt
-- or none, the line's list of steps was gone through, after the CPU's hand was emptied
abbrev pub IsAnswer : (D : Type 0) → List TreeArena → (old new : CpuState) → Line → Reply → Type 0
IsAnswer D arenas old new line reply = (receipt : Option ReceiptState) × (is_new : Bool)
    × RunsLine D arenas any_step old.number old.hand line new.hand reply receipt is_new
    × IsAnswerTo arenas line reply receipt

-- The system may answer the line so. The arenas and the CPU stay; where the CPU's hand can't be
-- placed the reply is `again`.
abbrev pub MayReply : (D : Type 0) → SystemWorkerState → Line → Reply → SystemWorkerState → Type 0
MayReply D old line reply new = IsAnswer D old.arenas old.cpu new.cpu line reply
    × IfSome new.cpu.hand (λ _. IsAgain reply) × (new.arenas ≡ old.arenas)
    × StaysCpu old.cpu new.cpu

-- the arenas and the CPU stay
abbrev pub Stays : SystemWorkerState → SystemWorkerState → Type 0
Stays old new = (new.arenas ≡ old.arenas) × StaysCpu old.cpu new.cpu

-- the CPU was drained, as far as can be told of a running system
abbrev pub MayDrain : SystemWorkerState → SystemWorkerState → Type 0
MayDrain old new = Stays old new × RetiresSoundly old.arenas old.cpu.hand new.cpu.hand
    × IsDrained old.arenas new.cpu

-- the arena of this number was reaped by the CPU, as far as can be told of a running system; or the
-- CPU's hand can't be placed, and no look was taken
abbrev pub ReapsOrHolds : List TreeArena → ℕ → CpuState → CpuState → Type 0
ReapsOrHolds arenas arena old new = (reaping : Reaping)
    × (KeepsHand old.hand new.hand REAP_LIMIT reaping
    ⊎ ReapsSoundly arenas arena REAP_LIMIT reaping new.hand)

abbrev pub MayReap : SystemWorkerState → ℕ → SystemWorkerState → Type 0
MayReap old arena new = Stays old new
    × (arena < length old.arenas → ReapsOrHolds old.arenas arena old.cpu new.cpu)

-- a seat reaped the arena of this number, with these looks and units
pub record ReapedState : Type 0 where
  pub arena : ℕ
  pub reaping : Reaping

abbrev pub count_of_arenas : SystemWorkerState → ℕ
count_of_arenas w = length w.arenas

-- what stands beside the locks
abbrev pub MayTick : SystemWorkerState → SystemWorkerState → Type 0
MayTick old new = new ≡ old

-- it drained its CPU, reaped each arena, and ticked
abbrev pub MayTidy : SystemWorkerState → SystemWorkerState → Type 0
MayTidy old new = Tidies count_of_arenas MayDrain MayReap MayTick old new

-- The same of a worker that shares its CPUs, of which its arenas are seen: whichever CPU does it.
abbrev pub MayShareReply : (D : Type 0) → List TreeArena → Line → Reply → List TreeArena → Type 0
MayShareReply D old line reply new = (before : CpuState) × (after : CpuState)
    × IsAnswer D old before after line reply × (new ≡ old)
