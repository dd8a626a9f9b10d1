-- What operators' lines do to a picture.
use Rattle.std.specs.Prelude.{ℕ, ◌+◌, ◌*◌, ◌-◌, ◌^◌, ◌<◌, ◌≤◌, List, [], length}
use Rattle.arena_tree.specs.declared.limits.TheConstants.{MOST_CACHES}
use Rattle.quantum_cache.specs.declared.reaps.Reaping.{Reaping}
use Rattle.local_calls.specs.Looks.{finds_in_spaces}
use Rattle.lease_proto.specs.declared.operators.OperatorLine.{OperatorLine}
use Rattle.lease_proto.specs.declared.operators.OperatorLine.TheVariants as operator
use Rattle.lease_machine.specs.Picture.{Picture, IsPicture, SameSetup, SetupGrows, IsHeld}
use Rattle.lease_machine.specs.Operators.{GoesOffline, ReapsAll, Performs}
use Rattle.lease_machine.specs.ReapLaws.{ReapsSome}

-- a CPU went offline
pub record IsOffline (n : ℕ) (old new : Picture) : Type 0 where
  pub offline : GoesOffline n old new
  pub held : IsHeld [] new
  pub setup : SameSetup old new

-- one reaping, with at most 2^64 - 1 looks: where none of them was left there may be more to reap,
-- but the looks found almost as much as they were
pub record IsReapedOnce (r : Reaping) (old new : Picture) : Type 0 where
  pub some : ReapsSome r.units old new
  pub all : 0 < r.left → ReapsAll r.units old new
  pub fewer : 2 ^ 64 - 1 + finds_in_spaces new.spaces
      ≤ r.left + finds_in_spaces old.spaces + 2 * MOST_CACHES * length old.tree
  pub held : IsHeld [] new
  pub setup : SameSetup old new

-- so many units were reaped
pub record IsReapedSo (units : ℕ) (old new : Picture) : Type 0 where
  pub reaps : ReapsAll units old new
  pub held : IsHeld [] new
  pub setup : SameSetup old new

-- what holds after each line but a grow
pub record StaysPicture (old new : Picture) : Type 0 where
  pub setup : SameSetup old new
  pub picture : IsPicture new

-- and after a grow
pub record GrowsPicture (old new : Picture) : Type 0 where
  pub setup : SetupGrows old new
  pub picture : IsPicture new

-- what holds after an operator's line
abbrev pub KeepsPicture : OperatorLine → Picture → Picture → Type 0
KeepsPicture (operator.Grow g) old new = GrowsPicture old new
KeepsPicture o old new = StaysPicture old new

-- what the operator asked for was done, and answered so
pub record IsPerformed (o : OperatorLine) (old : Picture) (text : List ℕ) (new : Picture)
    : Type 0 where
  pub performs : Performs o old text new
  pub kept : KeepsPicture o old new
