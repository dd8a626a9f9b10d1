-- What a reaping over one thread's parts comes to for a picture.
use Rattle.std.specs.Prelude.{◌≡◌, ℕ, ◌+◌, ◌*◌, ◌^◌, ◌<◌, ◌≤◌, List, [], ◌++◌, Ok, length, map}
use Rattle.deed_core.specs.Tag.{Tag}
use Rattle.arena_tree.specs.declared.limits.TheConstants.{MOST_CACHES}
use Rattle.quantum_cache.specs.declared.reaps.Reaping.{Reaping}
use Rattle.quantum_cache.specs.Reaps.{reap_plan}
use Rattle.stock.specs.Spaces.{SpaceState}
use Rattle.local_parts.specs.States.{LocalState}
use Rattle.local_calls.specs.Looks.{finds_in_spaces}
use Rattle.local_calls.specs.Runs.{RunsTo}
use Rattle.lease_machine.specs.Picture.{Picture, SameSetup, IsHeld}
use Rattle.lease_machine.specs.Moves.{ReturnAll, arenas_with}
use Rattle.lease_machine.specs.Operators.{PartsAlone, ReapsAll, cached_units, depots_after_reap}
use Rattle.lease_machine.specs.Operators.{outlines_after_reap, spans_to_go}
use Rattle.lease_machine.specs.Held.{parts_in, with_parts}

-- What a reaping comes to that may have been broken off: so many units of whole slabs went, the
-- first of those that go. Of depots and slabs it leaves what is left when all is reaped.
pub record ReapsSome (units : ℕ) (old new : Picture) : Type 0 where
  pub parts : PartsAlone old new
  pub units_are : cached_units old ≡ cached_units new + units
  pub depots : map depots_after_reap new.spaces ≡ map depots_after_reap old.spaces
  pub slabs : map outlines_after_reap new.spaces ≡ map outlines_after_reap old.spaces
  pub went : List Tag
  pub first : spans_to_go old.spaces ≡ went ++ spans_to_go new.spaces
  pub returns : (others : List SpaceState)
      → ReturnAll went (arenas_with old.spaces others) (arenas_with new.spaces others)

-- A reaping that ended, whatever its limit. Where looks are left, it left nothing. Where none is,
-- it found almost as much as it might look for, and another may begin where it ended.
pub record ReapedTo (limit : ℕ) (d : Picture) (r : Reaping) (s : LocalState) : Type 0 where
  pub some : ReapsSome r.units d (with_parts s d)
  pub all : 0 < r.left → ReapsAll r.units d (with_parts s d)
  pub held : IsHeld [] (with_parts s d)
  pub setup : SameSetup d (with_parts s d)
  pub parts : s ≡ parts_in (with_parts s d)
  pub fewer : limit + finds_in_spaces s.spaces
      ≤ r.left + finds_in_spaces d.spaces + 2 * MOST_CACHES * length d.tree

abbrev pub ReapReaps : Type 0
ReapReaps = (d : Picture) (limit : ℕ) (s : LocalState) (r : Reaping) → IsHeld [] d
    → RunsTo d.tree (reap_plan d.tree limit) (parts_in d) s (Ok r) → ReapedTo limit d r s

-- none, and one reaping after another
abbrev pub ReapsNone : Type 0
ReapsNone = (d : Picture) → ReapsSome 0 d d

abbrev pub ReapingsAdd : Type 0
ReapingsAdd = (m n : ℕ) (d e f : Picture) → ReapsSome m d e
    → (ReapsSome n e f → ReapsSome (m + n) d f) × (ReapsAll n e f → ReapsAll (m + n) d f)

-- the units in caches are those of arenas, each of which has at most 2^62
abbrev pub CachedUnitsFit : Type 0
CachedUnitsFit = (d : Picture) → IsHeld [] d → cached_units d ≤ 2 ^ 62 * length d.tree
