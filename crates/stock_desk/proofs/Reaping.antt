-- Reapings over the parts of the selected CPU, one after another.
use Rattle.std.proofs.Common.{◌≡◌, ℕ, ◌+◌, ◌-◌, ◌^◌, ◌<◌, ◌≤◌, refl, sym, subst, ◌∙◌, [], length, set, position, Some, Ok, arith}
use Rattle.std.specs.Prelude.{slice_get}
use Rattle.quantum_cache.specs.declared.reaps.Reaping.{Reaping}
use Rattle.quantum_cache.specs.Reaps.{reap_plan}
use Rattle.local_parts.specs.States.{LocalState}
use Rattle.local_calls.specs.Runs.{RunsTo}
use Rattle.lease_machine.specs.Picture.{NumberedCpu, Picture, SameSetup, is_cpu, IsHeld}
use Rattle.lease_machine.specs.ReapLaws.{ReapsSome}
use Rattle.lease_machine.proofs.LawProofs.{reap_reaps, reaps_none, reapings_add, cached_units_fit}
use Rattle.arena_tree.specs.declared.limits.TheConstants.{MOST_ARENAS}
use Rattle.stock_desk.specs.Operators.{IsReapedOnce, IsReapedSo}
use Rattle.stock_desk.proofs.SelectedParts.{is_after, same_parts}
use Rattle.stock_desk.specs.Supplies.{local_of}

pub reaped_so : (d : Picture) (k : ℕ) (c : NumberedCpu) → position (is_cpu d.selected) d.cpus ≡ Some k → slice_get d.cpus k ≡ Some c → IsHeld [] d → (s : LocalState) (r : Reaping) → RunsTo d.tree (reap_plan d.tree (2 ^ 64 - 1)) (local_of d.spaces c.caches) s (Ok r)
    → IsReapedOnce r d (record d { spaces = s.spaces; cpus = set d.cpus k (record { number = c.number; caches = s.cpu }) })
reaped_so d k c first at held s r ran =
    let was = reap_reaps d (2 ^ 64 - 1) s r held (subst (λ (p : LocalState). RunsTo d.tree (reap_plan d.tree (2 ^ 64 - 1)) p s (Ok r)) (sym (same_parts d k c first at held)) ran) in
    subst (IsReapedOnce r d) (is_after d k c first at held s)
    (record { some = was.some; all = was.all; fewer = was.fewer; held = was.held; setup = was.setup })

-- what some reapings came to
pub record IsReapedSoFar (units : ℕ) (old new : Picture) : Type 0 where
  pub some : ReapsSome units old new
  pub held : IsHeld [] new
  pub setup : SameSetup old new

pub none_so_far : (d : Picture) → IsHeld [] d → IsReapedSoFar 0 d d
none_so_far d held = record { some = reaps_none d; held = held; setup = record { tree = refl; owned = refl } }

-- one that is reaped once more
module _ (d e f : Picture) (units : ℕ) (r : Reaping) (so : IsReapedSoFar units d e) (once : IsReapedOnce r e f) where
  both : ReapsSome (units + r.units) d f
  both = (reapings_add units r.units d e f so.some).0 once.some

  same : SameSetup d f
  same = record { tree = once.setup.tree ∙ so.setup.tree; owned = once.setup.owned ∙ so.setup.owned }

  pub once_more : IsReapedSoFar (units + r.units) d f
  once_more = record { some = both; held = once.held; setup = same }

  pub units_fit : IsHeld [] d → units + r.units < 2 ^ 128
  units_fit held =
      let few : length d.tree ≤ MOST_ARENAS = held.tree.few in
      omega (arith, both.units_are, cached_units_fit d held, few)

  pub all_reaped : 0 < r.left → IsReapedSo (units + r.units) d f
  all_reaped left = record { reaps = (reapings_add units r.units d e f so.some).1 (once.all left); held = once.held; setup = same }
