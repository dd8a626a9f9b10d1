-- A CPU that goes offline, by what drains it.
use Rattle.std.proofs.Common.{◌≡◌, ◌≢◌, ℕ, suc, ◌<◌, refl, sym, subst, ◌∙◌, List, [], ◌++◌, length, set, position, Some, None, Result, Ok, Err, OnErr, arith}
use Rattle.std.specs.Prelude.{slice_get}
use Rattle.std.specs.List.{find}
use Rattle.deed_core.specs.Tag.{Tag}
use Rattle.quantum_cache.specs.Drains.{drain_plan}
use Rattle.stock.specs.Accounts.{Accounts}
use Rattle.stock.specs.OwnCaches.{OwnCacheState}
use Rattle.stock.specs.Spaces.{SpaceState, plans_of}
use Rattle.local_parts.specs.Cpus.{cpu_rounds, new_cpu}
use Rattle.local_calls.specs.Runs.{IsLocalOf, RunsTo}
use Rattle.lease_machine.specs.Picture.{NumberedCpu, Picture, is_cpu, IsHeld}
use Rattle.lease_machine.proofs.LawProofs.{offline_is_local, drain_goes_offline}
use Rattle.stock_desk.specs.Operators.{IsOffline}
use Rattle.stock_desk.proofs.NumberedCpus.{found_cpu}
use Rattle.stock_desk.proofs.SelectedCpu.{found_here, renewed_caches, renewed_none}
use Rattle.stock_desk.specs.Supplies.{local_of}

-- a CPU that has an index is found
pub found_there : (n : ℕ) (cs : List NumberedCpu) (k : ℕ) → position (is_cpu n) cs ≡ Some k → find (is_cpu n) cs ≢ None
found_there n cs k first none =
    let (c, at, number) = found_cpu n cs k first in
    let found = found_here n cs k c first at in
    let e : Some c ≡ None = sym found ∙ none in
    cc

-- what holds anyway does after an error
pub on_err : {A E P : Type 0} (r : Result A E) → P → OnErr r P
on_err (Ok a) holds = tt
on_err (Err e) holds = holds

-- one that was never made is offline
pub was_offline : (n : ℕ) (d : Picture) → position (is_cpu n) d.cpus ≡ None → IsHeld [] d → IsOffline n d d
was_offline n d none held = record {
  offline = record { cpus = sym (renewed_none n d.cpus d.spaces none); arenas = record { arenas = refl; slabs = refl }; depots = refl; rest = refl };
  held = held;
  setup = record { tree = refl; owned = refl };
}

module _ (d : Picture) (n k : ℕ) (c : NumberedCpu) (first : position (is_cpu n) d.cpus ≡ Some k) (at : slice_get d.cpus k ≡ Some c) (held : IsHeld [] d) where
  found : find (is_cpu n) d.cpus ≡ Some c
  found = found_here n d.cpus k c first at

  pub off_local : IsLocalOf d.tree (local_of d.spaces c.caches)
  off_local = (offline_is_local d n c held found).0

  pub off_out : (others : List Tag) × Accounts d.spaces (cpu_rounds c.caches ++ others)
  off_out = let (others, out) = (offline_is_local d n c held found).1 in (others, out.accounts)

  pub went_offline : (spaces : List SpaceState)
      → ((turns : ℕ) → length (cpu_rounds c.caches) < turns → (left : List (List OwnCacheState)) × RunsTo d.tree (drain_plan turns d.tree) (local_of d.spaces c.caches) (local_of spaces left) (Ok tt))
      → IsOffline n d (record d { spaces = spaces; cpus = set d.cpus k (record { number = c.number; caches = new_cpu 3 (plans_of d.spaces) }) })
  went_offline spaces drained =
      let turns = suc (length (cpu_rounds c.caches)) in
      let (left, ran) = drained turns (omega arith) in
      let went = drain_goes_offline d n turns c (local_of spaces left) held found ran in
      subst (λ (cs : List NumberedCpu). IsOffline n d (record d { spaces = spaces; cpus = cs })) (sym (renewed_caches n d.cpus held.cpus.numbers k first c at d.spaces))
      (record { offline = went.0; held = went.1; setup = went.2 })
