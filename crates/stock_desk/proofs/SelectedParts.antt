-- The parts of the CPU that is selected, which stands at an index.
use Rattle.std.proofs.Common.{◌≡◌, ◌<◌, ◌∙◌, ℕ, sym, subst, ap, get_or, length, List, [], set, position, Some, None}
use Rattle.std.specs.Prelude.{slice_get}
use Rattle.deed_core.specs.Tag.{Tag}
use Rattle.deed_core.proofs.LawProofs.{slice_get_here}
use Rattle.local_parts.specs.States.{LocalState}
use Rattle.local_calls.specs.Runs.{IsLocalOf, IsAccountedWith}
use Rattle.lease_machine.specs.Picture.{NumberedCpu, Picture, is_cpu, IsHeld}
use Rattle.lease_machine.specs.Chunks.{own_or_none}
use Rattle.lease_machine.specs.Held.{parts_in, with_parts}
use Rattle.lease_machine.proofs.LawProofs.{held_is_local}
use Rattle.stock_desk.proofs.SelectedCpu.{found_here, written_caches}
use Rattle.stock_desk.specs.Supplies.{SupplyState, local_of}

-- it, and where it stands, in what a supply is seen as inside
module _ (s now : SupplyState) (view : s ≡ now) (k : ℕ) where
  pub selected_first : position (is_cpu now.selected) now.cpus ≡ Some k → position (is_cpu s.selected) s.cpus ≡ Some k
  selected_first = subst (λ (x : SupplyState). position (is_cpu x.selected) x.cpus ≡ Some k) (sym view)

  pub selected_at : (got cpu : NumberedCpu) → k < length now.cpus → got ≡ get_or s.cpus k got → cpu ≡ got → slice_get s.cpus k ≡ Some cpu
  selected_at got cpu within read same = slice_get_here s.cpus k got (subst (λ (x : SupplyState). k < length x.cpus) (sym view) within) read ∙ ap (λ (x : NumberedCpu). Some x) (sym same)

module _ (d : Picture) (k : ℕ) (c : NumberedCpu) (first : position (is_cpu d.selected) d.cpus ≡ Some k) (at : slice_get d.cpus k ≡ Some c) (held : IsHeld [] d) where
  pub same_parts : parts_in d ≡ local_of d.spaces c.caches
  same_parts = ap (local_of d.spaces) (ap own_or_none (found_here d.selected d.cpus k c first at))

  pub parts_local : IsLocalOf d.tree (local_of d.spaces c.caches)
  parts_local = subst (IsLocalOf d.tree) same_parts (held_is_local d held).0

  pub parts_out : (others : List Tag) × IsAccountedWith (local_of d.spaces c.caches) None others
  parts_out = subst (λ (s : LocalState). (others : List Tag) × IsAccountedWith s None others) same_parts (held_is_local d held).1

  -- the picture, once the parts became those
  abbrev pub after : LocalState → Picture
  after s = record d { spaces = s.spaces; cpus = set d.cpus k (record { number = c.number; caches = s.cpu }) }

  pub is_after : (s : LocalState) → with_parts s d ≡ after s
  is_after s = ap (λ (cs : List NumberedCpu). record d { spaces = s.spaces; cpus = cs }) (sym (written_caches d.selected d.cpus held.cpus.numbers k first c at s.cpu))
