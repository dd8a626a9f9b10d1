-- What stands beside an allocated range, and an index whose cells are told.
use Rattle.std.proofs.Common.{◌≡◌, ◌≢◌, ℕ, ◌-◌, subst, sym, ◌∙◌, All, Some, arith}
use Rattle.std.specs.Ordering.{nat_cmp}
use Rattle.std.specs.FinMap as finmap
use Rattle.std.specs.FinMap.{FinMap}
use Rattle.deed_core.specs.Extent.{Extent, end_of}
use Rattle.deed_core.specs.Holding.{Holding}
use Rattle.tag_arena.specs.ArenaState.{ArenaState, IsDivided}
use Rattle.tag_arena.specs.FreeRanges.{FreeIndexState, IsBacked}
use Rattle.tag_arena.specs.Neighbors.{IsKnownBeside}
use Rattle.tag_arena.specs.declared.cells.Beside.{Beside}
use Rattle.tag_arena.specs.declared.cells.Side.TheVariants.{Allocated}
use Rattle.tag_arena.specs.declared.policies.Policy.{Policy}
use Rattle.tag_arena.proofs.Members.{All-from_members}

-- what contracts see is as before
pub backed_told : (policy : Policy) (old new : FreeIndexState) (m n : FinMap nat_cmp Holding) → new ≡ old → n ≡ m → IsBacked policy old (finmap.len m) → IsBacked policy new (finmap.len n)
backed_told policy old new m n free tags b =
    subst (λ (v : FreeIndexState). IsBacked policy v (finmap.len n)) (sym free) (subst (λ (x : FinMap nat_cmp Holding). IsBacked policy old (finmap.len x)) (sym tags) b)

module _ (a : ArenaState) (sound : IsDivided a) where
  -- where an allocated range ends at a base, no free one does
  none_ends : (base b : ℕ) (h : Holding) → finmap.get a.allocated b ≡ Some h → end_of h.range ≡ base → All (λ r. end_of r.range ≢ base) a.free
  none_ends base b h at ends =
      All-from_members (λ r. end_of r.range ≢ base) a.free
      (λ r in-r is.
      let run = (sound.whole.runs r in-r).run in
      let tag = sound.whole.tags_inside b h at in
      let long = tag.1 in
      let some = run.some in
      run.free (base - 1) (omega (arith, is, some), omega (arith, is, some)) (b, h, at, (omega (arith, ends, long), omega (arith, ends, long))))

  -- where one begins at an end, no free one does
  none_begins : (end : ℕ) (h : Holding) → finmap.get a.allocated end ≡ Some h → All (λ r. r.range.base ≢ end) a.free
  none_begins end h at =
      All-from_members (λ r. r.range.base ≢ end) a.free
      (λ r in-r is.
      let run = (sound.whole.runs r in-r).run in
      let tag = sound.whole.tags_inside end h at in
      let from = tag.0 in
      let long = tag.1 in
      let some = run.some in
      run.free end (omega (arith, is, some), omega (arith, is, some)) (end, h, at, (omega (arith, from, long), omega (arith, from, long))))

  -- what the tags know of a range
  pub known_beside : (b : Beside) (e : Extent) (base end : ℕ) → base ≡ e.base → end ≡ end_of e → (b.left ≡ Allocated → (k : ℕ) × (h : Holding) × (finmap.get a.allocated k ≡ Some h) × (end_of h.range ≡ base)) → (b.right ≡ Allocated → (h : Holding) × (finmap.get a.allocated end ≡ Some h))
      → IsKnownBeside b e a.free
  known_beside b e base end base_is end_is left right = record {
    left = λ l. let s = left l in none_ends e.base s.0 s.1 s.2 (s.3 ∙ base_is);
    right = λ r. let s = right r in none_begins (end_of e) s.0 (subst (λ n. finmap.get a.allocated n ≡ Some s.0) end_is s.1);
  }
