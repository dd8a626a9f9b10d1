-- What is told where nothing stands, and one cache more.
use Rattle.std.proofs.Common.{◌≡◌, ℕ, suc, ◌+◌, ◌-◌, ◌*◌, ◌^◌, ◌<◌, ◌∙◌, min, List, [], ◌∷◌, map, length, sym, subst, ap, refl, arith}
use Rattle.std.proofs.lemmas.List.Elements.{All-nil}
use Rattle.std.specs.FinMap as finmap
use Rattle.std.specs.FinMap.{entries, len-empty, len-entries}
use Rattle.std.specs.Ordering.{nat_cmp}
use Rattle.tag_arena.specs.declared.policies.Policy.TheVariants.{Best}
use Rattle.deed_core.specs.Covering.{units_held}
use Rattle.deed_core.specs.Holding.{Holding}
use Rattle.tag_arena.specs.ArenaState.{empty_arena, ranges_of}
use Rattle.tag_arena.proofs.Using.{empty_sound}
use Rattle.slab_layer.specs.Cache.{IsOfSize, IsOnGrid}
use Rattle.magazine_layer.specs.Depots.{new_depot}
use Rattle.locked_parts.specs.Kinds.{IsOfKind}
use Rattle.locked_parts.specs.Sums.{ArenaTells, SlabsTell, DepotTells, AddsUp}
use Rattle.locked_parts.specs.declared.kinds.CacheKind.{CacheKind}

-- one cache more is added
pub adds_more : (tells : ℕ → ℕ → Type 0) (n before one units : ℕ) → AddsUp tells n before → tells (n + 1) one → units ≡ min (before + one) (2 ^ 128 - 1) → AddsUp tells (n + 1) units
adds_more tells n before one units walk told is =
    let e : suc n ≡ n + 1 = omega arith in
    subst (λ k. AddsUp tells k units) e (before, one, walk, subst (λ k. tells k one) (sym e) told, is)

no_entries : (es : List (ℕ × Holding)) → length es ≡ 0 → es ≡ []
no_entries [] e = refl
no_entries (x ∷ es) e = absurd (omega (arith, e))

nothing_held : ranges_of finmap.empty ≡ []
nothing_held = ap (map (λ (e : ℕ × Holding). e.1)) (no_entries (entries {R = nat_cmp} finmap.empty) (sym (len-entries {R = nat_cmp} finmap.empty) ∙ len-empty nat_cmp Holding))

-- an arena, slabs and a depot with nothing in them
pub no_arena : (id : ℕ) → ArenaTells id 0 0
no_arena id = record {
  arena = empty_arena id 1 Best;
  sound = empty_sound id 1 Best (0, refl);
  number = refl;
  free = refl;
  allocated = ap units_held (sym nothing_held);
}

pub no_slabs : (k : CacheKind) → 0 < k.number → 0 < k.quantum → SlabsTell k 0
no_slabs k number quantum =
    let some : 0 < k.number * k.quantum = grind (arith) in
    record {
      slabs = record { arena = k.arena; k = k.number; quantum = k.quantum; slab_size = k.number * k.quantum; slabs = []; colour = 0 };
      sound = record {
        some = some;
        room = omega (arith);
        colour = omega (arith);
        whole = grind (arith);
        slabs = All-nil (IsOfSize (k.number * k.quantum) (k.number * k.quantum));
        grid = All-nil (IsOnGrid k.quantum);
        ascending = λ i j d lt below. absurd (omega (arith, below));
      };
      of_kind = (refl, refl, refl);
      told = refl;
    }

pub no_rounds : (k : CacheKind) → 0 < k.quantum → DepotTells k 0
no_rounds k quantum = record {
  depot = record { kind = k; depot = new_depot 3 };
  sound = record { some = quantum; rounds = All-nil (IsOfKind k) };
  of_kind = refl;
  told = refl;
}
