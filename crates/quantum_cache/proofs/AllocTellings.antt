-- What an allocation tells.
use Rattle.std.proofs.Common.{◌≡◌, ℕ, true, List, [], ◌∷◌, Option, Some, None, Result, Ok, Err, refl, sym, ap, subst, inl, inr, ◌∙◌}
use Rattle.deed_core.specs.Tag.{Tag}
use Rattle.arena_tree.specs.declared.levels.Level.{Level}
use Rattle.arena_tree.specs.declared.part_faults.PartFault.{PartFault}
use Rattle.arena_tree.specs.declared.part_faults.GivenFault.{GivenFault}
use Rattle.arena_tree.specs.declared.part_faults.ChangeFault.{ChangeFault}
use Rattle.slab_layer.specs.declared.faults.AddFault.{AddFault}
use Rattle.magazine_layer.specs.declared.faults.FullFault.{FullFault}
use Rattle.arena_tree.specs.declared.part_faults.PartFault.TheVariants as asking
use Rattle.arena_tree.specs.declared.part_faults.GivenFault.TheVariants as giving
use Rattle.tag_arena.specs.declared.faults.ArenaFault.TheVariants as carving
use Rattle.slab_layer.specs.declared.faults.AddFault.TheVariants as slabbing
use Rattle.magazine_layer.specs.declared.faults.FullFault.TheVariants as fulling
use Rattle.arena_tree.specs.declared.part_faults.ClimbFault.TheVariants as climbing
use Rattle.arena_tree.specs.declared.part_faults.ReturnFault.TheVariants as returning
use Rattle.arena_tree.specs.declared.part_faults.Stopped.{Stopped}
use Rattle.arena_tree.specs.Chains.{Node, IsChain, IsCachedChunk, first_id}
use Rattle.arena_tree.specs.Events.{SlabTake, SlabAdd, SwapFull, Pop, Change}
use Rattle.arena_tree.specs.Sound.{Sound, SoundTake}
use Rattle.arena_tree.specs.Stops.{refuses_by}
use Rattle.arena_tree.specs.Plans.{Plan, Done, then, or_else}
use Rattle.arena_tree.specs.Climbs.{ClimbEnd, ReturnEnd, climb_plan, return_plan, memory_refusal}
use Rattle.arena_tree.specs.Told.{AnsweredEvent, Tells, RanOut, WasStopped, ClimbTold, ReturnTold}
use Rattle.arena_tree.proofs.LawProofs.{tells_then, ran_out_before, climb_tells, return_tells}
use Rattle.quantum_cache.specs.Sizes.{cache_for}
use Rattle.quantum_cache.specs.Allocs.{Stage, on_take, take_round, on_change_over, change_over, on_swap_full, take_from_depot, take_chunk, on_slab_add, make_slab, on_slab_climb, take_from_slab, alloc_cached, alloc_steps}
use Rattle.quantum_cache.specs.Served.{IsServedOf}
use Rattle.quantum_cache.specs.Told.{AllocTold, AllocTells}
use Rattle.quantum_cache.proofs.CacheSizes.{chunk_serves}
use Rattle.quantum_cache.proofs.Tellings.{answered, After, IfNone, tells_after, tells_both, tells_so, just_refused, stopped_after, ran_out_after, climb_none}

-- the last climb
told_climb : (nodes : List Node) (l : Level) (up : List Level) (size : ℕ) (told : List AnsweredEvent) → IsChain nodes (l ∷ up) → Tells nodes (AllocTold nodes (l ∷ up) size) (climb_plan (l ∷ up) size) told
told_climb nodes l up size told is =
    tells_so nodes (λ now r. After (ClimbTold nodes (l ∷ up) size) told now r × IfNone (l ∷ up) size told now r) (AllocTold nodes (l ∷ up) size) (climb_plan (l ∷ up) size) told so
    (tells_both nodes (After (ClimbTold nodes (l ∷ up) size) told) (IfNone (l ∷ up) size told) (climb_plan (l ∷ up) size) told (tells_after nodes (ClimbTold nodes (l ∷ up) size) told (climb_plan (l ∷ up) size) [] (climb_tells nodes (l ∷ up) size is)) (climb_none nodes (l ∷ up) size told))
  where
    so : (now : List AnsweredEvent) (r : ClimbEnd) → After (ClimbTold nodes (l ∷ up) size) told now r × IfNone (l ∷ up) size told now r → AllocTold nodes (l ∷ up) size now r
    so now (Ok t) w = let g = w.0.2 in record { of_arena = g.of_arena; by = inl g.direct; fits = g.fits }
    so now (Err (climbing.Refused carving.BadRequest)) w = inl w.0.2
    so now (Err (climbing.Refused carving.NoFit)) w = (told, w.1 refl)
    so now (Err (climbing.Refused carving.NoMemory)) w = ran_out_after w.0.0 told now w.0.1 w.0.2
    so now (Err (climbing.Stuck t)) w = just_refused t w.0.0 told now w.0.1 w.0.2
    so now (Err (climbing.Stopped o)) w = stopped_after w.0.0 told now w.0.1 w.0.2

module _ (nodes : List Node) (l : Level) (up : List Level) (size cache : ℕ) (is : IsChain nodes (l ∷ up)) (for : cache_for l size ≡ Some cache) where
  abbrev IfTold : List AnsweredEvent → Stage → Type 0
  IfTold now None = Unit {0}
  IfTold now (Some r) = AllocTold nodes (l ∷ up) size now r

  tells_or_else : (p : Plan Stage) (q : Plan ClimbEnd) (told : List AnsweredEvent) → Tells nodes IfTold p told → ((now : List AnsweredEvent) → Tells nodes (AllocTold nodes (l ∷ up) size) q now) → Tells nodes (AllocTold nodes (l ∷ up) size) (then p (or_else q)) told
  tells_or_else p q told w next = tells_then nodes IfTold (AllocTold nodes (l ∷ up) size) p (or_else q) told w go
    where
      go : (a : Stage) (now : List AnsweredEvent) → IfTold now a → Tells nodes (AllocTold nodes (l ∷ up) size) (or_else q a) now
      go None now s = next now
      go (Some r) now s = s

  chunk : (t : Tag) → IsCachedChunk nodes l.id cache t → IsServedOf nodes l size t
  chunk t c = chunk_serves nodes l up size cache t is for c

  told_take : (now : List AnsweredEvent) (a : Result (Option Tag) Stopped) → SoundTake nodes l.id cache a → (refuses_by (λ (f : Stopped). true) a ≡ true → WasStopped now) → IfTold now (on_take a)
  told_take now (Ok None) s stops = tt
  told_take now (Ok (Some t)) s stops = chunk t s
  told_take now (Err e) s stops = stops refl

  told_round : (told : List AnsweredEvent) → Tells nodes IfTold (take_round l.id cache) told
  unfolding take_round
  told_round told = λ x s. told_take (answered (Pop l.id cache) x ∷ told) x s (λ e. e)

  told_over : (m : ℕ) (told : List AnsweredEvent) → Tells nodes IfTold (change_over l.id cache m) told
  unfolding change_over
  told_over m told = λ x s. changed x
    where
      changed : (x : Result (Unit {0}) (PartFault ChangeFault)) → IfTold (answered (Change l.id cache m) x ∷ told) (on_change_over x)
      changed (Ok u) = tt
      changed (Err (asking.Refused f)) = tt
      changed (Err asking.Stopped) = refl

  told_depot : (told : List AnsweredEvent) → Tells nodes IfTold (take_from_depot l.id cache) told
  unfolding take_from_depot
  told_depot told = λ x s. swapped x
    where
      swapped : (x : Result (Unit {0}) (PartFault FullFault)) → Tells nodes IfTold (on_swap_full l.id cache x) (answered (SwapFull l.id cache) x ∷ told)
      swapped (Ok u) = told_round (answered (SwapFull l.id cache) (Ok u) ∷ told)
      swapped (Err (asking.Refused (fulling.OldSize m))) = told_over m (answered (SwapFull l.id cache) (Err (asking.Refused (fulling.OldSize m))) ∷ told)
      swapped (Err (asking.Refused fulling.NoneFull)) = tt
      swapped (Err asking.Stopped) = refl

  told_chunk : (told : List AnsweredEvent) → Tells nodes IfTold (take_chunk l.id cache) told
  unfolding take_chunk
  told_chunk told = λ x s. told_take (answered (SlabTake l.id cache) x ∷ told) x s (λ e. e)

  told_back : (t : Tag) (told : List AnsweredEvent) → first_id (l ∷ up) ≡ Some t.arena → RanOut told → Tells nodes (AllocTold nodes (l ∷ up) size) (then (return_plan (l ∷ up) t) (λ r. Done (memory_refusal r))) told
  told_back t told first ran = tells_then nodes (After ReturnTold told) (AllocTold nodes (l ∷ up) size) (return_plan (l ∷ up) t) (λ r. Done (memory_refusal r)) told (tells_after nodes ReturnTold told (return_plan (l ∷ up) t) [] (return_tells nodes (l ∷ up) t is first)) ends
    where
      ends : (r : ReturnEnd) (now : List AnsweredEvent) → After ReturnTold told now r → AllocTold nodes (l ∷ up) size now (memory_refusal r)
      ends (Ok u) now w = subst RanOut (sym w.1) (ran_out_before w.0 told (w.2).0 ran)
      ends (Err (returning.Stuck x)) now w = just_refused x w.0 told now w.1 w.2
      ends (Err (returning.Stopped x)) now w = stopped_after w.0 told now w.1 w.2

  told_slab : (span : Tag) (told : List AnsweredEvent) → span.arena ≡ l.id → (x : Result Tag (GivenFault (AddFault Tag) Tag)) → Sound nodes (SlabAdd l.id cache span) x → Tells nodes (AllocTold nodes (l ∷ up) size) (on_slab_add (l ∷ up) x) (answered (SlabAdd l.id cache span) x ∷ told)
  told_slab span told here (Ok t) s = chunk t s.0
  told_slab span told here (Err (giving.Refused (slabbing.WrongSize t))) s = refl
  told_slab span told here (Err (giving.Refused (slabbing.Overlaps t))) s = refl
  told_slab span told here (Err (giving.Stopped t)) s = refl
  told_slab span told here (Err (giving.Refused (slabbing.NoMemory t))) s =
      told_back t (answered (SlabAdd l.id cache span) (Err (giving.Refused (slabbing.NoMemory t))) ∷ told) (ap Some (sym (ap (λ (z : Tag). z.arena) s.1 ∙ here))) (inl (ap (λ (z : Tag). Err (giving.Refused (slabbing.NoMemory z))) s.1))

  told_climbed : (x : ClimbEnd) (before now : List AnsweredEvent) → After (ClimbTold nodes (l ∷ up) l.slab_size) before now x → Tells nodes IfTold (on_slab_climb (l ∷ up) l.id cache x) now
  unfolding make_slab
  told_climbed (Ok span) before now w =
      tells_then nodes (AllocTold nodes (l ∷ up) size) IfTold (make_slab (l ∷ up) l.id cache span) (λ r. Done (Some r)) now (λ x s. told_slab span now (w.2).of_arena x s) (λ r told e. e)
  told_climbed (Err (climbing.Refused carving.BadRequest)) before now w = inr (w.2, (cache, for))
  told_climbed (Err (climbing.Refused carving.NoFit)) before now w = tt
  told_climbed (Err (climbing.Refused carving.NoMemory)) before now w = ran_out_after w.0 before now w.1 w.2
  told_climbed (Err (climbing.Stuck t)) before now w = just_refused t w.0 before now w.1 w.2
  told_climbed (Err (climbing.Stopped o)) before now w = stopped_after w.0 before now w.1 w.2

  told_import : (told : List AnsweredEvent) → Tells nodes IfTold (take_from_slab (l ∷ up) l cache) told
  unfolding take_from_slab
  told_import told =
      tells_then nodes (After (ClimbTold nodes (l ∷ up) l.slab_size) told) IfTold (climb_plan (l ∷ up) l.slab_size) (on_slab_climb (l ∷ up) l.id cache) told
      (tells_after nodes (ClimbTold nodes (l ∷ up) l.slab_size) told (climb_plan (l ∷ up) l.slab_size) [] (climb_tells nodes (l ∷ up) l.slab_size is)) (λ x now w. told_climbed x told now w)

  told_cached : Tells nodes (AllocTold nodes (l ∷ up) size) (alloc_cached (l ∷ up) l cache size) []
  unfolding alloc_cached
  told_cached =
      tells_or_else (take_round l.id cache) _ [] (told_round [])
      (λ a. tells_or_else (take_from_depot l.id cache) _ a (told_depot a)
      (λ b. tells_or_else (take_chunk l.id cache) _ b (told_chunk b)
      (λ d. tells_or_else (take_from_slab (l ∷ up) l cache) _ d (told_import d) (λ e. told_climb nodes l up size e is))))

told_by_cache : (nodes : List Node) (l : Level) (up : List Level) (size : ℕ) (o : Option ℕ) → IsChain nodes (l ∷ up) → cache_for l size ≡ o → Tells nodes (AllocTold nodes (l ∷ up) size) (alloc_steps o (l ∷ up) l size) []
told_by_cache nodes l up size None is for = told_climb nodes l up size [] is
told_by_cache nodes l up size (Some cache) is for = told_cached nodes l up size cache is for

pub alloc_tells : AllocTells
alloc_tells nodes [] size is = ([], refl)
alloc_tells nodes (l ∷ up) size is = told_by_cache nodes l up size (cache_for l size) is refl
