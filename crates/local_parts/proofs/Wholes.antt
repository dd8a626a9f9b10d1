-- Each event of the stock, with all that a step of `Parts` wants of it.
use Rattle.std.proofs.Common.{◌≡◌, ℕ, ◌+◌, List, [], ◌∷◌, ◌++◌, Option, Some, None, Result, Ok, Err, IfSome, IfOk, subst, sym, refl, inl, inr, length, false, append_assoc}
use Rattle.std.specs.Option.{option_to_list}
use Rattle.deed_core.specs.Tag.{Tag}
use Rattle.deed_core.specs.Extent.{IsRange}
use Rattle.deed_core.specs.Request.{plain_of}
use Rattle.deed_core.specs.declared.requests.Request.{Request}
use Rattle.std.specs.Prelude.{slice_get}
use Rattle.tag_arena.specs.Outcomes.{CarveOf, ImportOf}
use Rattle.tag_arena.specs.declared.faults.ArenaFault.{ArenaFault}
use Rattle.tag_arena.specs.declared.faults.ArenaFault.TheVariants as arena_fault
use Rattle.tag_arena.specs.declared.faults.SpanFault.{SpanFault}
use Rattle.tag_arena.specs.declared.faults.SpanFault.TheVariants as span_fault
use Rattle.slab_layer.specs.Calls.{TakeOf, AddOf, ReapOf}
use Rattle.slab_layer.specs.declared.faults.AddFault.{AddFault}
use Rattle.slab_layer.specs.declared.faults.AddFault.TheVariants as add_fault
use Rattle.slab_layer.specs.declared.faults.PutFault.{PutFault}
use Rattle.slab_layer.specs.declared.faults.PutFault.TheVariants as put_fault
use Rattle.magazine_layer.specs.Calls.{DepotReapOf}
use Rattle.arena_tree.specs.declared.trees.TreeArena.{TreeArena}
use Rattle.arena_tree.specs.declared.part_faults.PartFault.TheVariants as asking
use Rattle.arena_tree.specs.declared.part_faults.GivenFault.TheVariants as giving
use Rattle.arena_tree.specs.Events.{Event, AnswerTo, BeginsWith, hand_after, Carve, Free, AddCarve, SlabTake, SlabPut, SlabAdd, SlabReap, DepotReap}
use Rattle.arena_tree.specs.Sound.{Sound, KeepsRounds}
use Rattle.arena_tree.specs.Stops.{is_stopped}
use Rattle.stock.specs.Spaces.{SpaceState, plans_of, HasCache}
use Rattle.stock.specs.Stocks.{IsStock}
use Rattle.stock.specs.Accounts.{Accounts, Frames}
use Rattle.stock.specs.Answers.{hand_after_carve, hand_after_free, hand_after_import, hand_after_put, hand_after_add}
use Rattle.stock.specs.OwnCaches.{OwnCacheState}
use Rattle.stock.specs.Steps.{OnArena, OnSlab, OnDepot, FreeIn, PutIn, CanImport, IsRoundIn}
use Rattle.local_parts.specs.Cpus.{cpu_rounds}
use Rattle.local_parts.specs.States.{LocalState, Conserves, tree_of}
use Rattle.arena_tree.specs.Tags.{wording_of}
use Rattle.local_parts.specs.Steps.{Does, WholeStep}
use Rattle.local_parts.proofs.Sounds.{carve_good, carve_grant, no_fit_good, no_memory_good, bad_request, import_first, chunk_here, freed_here, slab_here}

-- where the CPU keeps its rounds, a frame of the stock's is one with them
pub with_rounds : (old new : List SpaceState) (rounds given left : List Tag) → Frames old given new left → (rest : List Tag) → Accounts old ((given ++ rounds) ++ rest) → Accounts new ((left ++ rounds) ++ rest)
with_rounds old new rounds given left frame rest a =
    subst (Accounts new) (sym (append_assoc left rounds rest)) (frame (rounds ++ rest) (subst (Accounts old) (append_assoc given rounds rest) a))

-- the stock's parts, with the CPU beside them
abbrev pub beside : List SpaceState → List (List OwnCacheState) → LocalState
beside spaces cpu = record { spaces = spaces; cpu = cpu }

module _ (old new : List SpaceState) (cpu : List (List OwnCacheState)) (law : IsStock new) (fixed : plans_of new ≡ plans_of old) where
  whole : (e : Event) (a : AnswerTo e) (given left : Option Tag) → ((hand : Option Tag) → BeginsWith e hand → hand ≡ given) → ((hand : Option Tag) → hand_after e a hand ≡ left)
      → Frames old (option_to_list given) new (option_to_list left) → Does (beside old cpu) e a (beside new cpu) → ((sizes : List TreeArena) → Sound (tree_of (plans_of old) sizes) e a)
      → KeepsRounds e a (length (cpu_rounds cpu)) (length (cpu_rounds cpu)) → is_stopped e a ≡ false → WholeStep (beside old cpu) e a (beside new cpu)
  whole e a given left begins ends frame does sound moved goes = record {
    step = record {
      does = does;
      conserves = λ hand b. subst (λ h. Conserves (beside old cpu) hand (beside new cpu) h) (sym (ends hand))
          (subst (λ h. Conserves (beside old cpu) h (beside new cpu) left) (sym (begins hand b)) (with_rounds old new (cpu_rounds cpu) (option_to_list given) (option_to_list left) frame));
      stock = law;
      setup = record { plans = fixed; indexes = refl };
    };
    sound = sound;
    moved = moved;
    goes = goes;
  }

  module _ (was : IsStock old) where
    carve_cases : (k : ℕ) (q : Request) (r : Result Tag ArenaFault) → OnArena k (λ x y. CarveOf x q r y) old new → Frames old [] new (hand_after_carve r)
        → WholeStep (beside old cpu) (Carve k q) (wording_of asking.Refused r) (beside new cpu)
    carve_cases k q (Ok t) on frame = whole (Carve k q) (Ok t) None (Some t) (λ h b. b) (λ h. refl) frame ((Ok t, refl, on), refl) (λ sizes. (carve_good old new k q sizes t on, carve_grant old new k q sizes t was on)) refl refl
    carve_cases k q (Err arena_fault.BadRequest) on frame = whole (Carve k q) _ None None (λ h b. b) (λ h. refl) frame ((Err arena_fault.BadRequest, refl, on), refl) (λ sizes. bad_request old new k q sizes on) refl refl
    carve_cases k q (Err arena_fault.NoFit) on frame = whole (Carve k q) _ None None (λ h b. b) (λ h. refl) frame ((Err arena_fault.NoFit, refl, on), refl) (λ sizes. no_fit_good old new k q sizes on) refl refl
    carve_cases k q (Err arena_fault.NoMemory) on frame = whole (Carve k q) _ None None (λ h b. b) (λ h. refl) frame ((Err arena_fault.NoMemory, refl, on), refl) (λ sizes. no_memory_good old new k q sizes on) refl refl

    pub carve_whole : (k : ℕ) (q : Request) (r : Result Tag ArenaFault) (a : AnswerTo (Carve k q)) → a ≡ wording_of asking.Refused r → OnArena k (λ x y. CarveOf x q r y) old new → Frames old [] new (hand_after_carve r)
        → WholeStep (beside old cpu) (Carve k q) a (beside new cpu)
    carve_whole k q r a told on frame = subst (λ x. WholeStep (beside old cpu) (Carve k q) x (beside new cpu)) (sym told) (carve_cases k q r on frame)

    free_refused : (t same : Tag) → FreeIn old t (Err same) new → same ≡ t
    free_refused t same (inl on) = on.does.1
    free_refused t same (inr out) = let e : Err same ≡ Err t = out.1 in cc

    free_cases : (t : Tag) (r : Result (Option Tag) Tag) → FreeIn old t r new → Frames old (t ∷ []) new (hand_after_free r) → WholeStep (beside old cpu) (Free t) (wording_of giving.Refused r) (beside new cpu)
    free_cases t (Ok back) on frame = whole (Free t) (Ok back) (Some t) back (λ h b. b) (λ h. refl) frame ((Ok back, refl, on), refl) (λ sizes. (freed_here old new sizes t back was on, tt)) refl refl
    free_cases t (Err same) on frame = whole (Free t) _ (Some t) (Some same) (λ h b. b) (λ h. refl) frame ((Err same, refl, on), refl) (λ sizes. (tt, free_refused t same on)) refl refl

    pub free_whole : (t : Tag) (r : Result (Option Tag) Tag) (a : AnswerTo (Free t)) → a ≡ wording_of giving.Refused r → FreeIn old t r new → Frames old (t ∷ []) new (hand_after_free r) → WholeStep (beside old cpu) (Free t) a (beside new cpu)
    free_whole t r a told on frame = subst (λ x. WholeStep (beside old cpu) (Free t) x (beside new cpu)) (sym told) (free_cases t r on frame)

    import_cases : (k n : ℕ) (span : Tag) → IsRange span.holding.range → ((s : SpaceState) → slice_get old k ≡ Some s → CanImport (plain_of n) span s)
        → (r : Result Tag (SpanFault Tag)) → OnArena k (λ x y. ImportOf x span (plain_of n) r y) old new → Frames old (span ∷ []) new (hand_after_import r)
        → WholeStep (beside old cpu) (AddCarve k span n) (wording_of giving.Refused r) (beside new cpu)
    import_cases k n span range can (Ok t) on frame = whole (AddCarve k span n) (Ok t) (Some span) (Some t) (λ h b. b) (λ h. refl) frame ((Ok t, refl, on), refl) (λ sizes. (import_first old new k n sizes span t was range can on, tt)) refl refl
    import_cases k n span range can (Err (span_fault.Overlaps t)) on frame = whole (AddCarve k span n) _ (Some span) (Some t) (λ h b. b) (λ h. refl) frame ((Err (span_fault.Overlaps t), refl, on), refl) (λ sizes. (tt, on.does.0.1)) refl refl
    import_cases k n span range can (Err (span_fault.NotAligned t)) on frame = whole (AddCarve k span n) _ (Some span) (Some t) (λ h b. b) (λ h. refl) frame ((Err (span_fault.NotAligned t), refl, on), refl) (λ sizes. (tt, on.does.0.2)) refl refl
    import_cases k n span range can (Err (span_fault.NoMemory t)) on frame = whole (AddCarve k span n) _ (Some span) (Some t) (λ h b. b) (λ h. refl) frame ((Err (span_fault.NoMemory t), refl, on), refl) (λ sizes. (tt, on.does.0.2)) refl refl

    pub import_whole : (k n : ℕ) (span : Tag) → IsRange span.holding.range → ((s : SpaceState) → slice_get old k ≡ Some s → CanImport (plain_of n) span s)
        → (q : Request) → q ≡ plain_of n → (r : Result Tag (SpanFault Tag)) (a : AnswerTo (AddCarve k span n)) → a ≡ wording_of giving.Refused r → OnArena k (λ x y. ImportOf x span q r y) old new → Frames old (span ∷ []) new (hand_after_import r)
        → WholeStep (beside old cpu) (AddCarve k span n) a (beside new cpu)
    import_whole k n span range can q is r a told on frame =
        subst (λ x. WholeStep (beside old cpu) (AddCarve k span n) x (beside new cpu)) (sym told) (import_cases k n span range can r (subst (λ p. OnArena k (λ x y. ImportOf x span p r y) old new) is on) frame)

    put_refused : (t same : Tag) → PutIn old t (Err (put_fault.NotMine same)) new → same ≡ t
    put_refused t same (inl on) = on.2.does.2.handed_back
    put_refused t same (inr out) = let e : Err (put_fault.NotMine same) ≡ Err (put_fault.NotMine t) = out.1 in cc

    put_at_home : (t same : Tag) → PutIn old t (Err (put_fault.AtHome same)) new → same ≡ t
    put_at_home t same (inl on) = on.2.does.1.handed_back
    put_at_home t same (inr out) = absurd (let e : Err (put_fault.AtHome same) ≡ Err (put_fault.NotMine t) = out.1 in cc)

    put_cases : (t : Tag) (r : Result (Unit {0}) (PutFault Tag)) → PutIn old t r new → Frames old (t ∷ []) new (hand_after_put r) → WholeStep (beside old cpu) (SlabPut t) (wording_of giving.Refused r) (beside new cpu)
    put_cases t (Ok u) on frame = whole (SlabPut t) (Ok u) (Some t) None (λ h b. b) (λ h. refl) frame ((Ok u, refl, on), refl) (λ sizes. tt) refl refl
    put_cases t (Err (put_fault.NotMine same)) on frame = whole (SlabPut t) _ (Some t) (Some same) (λ h b. b) (λ h. refl) frame ((Err (put_fault.NotMine same), refl, on), refl) (λ sizes. put_refused t same on) refl refl
    put_cases t (Err (put_fault.AtHome same)) on frame = whole (SlabPut t) _ (Some t) (Some same) (λ h b. b) (λ h. refl) frame ((Err (put_fault.AtHome same), refl, on), refl) (λ sizes. put_at_home t same on) refl refl

    pub put_whole : (t : Tag) (r : Result (Unit {0}) (PutFault Tag)) (a : AnswerTo (SlabPut t)) → a ≡ wording_of giving.Refused r → PutIn old t r new → Frames old (t ∷ []) new (hand_after_put r) → WholeStep (beside old cpu) (SlabPut t) a (beside new cpu)
    put_whole t r a told on frame = subst (λ x. WholeStep (beside old cpu) (SlabPut t) x (beside new cpu)) (sym told) (put_cases t r on frame)

    module _ (k c j : ℕ) (number : c ≡ j + 1) where
      add_cases : (span : Tag) (r : Result Tag (AddFault Tag)) → OnSlab k j (λ x y. AddOf x span r y) old new → IfOk r (IsRoundIn old k j) → Frames old (span ∷ []) new (hand_after_add r)
          → WholeStep (beside old cpu) (SlabAdd k c span) (wording_of giving.Refused r) (beside new cpu)
      add_cases span (Ok t) on chunk frame = whole (SlabAdd k c span) (Ok t) (Some span) (Some t) (λ h b. b) (λ h. refl) frame (inl (j, number, (Ok t, refl, on)), refl) (λ sizes. (chunk_here old sizes k j c on.space t was on.at number (chunk on.space on.at), tt)) refl refl
      add_cases span (Err (add_fault.WrongSize t)) on chunk frame = whole (SlabAdd k c span) _ (Some span) (Some t) (λ h b. b) (λ h. refl) frame (inl (j, number, (Err (add_fault.WrongSize t), refl, on)), refl) (λ sizes. (tt, on.does.1.handed_back)) refl refl
      add_cases span (Err (add_fault.Overlaps t)) on chunk frame = whole (SlabAdd k c span) _ (Some span) (Some t) (λ h b. b) (λ h. refl) frame (inl (j, number, (Err (add_fault.Overlaps t), refl, on)), refl) (λ sizes. (tt, on.does.2.handed_back)) refl refl
      add_cases span (Err (add_fault.NoMemory t)) on chunk frame = whole (SlabAdd k c span) _ (Some span) (Some t) (λ h b. b) (λ h. refl) frame (inl (j, number, (Err (add_fault.NoMemory t), refl, on)), refl) (λ sizes. (tt, on.does.2.handed_back)) refl refl

      pub add_whole : (span : Tag) (r : Result Tag (AddFault Tag)) (a : AnswerTo (SlabAdd k c span)) → a ≡ wording_of giving.Refused r → OnSlab k j (λ x y. AddOf x span r y) old new → IfOk r (IsRoundIn old k j) → Frames old (span ∷ []) new (hand_after_add r)
          → WholeStep (beside old cpu) (SlabAdd k c span) a (beside new cpu)
      add_whole span r a told on chunk frame = subst (λ x. WholeStep (beside old cpu) (SlabAdd k c span) x (beside new cpu)) (sym told) (add_cases span r on chunk frame)

      pub take_whole : (o : Option Tag) → OnSlab k j (λ x y. TakeOf x o y) old new → IfSome o (IsRoundIn old k j) → Frames old [] new (option_to_list o) → WholeStep (beside old cpu) (SlabTake k c) (Ok o) (beside new cpu)
      take_whole None on chunk frame = whole (SlabTake k c) (Ok None) None None (λ h b. b) (λ h. refl) frame ((None, refl, inl (j, number, on)), refl) (λ sizes. tt) refl refl
      take_whole (Some t) on chunk frame = whole (SlabTake k c) (Ok (Some t)) None (Some t) (λ h b. b) (λ h. refl) frame ((Some t, refl, inl (j, number, on)), refl) (λ sizes. chunk_here old sizes k j c on.space t was on.at number (chunk on.space on.at)) refl refl

      pub reap_whole : (o : Option Tag) → OnSlab k j (λ x y. ReapOf x o y) old new → Frames old [] new (option_to_list o) → WholeStep (beside old cpu) (SlabReap k c) (Ok o) (beside new cpu)
      reap_whole None on frame = whole (SlabReap k c) (Ok None) None None (λ h b. b) (λ h. refl) frame ((None, refl, inl (j, number, on)), refl) (λ sizes. tt) refl refl
      reap_whole (Some t) on frame = whole (SlabReap k c) (Ok (Some t)) None (Some t) (λ h b. b) (λ h. refl) frame ((Some t, refl, inl (j, number, on)), refl) (λ sizes. slab_here old new sizes k j t was on) refl refl

      pub depot_reap_whole : (o : Option Tag) → OnDepot k j (λ x y. DepotReapOf x o y) old new → IfSome o (IsRoundIn old k j) → Frames old [] new (option_to_list o) → WholeStep (beside old cpu) (DepotReap k c) (Ok o) (beside new cpu)
      depot_reap_whole None on chunk frame = whole (DepotReap k c) (Ok None) None None (λ h b. b) (λ h. refl) frame ((None, refl, inl (j, number, on)), refl) (λ sizes. tt) refl refl
      depot_reap_whole (Some t) on chunk frame = whole (DepotReap k c) (Ok (Some t)) None (Some t) (λ h b. b) (λ h. refl) frame ((Some t, refl, inl (j, number, on)), refl) (λ sizes. chunk_here old sizes k j c on.space t was on.at number (chunk on.space on.at)) refl refl

-- where there is no such cache
module _ (spaces : List SpaceState) (cpu : List (List OwnCacheState)) (law : IsStock spaces) (k c : ℕ) (none : (j : ℕ) → c ≡ j + 1 → ¬ HasCache spaces k j) where
  pub none_taken : WholeStep (beside spaces cpu) (SlabTake k c) (Ok None) (beside spaces cpu)
  none_taken = whole spaces spaces cpu law refl (SlabTake k c) (Ok None) None None (λ h b. b) (λ h. refl) (λ rest a. a) ((None, refl, inr (none, (refl, refl))), refl) (λ sizes. tt) refl refl

  pub none_reaped : WholeStep (beside spaces cpu) (SlabReap k c) (Ok None) (beside spaces cpu)
  none_reaped = whole spaces spaces cpu law refl (SlabReap k c) (Ok None) None None (λ h b. b) (λ h. refl) (λ rest a. a) ((None, refl, inr (none, (refl, refl))), refl) (λ sizes. tt) refl refl

  pub no_depot_reaped : WholeStep (beside spaces cpu) (DepotReap k c) (Ok None) (beside spaces cpu)
  no_depot_reaped = whole spaces spaces cpu law refl (DepotReap k c) (Ok None) None None (λ h b. b) (λ h. refl) (λ rest a. a) ((None, refl, inr (none, (refl, refl))), refl) (λ sizes. tt) refl refl

  pub none_added : (t : Tag) → WholeStep (beside spaces cpu) (SlabAdd k c t) (Err (giving.Refused (add_fault.WrongSize t))) (beside spaces cpu)
  none_added t = whole spaces spaces cpu law refl (SlabAdd k c t) (Err (giving.Refused (add_fault.WrongSize t))) (Some t) (Some t) (λ h b. b) (λ h. refl) (λ rest a. a) (inr (none, (refl, refl)), refl) (λ sizes. (tt, refl)) refl refl
