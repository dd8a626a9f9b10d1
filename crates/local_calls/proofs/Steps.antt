-- Each event of one thread's parts goes well, where it is rightly asked and the accounts balance.
use Rattle.std.proofs.Common.{◌≡◌, ℕ, List, ◌∷◌, ◌++◌, Option, Some, Result, Ok, Err, inl, inr, sym, subst, ◌∙◌}
use Rattle.deed_core.specs.Tag.{Tag}
use Rattle.magazine_layer.specs.Magazines.{MagazineState}
use Rattle.magazine_layer.specs.declared.faults.EmptyFault.{EmptyFault}
use Rattle.magazine_layer.specs.declared.faults.FullFault.{FullFault}
use Rattle.magazine_layer.specs.declared.faults.PutFullFault.{PutFullFault}
use Rattle.magazine_layer.specs.declared.faults.PutFullFault.TheVariants as fresh_fault
use Rattle.arena_tree.specs.declared.part_faults.PartFault.{PartFault}
use Rattle.arena_tree.specs.declared.part_faults.GivenFault.{GivenFault}
use Rattle.arena_tree.specs.declared.part_faults.FreshFault.{FreshFault}
use Rattle.arena_tree.specs.declared.part_faults.ChangeFault.{ChangeFault}
use Rattle.arena_tree.specs.declared.part_faults.PartFault.TheVariants as asking
use Rattle.arena_tree.specs.declared.trees.TreeArena.{TreeArena}
use Rattle.arena_tree.specs.Events.{Event, AnswerTo, BeginsWith, hand_after, Carve, Free, AddCarve, SlabTake, SlabPut, SlabAdd, SlabReap, SwapFull, SwapEmpty, SwapFresh, DepotReap, Pop, Push, Change}
use Rattle.arena_tree.specs.Plans.{Plan, Done, Ask, Handles}
use Rattle.stock.specs.Accounts.{IsAccounted}
use Rattle.stock.specs.Setups.{plans_for}
use Rattle.stock.specs.Spaces.{plans_of}
use Rattle.local_parts.specs.Cpus.{cpu_rounds}
use Rattle.local_parts.specs.OwnSteps.{DoesPush, DoesChange, DoesSwapFull, DoesSwapEmpty, DoesSwapFresh}
use Rattle.local_parts.specs.States.{LocalState}
use Rattle.local_parts.specs.Steps.{LocalStep}
use Rattle.arena_tree.specs.Tags.{wording_of}
use Rattle.local_parts.specs.OwnSteps.{fresh_word}
use Rattle.local_calls.specs.Asked.{IsRightlyAsked, GoesWell, DoesWell, AsksWell, PushesWell, EndsWell}
use Rattle.local_calls.specs.Runs.{IsAccountedWith, RunsTo}
use Rattle.local_calls.proofs.Refusals.{carve_well, free_well, put_well, import_well, slab_well}

wrapped_well : {F : Type 0} (r : Result (Unit {0}) F) → AsksWell (wording_of asking.Refused r)
wrapped_well (Ok u) = tt
wrapped_well (Err f) = tt

fresh_well : (r : Result (Unit {0}) (PutFullFault MagazineState)) → AsksWell (wording_of fresh_word r)
fresh_well (Ok u) = tt
fresh_well (Err (fresh_fault.OldSize m back)) = tt
fresh_well (Err (fresh_fault.NoMemory back)) = tt

module _ (old new : LocalState) (k c : ℕ) where
  swapped_full : (a : Result (Unit {0}) (PartFault FullFault)) → DoesSwapFull old k c a new → AsksWell a
  swapped_full a does = elim does [
    | inl on ↦ subst AsksWell (sym on.3.does.1.does.told) (wrapped_well on.3.does.1.does.r)
    | inr none ↦ subst AsksWell (sym none.0) tt
  ]

  swapped_empty : (a : Result (Unit {0}) (PartFault EmptyFault)) → DoesSwapEmpty old k c a new → AsksWell a
  swapped_empty a does = elim does [
    | inl on ↦ subst AsksWell (sym on.3.does.1.does.told) (wrapped_well on.3.does.1.does.r)
    | inr none ↦ subst AsksWell (sym none.0) tt
  ]

  swapped_fresh : (a : Result (Unit {0}) (PartFault FreshFault)) → DoesSwapFresh old k c a new → AsksWell a
  swapped_fresh a does = elim does [
    | inl on ↦ subst AsksWell (sym on.3.does.1.does.told) (fresh_well on.3.does.1.does.r)
    | inr out ↦ elim out [
      | inl memory ↦ subst AsksWell (sym memory.0) tt
      | inr none ↦ subst AsksWell (sym none.0) tt
    ]
  ]

  pushed_well : (t : Tag) (a : Result (Unit {0}) (GivenFault Tag Tag)) → DoesPush old k c t a new → PushesWell a
  pushed_well t a does = elim does [
    | inl on ↦ subst PushesWell (sym on.0) tt
    | inr none ↦ subst PushesWell (sym none.0) tt
  ]

  changed_well : (size : ℕ) (a : Result (Unit {0}) (PartFault ChangeFault)) → DoesChange old k c size a new → AsksWell a
  changed_well size a does = elim does [
    | inl on ↦ subst AsksWell (sym on.0) tt
    | inr none ↦ elim none [
      | inl memory ↦ subst AsksWell (sym memory.0) tt
      | inr small ↦ subst AsksWell (sym small.0) tt
    ]
  ]

module _ (arenas : List TreeArena) (old new : LocalState) (plans : plans_of old.spaces ≡ plans_for arenas) (hand : Option Tag) (others : List Tag) (accounted : IsAccountedWith old hand others) where
  -- what is in the hand is out
  in_hand : (t : Tag) → hand ≡ Some t → IsAccounted old.spaces (t ∷ (cpu_rounds old.cpu ++ others))
  in_hand t is = subst (λ h. IsAccountedWith old h others) is accounted

  pub goes_well : (e : Event) (a : AnswerTo e) → LocalStep old e a new → BeginsWith e hand → IsRightlyAsked arenas e → GoesWell e a
  goes_well (Carve k q) a step begins asked = carve_well arenas old.spaces new.spaces plans k q a step.does.0
  goes_well (Free t) a step begins asked = free_well arenas old.spaces new.spaces plans t (cpu_rounds old.cpu ++ others) (in_hand t begins) a asked step.does.0
  goes_well (AddCarve child t n) a step begins asked = import_well arenas old.spaces new.spaces plans t (cpu_rounds old.cpu ++ others) (in_hand t begins) child n a asked step.does.0
  goes_well (SlabTake k c) a step begins asked = subst (λ (x : AnswerTo (SlabTake k c)). DoesWell x) (sym step.does.0.1) tt
  goes_well (SlabPut t) a step begins asked = put_well arenas old.spaces new.spaces plans t (cpu_rounds old.cpu ++ others) (in_hand t begins) a asked.0 asked.1 step.does.0
  goes_well (SlabAdd k c t) a step begins asked = slab_well arenas old.spaces new.spaces plans t (cpu_rounds old.cpu ++ others) (in_hand t begins) k c a asked step.does.0
  goes_well (SlabReap k c) a step begins asked = subst (λ (x : AnswerTo (SlabReap k c)). DoesWell x) (sym step.does.0.1) tt
  goes_well (SwapFull k c) a step begins asked = swapped_full old new k c a step.does
  goes_well (SwapEmpty k c) a step begins asked = swapped_empty old new k c a step.does
  goes_well (SwapFresh k c) a step begins asked = swapped_fresh old new k c a step.does
  goes_well (DepotReap k c) a step begins asked = subst (λ (x : AnswerTo (DepotReap k c)). DoesWell x) (sym step.does.0.1) tt
  goes_well (Pop k c) a step begins asked = subst (λ (x : AnswerTo (Pop k c)). DoesWell x) (sym step.does.1) tt
  goes_well (Push k c t) a step begins asked = pushed_well old new k c t a step.does
  goes_well (Change k c size) a step begins asked = changed_well old new k c size a step.does

-- the accounts balance after an event
pub steps_on : (old new : LocalState) (hand : Option Tag) (others : List Tag) (e : Event) (a : AnswerTo e) → LocalStep old e a new → BeginsWith e hand → IsAccountedWith old hand others → IsAccountedWith new (hand_after e a hand) others
steps_on old new hand others e a step begins accounted = record { stock = step.stock; accounts = step.conserves hand begins others accounted.accounts }

-- a list of steps that is gone through ends as it does where all goes well
pub run_ends_well : {A : Type 0} (arenas : List TreeArena) (post : A → Type 0) (left : A → Option Tag) (p : Plan A) (hand : Option Tag) (others : List Tag) → Handles left p hand → EndsWell arenas post p → (old new : LocalState) (a : A) → plans_of old.spaces ≡ plans_for arenas
    → IsAccountedWith old hand others → RunsTo arenas p old new a → post a
run_ends_well arenas post left (Done b) hand others handles ends old new a plans accounted path = subst post path.1 ends
run_ends_well arenas post left (Ask e f) hand others handles ends old new a plans accounted path =
    let well : GoesWell e path.1 = goes_well arenas old path.0 plans hand others accounted e path.1 path.2.step handles.0 ends.0 in
    run_ends_well arenas post left (f path.1) (hand_after e path.1 hand) others (handles.1 path.1) (ends.1 path.1 path.2.sound well) path.0 new a (path.2.step.setup.plans ∙ plans) (steps_on old path.0 hand others e path.1 path.2.step handles.0 accounted) path.3
