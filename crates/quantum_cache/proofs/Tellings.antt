-- What lists of steps tell, put together.
use Rattle.std.proofs.Common.{◌≡◌, ℕ, List, [], ◌∷◌, ◌++◌, Result, Ok, Err, refl, sym, subst}
use Rattle.deed_core.specs.Request.{plain_of}
use Rattle.deed_core.specs.Tag.{Tag}
use Rattle.arena_tree.specs.declared.levels.Level.{Level}
use Rattle.arena_tree.specs.declared.part_faults.PartFault.{PartFault}
use Rattle.arena_tree.specs.declared.part_faults.GivenFault.{GivenFault}
use Rattle.tag_arena.specs.declared.faults.ArenaFault.{ArenaFault}
use Rattle.tag_arena.specs.declared.faults.SpanFault.{SpanFault}
use Rattle.arena_tree.specs.declared.part_faults.PartFault.TheVariants as asking
use Rattle.arena_tree.specs.declared.part_faults.GivenFault.TheVariants as giving
use Rattle.tag_arena.specs.declared.faults.ArenaFault.TheVariants as carving
use Rattle.tag_arena.specs.declared.faults.SpanFault.TheVariants as adding
use Rattle.arena_tree.specs.declared.part_faults.ClimbFault.TheVariants as climbing
use Rattle.arena_tree.specs.declared.part_faults.ReturnFault.TheVariants as returning
use Rattle.arena_tree.specs.Chains.{Node, amount_of}
use Rattle.arena_tree.specs.Climbs.{ClimbEnd, ReturnEnd, return_plan, memory_refusal, on_add, on_import, on_carve, climb_plan}
use Rattle.arena_tree.specs.Events.{Event, AnswerTo, Carve, Free, AddCarve, SlabTake, SlabPut, SlabAdd, SlabReap, SwapFull, SwapEmpty, SwapFresh, DepotReap, Pop, Push, Change}
use Rattle.arena_tree.specs.Plans.{Plan, Done, Ask, then}
use Rattle.arena_tree.specs.Told.{AnsweredEvent, Tells, IsRefusalOf, WasRefused, RanOut, WasTakenIn, WasStopped}
use Rattle.arena_tree.proofs.LawProofs.{tells_then, stopped_more, taken_in_more, ran_out_more}
use Rattle.quantum_cache.specs.Told.{PartRefuses, JustRefused, none_fitted}

abbrev pub answered : (e : Event) → AnswerTo e → AnsweredEvent
answered e x = record { event = e; answer = x }

-- after what was answered before
abbrev pub After : {A : Type 0} → (List AnsweredEvent → A → Type 0) → List AnsweredEvent → List AnsweredEvent → A → Type 0
After post before now r = (news : List AnsweredEvent) × (now ≡ news ++ before) × post news r

pub tells_after : {A : Type 0} (nodes : List Node) (post : List AnsweredEvent → A → Type 0) (before : List AnsweredEvent) (p : Plan A) (told : List AnsweredEvent) → Tells nodes post p told → Tells nodes (After post before) p (told ++ before)
tells_after nodes post before (Done a) told w = (told, refl, w)
tells_after nodes post before (Ask e g) told w = λ x s. tells_after nodes post before (g x) (answered e x ∷ told) (w x s)

-- both are so
pub tells_both : {A : Type 0} (nodes : List Node) (post post' : List AnsweredEvent → A → Type 0) (p : Plan A) (told : List AnsweredEvent) → Tells nodes post p told → Tells nodes post' p told → Tells nodes (λ now r. post now r × post' now r) p told
tells_both nodes post post' (Done a) told w v = (w, v)
tells_both nodes post post' (Ask e g) told w v = λ x s. tells_both nodes post post' (g x) (answered e x ∷ told) (w x s) (v x s)

-- what follows is so
pub tells_so : {A : Type 0} (nodes : List Node) (post post' : List AnsweredEvent → A → Type 0) (p : Plan A) (told : List AnsweredEvent) → ((now : List AnsweredEvent) (a : A) → post now a → post' now a) → Tells nodes post p told → Tells nodes post' p told
tells_so nodes post post' (Done a) told f w = f told a w
tells_so nodes post post' (Ask e g) told f w = λ x s. tells_so nodes post post' (g x) (answered e x ∷ told) f (w x s)

-- nothing is said
pub tells_any : {A : Type 0} (nodes : List Node) (p : Plan A) (told : List AnsweredEvent) → Tells nodes (λ now (a : A). Unit {0}) p told
tells_any nodes (Done a) told = tt
tells_any nodes (Ask e g) told = λ x s. tells_any nodes (g x) (answered e x ∷ told)

-- what an arena refused, a part did
part_refuses : (t : Tag) (e : Event) (a : AnswerTo e) → IsRefusalOf t e a → PartRefuses t e a
part_refuses t (Carve arena request) a w = w
part_refuses t (Free given) a w = w
part_refuses t (AddCarve child given size) a w = w
part_refuses t (SlabTake arena cache) a w = absurd w
part_refuses t (SlabPut given) a w = absurd w
part_refuses t (SlabAdd arena cache given) a w = absurd w
part_refuses t (SlabReap arena cache) a w = absurd w
part_refuses t (SwapFull arena cache) a w = absurd w
part_refuses t (SwapEmpty arena cache) a w = absurd w
part_refuses t (SwapFresh arena cache) a w = absurd w
part_refuses t (DepotReap arena cache) a w = absurd w
part_refuses t (Pop arena cache) a w = absurd w
part_refuses t (Push arena cache given) a w = absurd w
part_refuses t (Change arena cache size) a w = absurd w

pub just_refused : (t : Tag) (news before now : List AnsweredEvent) → now ≡ news ++ before → WasRefused t news → JustRefused t now
just_refused t [] before now is w = absurd w
just_refused t (last ∷ told) before now is w = subst (JustRefused t) (sym is) (part_refuses t last.event last.answer w)

-- what was so of the last answers
pub stopped_after : (news before now : List AnsweredEvent) → now ≡ news ++ before → WasStopped news → WasStopped now
stopped_after news before now is w = subst WasStopped (sym is) (stopped_more news before w)

pub taken_in_after : (news before now : List AnsweredEvent) → now ≡ news ++ before → WasTakenIn news → WasTakenIn now
taken_in_after news before now is w = subst WasTakenIn (sym is) (taken_in_more news before w)

pub ran_out_after : (news before now : List AnsweredEvent) → now ≡ news ++ before → RanOut news → RanOut now
ran_out_after news before now is w = subst RanOut (sym is) (ran_out_more news before w)

-- a climb ends with NoFit only so
abbrev pub IfNone : List Level → ℕ → List AnsweredEvent → List AnsweredEvent → ClimbEnd → Type 0
IfNone chain n before now r = r ≡ Err (climbing.Refused carving.NoFit) → now ≡ none_fitted chain n before

never_refused : (nodes : List Node) (chain up : List Level) (n : ℕ) (t : Tag) (before told : List AnsweredEvent) → Tells nodes (IfNone chain n before) (then (return_plan up t) (λ r. Done (memory_refusal r))) told
never_refused nodes chain up n t before told = tells_then nodes (λ now (r : ReturnEnd). Unit {0}) (IfNone chain n before) (return_plan up t) (λ r. Done (memory_refusal r)) told (tells_any nodes (return_plan up t) told) ends
  where
    ends : (r : ReturnEnd) (now : List AnsweredEvent) → Unit {0} → IfNone chain n before now (memory_refusal r)
    ends (Ok u) now _ = λ e. absurd cc
    ends (Err (returning.Stuck x)) now _ = λ e. absurd cc
    ends (Err (returning.Stopped x)) now _ = λ e. absurd cc

never_added : (nodes : List Node) (chain up : List Level) (n : ℕ) (before told : List AnsweredEvent) (x : Result Tag (GivenFault (SpanFault Tag) Tag)) → Tells nodes (IfNone chain n before) (on_add up x) told
never_added nodes chain up n before told (Ok t) = λ e. absurd cc
never_added nodes chain up n before told (Err (giving.Refused (adding.NoMemory t))) = never_refused nodes chain up n t before told
never_added nodes chain up n before told (Err (giving.Refused (adding.Overlaps t))) = λ e. absurd cc
never_added nodes chain up n before told (Err (giving.Refused (adding.NotAligned t))) = λ e. absurd cc
never_added nodes chain up n before told (Err (giving.Stopped t)) = λ e. absurd cc

pub climb_none : (nodes : List Node) (chain : List Level) (n : ℕ) (before : List AnsweredEvent) → Tells nodes (IfNone chain n before) (climb_plan chain n) before
climb_none nodes [] n before = λ e. refl
climb_none nodes (l ∷ up) n before = λ x s. carved (λ told. climb_none nodes up (amount_of l up n) told) x
  where
    imported : (r : ClimbEnd) (now : List AnsweredEvent) → IfNone up (amount_of l up n) (answered (Carve l.id (plain_of n)) (Err (asking.Refused carving.NoFit)) ∷ before) now r → Tells nodes (IfNone (l ∷ up) n before) (on_import up l.id n r) now
    imported (Ok span) now w = λ x s. never_added nodes (l ∷ up) up n before (answered (AddCarve l.id span n) x ∷ now) x
    imported (Err f) now w = w

    carved : ((told : List AnsweredEvent) → Tells nodes (IfNone up (amount_of l up n) told) (climb_plan up (amount_of l up n)) told) → (x : Result Tag (PartFault ArenaFault)) → Tells nodes (IfNone (l ∷ up) n before) (on_carve (climb_plan up (amount_of l up n)) up l.id n x) (answered (Carve l.id (plain_of n)) x ∷ before)
    carved again (Ok t) = λ e. absurd cc
    carved again (Err (asking.Refused carving.BadRequest)) = λ e. absurd cc
    carved again (Err (asking.Refused carving.NoMemory)) = λ e. absurd cc
    carved again (Err asking.Stopped) = λ e. absurd cc
    carved again (Err (asking.Refused carving.NoFit)) =
        let first : AnsweredEvent = answered (Carve l.id (plain_of n)) (Err (asking.Refused carving.NoFit)) in
        tells_then nodes (IfNone up (amount_of l up n) (first ∷ before)) (IfNone (l ∷ up) n before) (climb_plan up (amount_of l up n)) (on_import up l.id n) (first ∷ before) (again (first ∷ before)) imported
