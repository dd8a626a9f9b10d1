-- What climbs end with, by what was answered on their way.
use Rattle.std.proofs.Common.{◌≡◌, ℕ, zero, suc, ◌<◌, List, [], ◌∷◌, ◌++◌, Option, Some, None, Result, Ok, Err, refl, sym, ap, subst, ◌∙◌, arith, inl, inr}
use Rattle.std.proofs.lemmas.List.Elements.{All-cons, All-nil, All-head, All-tail, All-append, Contains-append_left, Contains-append_right}
use Rattle.deed_core.specs.Request.{IsGood, plain_of, rounding_of}
use Rattle.deed_core.specs.Tag.{Tag}
use Rattle.deed_core.proofs.LawProofs.{rounded_some, plain_is_good}
use Rattle.std.specs.Prelude.{max, Contains}
use Rattle.arena_tree.specs.declared.levels.Level.{Level}
use Rattle.arena_tree.specs.declared.part_faults.PartFault.{PartFault}
use Rattle.arena_tree.specs.declared.part_faults.GivenFault.{GivenFault}
use Rattle.tag_arena.specs.declared.faults.ArenaFault.{ArenaFault}
use Rattle.tag_arena.specs.declared.faults.SpanFault.{SpanFault}
use Rattle.arena_tree.specs.declared.part_faults.PartFault.TheVariants as asking
use Rattle.arena_tree.specs.declared.part_faults.GivenFault.TheVariants as giving
use Rattle.tag_arena.specs.declared.faults.ArenaFault.TheVariants as carving
use Rattle.tag_arena.specs.declared.faults.SpanFault.TheVariants as adding
use Rattle.arena_tree.specs.declared.part_faults.ClimbFault.TheVariants as climbing
use Rattle.arena_tree.specs.declared.part_faults.ReturnFault.TheVariants as returning
use Rattle.arena_tree.specs.Chains.{Node, IsChain, first_id, quantum_in, amount_of}
use Rattle.arena_tree.specs.Plans.{Plan, Done, Ask, then, Step, Path, Ran, Gives}
use Rattle.arena_tree.specs.Events.{Event, AnswerTo, Carve, Free, AddCarve}
use Rattle.arena_tree.specs.Sound.{Sound, SoundCarve}
use Rattle.arena_tree.specs.Climbs.{ReturnEnd, ClimbEnd, return_plan, on_free, memory_refusal, on_add, on_import, on_carve, climb_plan}
use Rattle.arena_tree.specs.Told.{AnsweredEvent, Tells, answers_along, no_fit, no_fits, NoneFits, IsNoFit, WasRefused, IsTakenBack, OnlyTakenBack, WasTakenIn, RanOut, WasStopped, ClimbTold, ReturnTold}
use Rattle.arena_tree.specs.Laws.{ClimbTells, ReturnTells, NoFitIsTold}
use Rattle.arena_tree.proofs.Amounts.{chain_above}

abbrev answered : (e : Event) → AnswerTo e → AnsweredEvent
answered e x = record { event = e; answer = x }

pub tells_then : {A B : Type 0} (nodes : List Node) (post : List AnsweredEvent → A → Type 0) (post' : List AnsweredEvent → B → Type 0) (p : Plan A) (next : A → Plan B) (told : List AnsweredEvent) → Tells nodes post p told
    → ((a : A) (now : List AnsweredEvent) → post now a → Tells nodes post' (next a) now) → Tells nodes post' (then p next) told
tells_then nodes post post' (Done a) next told w f = f a told w
tells_then nodes post post' (Ask e g) next told w f = λ x s. tells_then nodes post post' (g x) next (answered e x ∷ told) (w x s) f

-- by its own answers, which follow those before
abbrev pub TellsAfter : {A : Type 0} → (List AnsweredEvent → A → Type 0) → List AnsweredEvent → List AnsweredEvent → A → Type 0
TellsAfter post before now a = (own : List AnsweredEvent) × (now ≡ own ++ before) × post own a

-- a list of steps ends as said by its own answers, whatever was answered before it
pub tells_own : {A : Type 0} (nodes : List Node) (post : List AnsweredEvent → A → Type 0) (p : Plan A) (told before : List AnsweredEvent) → Tells nodes post p told → Tells nodes (TellsAfter post before) p (told ++ before)
tells_own nodes post (Done a) told before w = (told, refl, w)
tells_own nodes post (Ask e f) told before w = λ x s. tells_own nodes post (f x) (answered e x ∷ told) before (w x s)

module _ {S : Type 0} (step : S → (e : Event) → AnswerTo e → S → Type 0) (tree : S → List Node) (count : S → ℕ) (rounds : S → ℕ) where
  path_tells : {A : Type 0} (post : List AnsweredEvent → A → Type 0) (nodes : List Node) (p : Plan A) (s t : S) (a : A) (told : List AnsweredEvent) → nodes ≡ tree s → (d : Path (Step step tree count rounds) p s t a) → Tells nodes post p told
      → post (answers_along (Step step tree count rounds) p s t a d told) a
  path_tells post nodes (Done b) s t a told n d w = subst (post told) d.1 w
  path_tells post nodes (Ask e f) s t a told n d w = path_tells post nodes (f d.1) d.0 t a (answered e d.1 ∷ told) (n ∙ sym d.2.same_tree) d.3 (w d.1 (subst (λ ns. Sound ns e d.1) (sym n) d.2.sound))

  -- what is so of each list of sound answers is so of the one that was gone through
  pub ran_tells : {A : Type 0} (post : List AnsweredEvent → A → Type 0) (p : Plan A) (s t : S) (a : A) → (r : Ran step tree count rounds p s t a) → Tells (tree s) post p [] → post (answers_along (Step step tree count rounds) p s t a r.path []) a
  ran_tells post p s t a r w = path_tells post (tree s) p s t a [] refl r.path w

-- what follows is so
pub tells_so : {A : Type 0} (nodes : List Node) (post post' : List AnsweredEvent → A → Type 0) (p : Plan A) (told : List AnsweredEvent) → ((now : List AnsweredEvent) (a : A) → post now a → post' now a) → Tells nodes post p told → Tells nodes post' p told
tells_so nodes post post' (Done a) told f w = f told a w
tells_so nodes post post' (Ask e g) told f w = λ x s. tells_so nodes post post' (g x) (answered e x ∷ told) f (w x s)

-- what doesn't speak of the answers
pub tells_gives : {A : Type 0} (nodes : List Node) (post : List AnsweredEvent → A → Type 0) (post' : A → Type 0) (p : Plan A) (told : List AnsweredEvent) → ((now : List AnsweredEvent) (a : A) → post now a → post' a) → Tells nodes post p told → Gives nodes post' p
tells_gives nodes post post' (Done a) told f w = f told a w
tells_gives nodes post post' (Ask e g) told f w = λ x s. tells_gives nodes post post' (g x) (answered e x ∷ told) f (w x s)

refused_more : (t : Tag) (told before : List AnsweredEvent) → WasRefused t told → WasRefused t (told ++ before)
refused_more t [] before was = absurd was
refused_more t (last ∷ told) before was = was

pub stopped_more : (told before : List AnsweredEvent) → WasStopped told → WasStopped (told ++ before)
stopped_more [] before was = absurd was
stopped_more (last ∷ told) before was = was

pub taken_in_more : (told before : List AnsweredEvent) → WasTakenIn told → WasTakenIn (told ++ before)
taken_in_more [] before was = absurd was
taken_in_more (last ∷ told) before was = was

pub ran_out_more : (told before : List AnsweredEvent) → RanOut told → RanOut (told ++ before)
ran_out_more [] before ran = absurd ran
ran_out_more (last ∷ told) before (inl out) = inl out
ran_out_more (last ∷ told) before (inr back) = inr (back.0, ran_out_more told before back.1)

-- where it ran out of memory before
pub ran_out_before : (told before : List AnsweredEvent) → OnlyTakenBack told → RanOut before → RanOut (told ++ before)
ran_out_before [] before back ran = ran
ran_out_before (last ∷ told) before back ran =
    inr (All-head (λ (a : AnsweredEvent). IsTakenBack a.event a.answer) last told back, ran_out_before told before (All-tail (λ (a : AnsweredEvent). IsTakenBack a.event a.answer) last told back) ran)

one_back : (last : AnsweredEvent) → IsTakenBack last.event last.answer → OnlyTakenBack (last ∷ [])
one_back last back = All-cons (λ (a : AnsweredEvent). IsTakenBack a.event a.answer) last [] back (All-nil (λ (a : AnsweredEvent). IsTakenBack a.event a.answer))

-- the end of the chain isn't reached
pub return_tells : ReturnTells
return_tells nodes [] t is first = absurd (let e : None ≡ Some t.arena = first in cc)
return_tells nodes (l ∷ up) t is first = freed (λ w at. return_tells nodes up w is.2 at)
  where
    later : (w : Tag) (r : ReturnEnd) (now : List AnsweredEvent) → TellsAfter ReturnTold (answered (Free t) (Ok (Some w)) ∷ []) now r → ReturnTold now r
    later w (Ok u) now g = (
      subst OnlyTakenBack (sym g.1) (All-append (λ (a : AnsweredEvent). IsTakenBack a.event a.answer) g.0 (answered (Free t) (Ok (Some w)) ∷ []) (g.2).0 (one_back (answered (Free t) (Ok (Some w))) (Some w, refl))),
      subst WasTakenIn (sym g.1) (taken_in_more g.0 (answered (Free t) (Ok (Some w)) ∷ []) (g.2).1),
    )
    later w (Err (returning.Stuck x)) now g = subst (WasRefused x) (sym g.1) (refused_more x g.0 (answered (Free t) (Ok (Some w)) ∷ []) g.2)
    later w (Err (returning.Stopped x)) now g = subst WasStopped (sym g.1) (stopped_more g.0 (answered (Free t) (Ok (Some w)) ∷ []) g.2)

    freed : ((w : Tag) → first_id up ≡ Some w.arena → Tells nodes ReturnTold (return_plan up w) []) → (x : Result (Option Tag) (GivenFault Tag Tag)) → Sound nodes (Free t) x → Tells nodes ReturnTold (on_free (return_plan up) x) (answered (Free t) x ∷ [])
    freed again (Ok None) s = (one_back (answered (Free t) (Ok None)) (None, refl), refl)
    freed again (Ok (Some w)) s =
        let before = answered (Free t) (Ok (Some w)) ∷ [] in
        tells_so nodes (TellsAfter ReturnTold before) ReturnTold (return_plan up w) before (λ now r g. later w r now g)
        (tells_own nodes ReturnTold (return_plan up w) [] before (again w (chain_above nodes l up t w is first (s.0).whole.1)))
    freed again (Err (giving.Refused x)) s = refl
    freed again (Err (giving.Stopped x)) s = refl

told_refused : (nodes : List Node) (chain up : List Level) (n : ℕ) (t : Tag) (told : List AnsweredEvent) → IsChain nodes up → first_id up ≡ Some t.arena → RanOut told → Tells nodes (ClimbTold nodes chain n) (then (return_plan up t) (λ r. Done (memory_refusal r))) told
told_refused nodes chain up n t told is first ran =
    tells_then nodes (TellsAfter ReturnTold told) (ClimbTold nodes chain n) (return_plan up t) (λ r. Done (memory_refusal r)) told (tells_own nodes ReturnTold (return_plan up t) [] told (return_tells nodes up t is first)) ends
  where
    ends : (r : ReturnEnd) (now : List AnsweredEvent) → TellsAfter ReturnTold told now r → ClimbTold nodes chain n now (memory_refusal r)
    ends (Ok u) now w = subst RanOut (sym w.1) (ran_out_before w.0 told (w.2).0 ran)
    ends (Err (returning.Stuck x)) now w = subst (WasRefused x) (sym w.1) (refused_more x w.0 told w.2)
    ends (Err (returning.Stopped x)) now w = subst WasStopped (sym w.1) (stopped_more w.0 told w.2)

told_added : (nodes : List Node) (l : Level) (up : List Level) (n : ℕ) (given : Tag) (told : List AnsweredEvent) (x : Result Tag (GivenFault (SpanFault Tag) Tag)) → IsChain nodes up → first_id up ≡ Some given.arena → Sound nodes (AddCarve l.id given n) x
    → Tells nodes (ClimbTold nodes (l ∷ up) n) (on_add up x) (answered (AddCarve l.id given n) x ∷ told)
told_added nodes l up n given told (Ok t) is first s = (s.0).grant
told_added nodes l up n given told (Err (giving.Refused (adding.NotAligned t))) is first s = refl
told_added nodes l up n given told (Err (giving.Refused (adding.Overlaps t))) is first s = refl
told_added nodes l up n given told (Err (giving.Stopped t)) is first s = refl
told_added nodes l up n given told (Err (giving.Refused (adding.NoMemory t))) is first s =
    told_refused nodes (l ∷ up) up n t (answered (AddCarve l.id given n) (Err (giving.Refused (adding.NoMemory t))) ∷ told) is (subst (λ (z : Tag). first_id up ≡ Some z.arena) (sym s.1) first)
    (inl (ap (λ (z : Tag). Err (giving.Refused (adding.NoMemory z))) s.1))

-- some units are asked of the source for some units
amount_some : (l k : Level) (up : List Level) (n : ℕ) → 0 < n → 0 < amount_of l (k ∷ up) n
amount_some l k up n some =
    let own : 0 < rounding_of l.quantum n = rounded_some l.quantum n some in
    let most : 0 < max (rounding_of l.quantum n) l.import_min = omega (arith, own) in
    let asked : 0 < rounding_of k.quantum (max (rounding_of l.quantum n) l.import_min) = rounded_some k.quantum (max (rounding_of l.quantum n) l.import_min) most in
    omega (arith, asked)

bad_is_none : (quantum n : ℕ) → ¬ IsGood quantum (plain_of n) → n ≡ 0
bad_is_none quantum zero bad = refl
bad_is_none quantum (suc n) bad = absurd (bad (plain_is_good quantum (suc n) (omega arith)))

told_imported : (nodes : List Node) (l k : Level) (up : List Level) (n : ℕ) → IsChain nodes (k ∷ up) → 0 < n → (r : ClimbEnd) (now : List AnsweredEvent) → TellsAfter (ClimbTold nodes (k ∷ up) (amount_of l (k ∷ up) n)) (no_fit l.id n ∷ []) now r
    → Tells nodes (ClimbTold nodes (l ∷ (k ∷ up)) n) (on_import (k ∷ up) l.id n r) now
told_imported nodes l k up n is some (Ok span) now g = λ x s. told_added nodes l (k ∷ up) n span now x is (let here = (g.2).of_arena in cc) s
told_imported nodes l k up n is some (Err (climbing.Refused carving.BadRequest)) now g = absurd (let a = amount_some l k up n some in let none = g.2 in omega (arith, a, none))
told_imported nodes l k up n is some (Err (climbing.Refused carving.NoFit)) now g = g.1 ∙ ap (λ told. told ++ no_fit l.id n ∷ []) g.2
told_imported nodes l k up n is some (Err (climbing.Refused carving.NoMemory)) now g = subst RanOut (sym g.1) (ran_out_more g.0 (no_fit l.id n ∷ []) g.2)
told_imported nodes l k up n is some (Err (climbing.Stuck t)) now g = subst (WasRefused t) (sym g.1) (refused_more t g.0 (no_fit l.id n ∷ []) g.2)
told_imported nodes l k up n is some (Err (climbing.Stopped o)) now g = subst WasStopped (sym g.1) (stopped_more g.0 (no_fit l.id n ∷ []) g.2)

told_carved : (nodes : List Node) (l k : Level) (up : List Level) (n : ℕ) (x : Result Tag (PartFault ArenaFault)) → IsChain nodes (k ∷ up) → Tells nodes (ClimbTold nodes (k ∷ up) (amount_of l (k ∷ up) n)) (climb_plan (k ∷ up) (amount_of l (k ∷ up) n)) []
    → SoundCarve nodes l.id (plain_of n) x → Tells nodes (ClimbTold nodes (l ∷ (k ∷ up)) n) (on_carve (climb_plan (k ∷ up) (amount_of l (k ∷ up) n)) (k ∷ up) l.id n x) (answered (Carve l.id (plain_of n)) x ∷ [])
told_carved nodes l k up n (Ok t) is again s = s.1
told_carved nodes l k up n (Err (asking.Refused carving.BadRequest)) is again s = bad_is_none (quantum_in nodes l.id) n s
told_carved nodes l k up n (Err (asking.Refused carving.NoMemory)) is again s = inl refl
told_carved nodes l k up n (Err asking.Stopped) is again s = refl
told_carved nodes l k up n (Err (asking.Refused carving.NoFit)) is again s =
    tells_then nodes (TellsAfter (ClimbTold nodes (k ∷ up) (amount_of l (k ∷ up) n)) (no_fit l.id n ∷ [])) (ClimbTold nodes (l ∷ (k ∷ up)) n) (climb_plan (k ∷ up) (amount_of l (k ∷ up) n)) (on_import (k ∷ up) l.id n) (no_fit l.id n ∷ [])
    (tells_own nodes (ClimbTold nodes (k ∷ up) (amount_of l (k ∷ up) n)) (climb_plan (k ∷ up) (amount_of l (k ∷ up) n)) [] (no_fit l.id n ∷ []) again) (told_imported nodes l k up n is s.size)

-- the top arena has no source
told_top : (nodes : List Node) (l : Level) (n : ℕ) (x : Result Tag (PartFault ArenaFault)) → SoundCarve nodes l.id (plain_of n) x
    → Tells nodes (ClimbTold nodes (l ∷ []) n) (on_carve (Done (Err (climbing.Refused carving.NoFit))) [] l.id n x) (answered (Carve l.id (plain_of n)) x ∷ [])
told_top nodes l n (Ok t) s = s.1
told_top nodes l n (Err (asking.Refused carving.BadRequest)) s = bad_is_none (quantum_in nodes l.id) n s
told_top nodes l n (Err (asking.Refused carving.NoMemory)) s = inl refl
told_top nodes l n (Err asking.Stopped) s = refl
told_top nodes l n (Err (asking.Refused carving.NoFit)) s = refl

pub climb_tells : ClimbTells
climb_tells nodes [] n is = refl
climb_tells nodes (l ∷ []) n is = λ x s. told_top nodes l n x s
climb_tells nodes (l ∷ (k ∷ up)) n is = λ x s. told_carved nodes l k up n x is.2 (climb_tells nodes (k ∷ up) (amount_of l (k ∷ up) n) is.2) s

-- what is among some answers is among more
pub none_fits_among : (chain : List Level) (n : ℕ) (told more : List AnsweredEvent) → ((a : AnsweredEvent) → Contains told a → Contains more a) → NoneFits chain n told → NoneFits chain n more
none_fits_among [] n told more among none = tt
none_fits_among (l ∷ up) n told more among none = (among (no_fit l.id n) none.0, none_fits_among up (amount_of l up n) told more among none.1)

pub no_fit_is_told : NoFitIsTold
no_fit_is_told [] n = (tt, All-nil (λ (a : AnsweredEvent). IsNoFit a.event a.answer))
no_fit_is_told (l ∷ up) n =
    let above = no_fit_is_told up (amount_of l up n) in
    let told = no_fits up (amount_of l up n) in
    let last = no_fit l.id n ∷ [] in
    let here : Contains last (no_fit l.id n) = (0, omega arith, refl) in (
      (Contains-append_right told last (no_fit l.id n) here, none_fits_among up (amount_of l up n) told (told ++ last) (λ a. Contains-append_left told last a) above.0),
      All-append (λ (a : AnsweredEvent). IsNoFit a.event a.answer) told last above.1 (All-cons (λ (a : AnsweredEvent). IsNoFit a.event a.answer) (no_fit l.id n) [] refl (All-nil (λ (a : AnsweredEvent). IsNoFit a.event a.answer))),
    )

-- a climb tells a bad request for 0 units alone
pub climb_bad : (nodes : List Node) (chain : List Level) (n : ℕ) → IsChain nodes chain → Gives nodes (λ (r : ClimbEnd). r ≡ Err (climbing.Refused carving.BadRequest) → n ≡ 0) (climb_plan chain n)
climb_bad nodes chain n is = tells_gives nodes (ClimbTold nodes chain n) (λ (r : ClimbEnd). r ≡ Err (climbing.Refused carving.BadRequest) → n ≡ 0) (climb_plan chain n) [] (λ now r w e. subst (ClimbTold nodes chain n now) e w) (climb_tells nodes chain n is)
