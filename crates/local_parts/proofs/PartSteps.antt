-- A step of one thread's parts as one of `Parts`.
use Rattle.std.proofs.Common.{◌≡◌, ℕ, ◌+◌, ◌-◌, ◌^◌, min, List, Bool, true, false, length, sym, subst, ap, ◌∙◌}
use Rattle.arena_tree.specs.declared.trees.TreeArena.{TreeArena}
use Rattle.arena_tree.specs.Events.{Event, AnswerTo, locks}
use Rattle.arena_tree.specs.Stops.{is_stopped, Counts}
use Rattle.arena_tree.specs.Plans.{Step}
use Rattle.stock.specs.Spaces.{plans_of}
use Rattle.local_parts.specs.Cpus.{cpu_rounds}
use Rattle.local_parts.specs.States.{LocalState, tree_of}
use Rattle.local_parts.specs.Steps.{LocalStep, WholeStep}

counted : (stopped : Bool) (locks old new : ℕ) → stopped ≡ false → new ≡ min (old + locks) (2 ^ 64 - 1) → Counts stopped locks old new
counted true locks old new goes e = absurd (let x : true ≡ false = goes in cc)
counted false locks old new goes e = e

-- S is seen as a state, with sizes that stay
pub parts_step : (S : Type 0) (see : S → LocalState) (sizes : S → List TreeArena) (step : S → (e : Event) → AnswerTo e → S → Type 0) (count : S → ℕ) (s t : S) (e : Event) (a told : AnswerTo e) → told ≡ a
    → WholeStep (see s) e a (see t) → (LocalStep (see s) e told (see t) → step s e told t) → sizes t ≡ sizes s → count t ≡ min (count s + locks e) (2 ^ 64 - 1)
    → Step step (λ x. tree_of (plans_of (see x).spaces) (sizes x)) count (λ x. length (cpu_rounds (see x).cpu)) s e told t
parts_step S see sizes step count s t e a told is w does same counts =
    let v : WholeStep (see s) e told (see t) = subst (λ x. WholeStep (see s) e x (see t)) (sym is) w in
    record {
      does = does v.step;
      sound = v.sound (sizes s);
      same_tree = subst (λ z. tree_of (plans_of (see t).spaces) z ≡ tree_of (plans_of (see s).spaces) (sizes s)) (sym same) (ap (λ p. tree_of p (sizes s)) v.step.setup.plans);
      counted = counted (is_stopped e told) (locks e) (count s) (count t) v.goes counts;
      moved = v.moved;
      stayed = λ stopped. absurd (let x : true ≡ false = sym stopped ∙ v.goes in cc);
    }
