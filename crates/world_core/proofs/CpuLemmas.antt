-- There are as many CPUs as before, whatever their hands have and whatever they serve.
use Rattle.std.proofs.Common.{ℕ, Bool, List, length, set, Option, sym, subst, ◌∙◌}
use Rattle.std.proofs.lemmas.List.{length-set}
use Rattle.deed_core.specs.Tag.{Tag}
use Rattle.world_core.specs.declared.tasks.Task.{Task}
use Rattle.world_core.specs.IsWorld.{AreSoManyCpus}

module _ (hands : List (Option Tag)) (tasks : List (Option Task)) (failed : List Bool) (owners : List ℕ) (are : AreSoManyCpus (length hands) tasks failed owners) (cpu : ℕ) where
  pub hand_changed : (held : Option Tag) → AreSoManyCpus (length (set hands cpu held)) tasks failed owners
  hand_changed held = subst (λ (count : ℕ). AreSoManyCpus count tasks failed owners) (sym (length-set hands cpu held)) are

  pub task_changed : (task : Option Task) → AreSoManyCpus (length hands) (set tasks cpu task) failed owners
  task_changed task = record { served = length-set tasks cpu task ∙ are.served; marked = are.marked; owned = are.owned }

  pub failed_changed : (task : Option Task) (now : Bool) → AreSoManyCpus (length hands) (set tasks cpu task) (set failed cpu now) owners
  failed_changed task now = record { served = length-set tasks cpu task ∙ are.served; marked = length-set failed cpu now ∙ are.marked; owned = are.owned }
