-- What a reaping that was gone through comes to.
use Rattle.std.proofs.Common.{◌≡◌, ◌∙◌, ℕ, Bool, true, false, List, Option, Some, inl, inr, sym, subst}
use Rattle.deed_core.specs.Tag.{Tag}
use Rattle.arena_tree.specs.Chains.{Node}
use Rattle.arena_tree.specs.declared.levels.Level.{Level}
use Rattle.arena_tree.specs.declared.trees.TreeArena.{TreeArena}
use Rattle.arena_tree.specs.Events.{Event, AnswerTo}
use Rattle.arena_tree.specs.Sound.{Sound}
use Rattle.arena_tree.specs.Stops.{is_stopped}
use Rattle.arena_tree.specs.Trees.{nodes_of, ChainFrom}
use Rattle.arena_tree.specs.Plans.{Plan, Done, Ask, Step, Path, Ran}
use Rattle.locked_parts.specs.Gates.{NotesStops}
use Rattle.locked_parts.specs.declared.gates.NextStep.{NextStep}
use Rattle.quantum_cache.specs.declared.reaps.Reaping.{Reaping}
use Rattle.quantum_cache.specs.Reaps.{ReapEnd, reap_arena_plan}
use Rattle.lease_threads.specs.Reaping.{EndsSoundly, HasReaped, ReapsSoundly, unbegun}
use Rattle.lease_threads.proofs.Runs.{not_true}

-- where no Stop was noted and the gate never says one, none comes, and none is noted
pub never_stops : {X : Type 0} (may : X → NextStep → Type 0) (old new : X) (noted now stopped : Bool) → ((x : X) (n : NextStep) → may x n → ⊥)
    → NotesStops may old new noted now → (stopped ≡ true → now ≡ true) → noted ≡ false → (stopped ≡ false) × (now ≡ false)
never_stops may old new noted now stopped never notes tells none =
    let calm : now ≡ true → ⊥ = λ is. elim (notes.1 is) [
      | inl was ↦ (let x : true ≡ false = sym was ∙ none in cc)
      | inr says ↦ never old says.0 says.1
    ] in
    (not_true stopped (λ is. calm (tells is)), not_true now calm)

-- no step tells a Stop where none was noted before it
abbrev pub IsQuiet : {S : Type 0} → (S → (e : Event) → AnswerTo e → S → Type 0) → (S → Bool) → Type 0
IsQuiet {S} step noted = (s t : S) (e : Event) (x : AnswerTo e) → step s e x t → noted s ≡ false → (is_stopped e x ≡ false) × (noted t ≡ false)

-- each answer of a path was sound, and no stop
pub path_ends : {S A : Type 0} (step : S → (e : Event) → AnswerTo e → S → Type 0) (tree : S → List Node) (count rounds : S → ℕ) (noted : S → Bool) → IsQuiet step noted → (nodes : List Node) (p : Plan A) (s t : S) (a : A) → noted s ≡ false → tree s ≡ nodes → Path (Step step tree count rounds) p s t a → EndsSoundly nodes p a
path_ends step tree count rounds noted quiet nodes (Done b) s t a none is d = d.1
path_ends step tree count rounds noted quiet nodes (Ask e f) s t a none is d =
    let calm = quiet s d.0 e d.1 d.2.does none in
    (d.1, (subst (λ n. Sound n e d.1) is d.2.sound, calm.0), path_ends step tree count rounds noted quiet nodes (f d.1) d.0 t a calm.1 (d.2.same_tree ∙ is) d.3)

-- its answers were sound
pub ran_reaps : {S : Type 0} (step : S → (e : Event) → AnswerTo e → S → Type 0) (tree : S → List Node) (count rounds : S → ℕ) (noted : S → Bool) → IsQuiet step noted → (arenas chained : List TreeArena) (arena limit : ℕ) (reaping : Reaping) (hand : Option Tag) (chain : List Level) (s t : S) (end : ReapEnd)
    → Ran step tree count rounds (reap_arena_plan chain (unbegun limit)) s t end → noted s ≡ false → tree s ≡ nodes_of arenas → chained ≡ arenas → ChainFrom chained (Some arena) chain → HasReaped end reaping hand → ReapsSoundly arenas arena limit reaping hand
ran_reaps step tree count rounds noted quiet arenas chained arena limit reaping hand chain s t end ran none seen is from has =
    (chain, subst (λ xs. ChainFrom xs (Some arena) chain) is from, end, has, path_ends step tree count rounds noted quiet (nodes_of arenas) (reap_arena_plan chain (unbegun limit)) s t end none seen ran.path)
