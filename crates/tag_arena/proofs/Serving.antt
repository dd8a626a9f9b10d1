-- No choice means that no address serves, and a choice serves.
use Rattle.std.proofs.Common.{◌≡◌, ℕ, ◌%◌, ◌≤◌, refl, sym, subst, inl, inr, List, Contains, All, Option, Some, None, MatchOption, Result, Ok, Err, arith}
use Rattle.deed_core.specs.Holding.{Holding}
use Rattle.deed_core.specs.Tag.{Tag}
use Rattle.deed_core.specs.declared.requests.Request.{Request}
use Rattle.tag_arena.specs.declared.faults.ArenaFault.{ArenaFault}
use Rattle.tag_arena.specs.declared.faults.ArenaFault.TheVariants.{BadRequest, NoFit, NoMemory}
use Rattle.tag_arena.specs.declared.policies.Policy.{Policy}
use Rattle.tag_arena.specs.declared.policies.Policy.TheVariants.{Best, Next, Instant}
use Rattle.tag_arena.specs.Place.{IsLeast, Serves, ServesIn}
use Rattle.tag_arena.specs.Choice.{IsBestChoice, IsInstantChoice, IsChoice}
use Rattle.tag_arena.specs.ArenaState.{ArenaState, IsSoundArena}
use Rattle.tag_arena.specs.Outcomes.{CarveOf}
use Rattle.tag_arena.specs.Laws.{NoneServes, ChoiceServes, IsAnsweredExactly, CarvesExactly}
use Rattle.tag_arena.proofs.Members.{All-from_members}
use Rattle.tag_arena.proofs.Ranges.{member-Any}
use Rattle.tag_arena.proofs.Choosing.{serves_at_base}
use Rattle.tag_arena.proofs.Sounding.{free_ranges}

pub none_serves : NoneServes
none_serves Best quantum q free rover none = none
none_serves Next quantum q free rover choice = past choice.0 choice.2
  where
    past : (o : Option ℕ) → MatchOption o (IsLeast (Serves quantum q free) None) (λ b. ◌≡◌ {A = Option ℕ} None (Some b)) → (base : ℕ) → Serves quantum q free base → ⊥
    past None none = none
    past (Some b) is = (let e : None ≡ Some b = is in λ base serves. cc)
none_serves Instant quantum q free rover choice = elim choice [
  | inl plain ↦ (let e : None ≡ Some plain.1.0.range.base = plain.1.2 in λ base serves. cc)
  | inr none ↦ none.1
]

best_serves : (quantum : ℕ) (q : Request) (free : List Holding) (base : ℕ) → IsBestChoice quantum q free (Some base) → Serves quantum q free base
best_serves quantum q free base best = member-Any (λ r. ServesIn quantum q r base) free best.0 best.1.among best.1.serves

instant_serves : (a : ArenaState) → IsSoundArena a → (q : Request) (base : ℕ) → IsInstantChoice a.quantum q a.free (Some base) → Serves a.quantum q a.free base
instant_serves a sound q base (inr best) = best_serves a.quantum q a.free base best.1
instant_serves a sound q base (inl plain) =
    let r : Holding = plain.1.0 in
    let i = plain.1.1 in
    let same : base ≡ r.range.base = (let e : Some base ≡ Some r.range.base = plain.1.2 in cc) in
    let among : Contains a.free r = (i.index, i.within, i.here r) in
    let aligned : All (λ r. r.range.base % a.quantum ≡ 0) a.free = All-from_members (λ r. r.range.base % a.quantum ≡ 0) a.free (λ x in-x. (sound.divided.free_grid x in-x).0) in
    subst (Serves a.quantum q a.free) (sym same)
    (member-Any (λ x. ServesIn a.quantum q x r.range.base) a.free r among
    (serves_at_base a.quantum q a.free plain.0 (free_ranges a sound.divided) aligned r among (omega (arith, i.large, i.on_list))))

next_serves : (quantum : ℕ) (q : Request) (free : List Holding) (rover base : ℕ) (past : Option ℕ) → IsLeast (λ b. Serves quantum q free b × (rover ≤ b)) past
    → MatchOption past (IsLeast (Serves quantum q free) (Some base)) (λ b. ◌≡◌ {A = Option ℕ} (Some base) (Some b)) → Serves quantum q free base
next_serves quantum q free rover base None least here = here.0
next_serves quantum q free rover base (Some b) least here =
    let same : base ≡ b = (let e : Some base ≡ Some b = here in cc) in
    subst (Serves quantum q free) (sym same) least.0.0

by_policy : (policy : Policy) (a : ArenaState) → IsSoundArena a → (q : Request) (base : ℕ) → IsChoice policy a.quantum q a.free a.rover (Some base) → Serves a.quantum q a.free base
by_policy Best a sound q base choice = best_serves a.quantum q a.free base choice
by_policy Next a sound q base choice = next_serves a.quantum q a.free a.rover base choice.0 choice.1 choice.2
by_policy Instant a sound q base choice = instant_serves a sound q base choice

pub choice_serves : ChoiceServes
choice_serves a q base sound choice = by_policy a.policy a sound q base choice

module _ (old new : ArenaState) (q : Request) (sound : IsSoundArena old) where
  exact : (answer : Result Tag ArenaFault) → CarveOf old q answer new → IsAnsweredExactly old q answer
  exact (Ok t) carved =
      let base : ℕ = t.holding.range.base in
      let serves : Serves old.quantum q old.free base = choice_serves old q base sound carved.chosen in record {
        bad = ((λ e. cc), (λ bad. absurd (bad carved.good)));
        none = ((λ e. cc), (λ none. absurd (none.1 base serves)));
        some = ((λ e. (carved.good, (base, serves))), (λ s. inl refl));
      }
  exact (Err BadRequest) refused = record {
    bad = ((λ e. refused.0), (λ bad. refl));
    none = ((λ e. cc), (λ none. absurd (refused.0 none.0)));
    some = ((λ e. elim e [ inl wrong ↦ cc | inr e ↦ cc ]), (λ s. absurd (refused.0 s.0)));
  }
  exact (Err NoFit) refused = record {
    bad = ((λ e. cc), (λ bad. absurd (bad refused.0.0)));
    none = ((λ e. (refused.0.0, none_serves old.policy old.quantum q old.free old.rover refused.0.1)), (λ none. refl));
    some = ((λ e. elim e [ inl wrong ↦ cc | inr e ↦ cc ]), (λ s. absurd (none_serves old.policy old.quantum q old.free old.rover refused.0.1 s.1.0 s.1.1)));
  }
  exact (Err NoMemory) refused =
      let base : ℕ = refused.0.1.0 in
      let serves : Serves old.quantum q old.free base = choice_serves old q base sound refused.0.1.1 in record {
        bad = ((λ e. cc), (λ bad. absurd (bad refused.0.0)));
        none = ((λ e. cc), (λ none. absurd (none.1 base serves)));
        some = ((λ e. (refused.0.0, (base, serves))), (λ s. inr refl));
      }

pub carves_exactly : CarvesExactly
carves_exactly old new q answer sound of = exact old new q sound answer of
