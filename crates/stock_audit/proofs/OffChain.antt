-- Steps that stay off all but a chain of arenas, and its first arena's caches.
use Rattle.std.proofs.Common.{◌≡◌, ◌⊎◌, ℕ, inl, inr, refl, sym, subst, ap, ◌∙◌, List, set, Some, arith}
use Rattle.std.specs.Prelude.{slice_get, sum_by}
use Rattle.std.proofs.lemmas.Option.{slice_get_within}
use Rattle.deed_core.specs.Weights.{of_arena}
use Rattle.deed_core.proofs.LawProofs.{slice_get_one, slice_get_some, written}
use Rattle.stock.specs.Spaces.{SpaceState, plans_of, with_arena, with_caches}
use Rattle.stock.specs.OwnCaches.{OwnCacheState, all_own_rounds}
use Rattle.stock.proofs.LawProofs.{plans_stay}
use Rattle.stock_audit.specs.Chains.{IsUpFrom, here, above}
use Rattle.stock_audit.specs.Laws.{NoStepOffChain, OffChainThen, ArenaStepOffChain, CacheStepOffChain}

-- the same chains stand where arenas are set up alike
module _ (old new : List SpaceState) (fixed : plans_of new ≡ plans_of old) where
  pub then_at : (k : ℕ) (x : SpaceState) → slice_get new k ≡ Some x → (s : SpaceState) × (slice_get old k ≡ Some s) × (s.source ≡ x.source)
  then_at k x at =
      let within = slice_get_within new k x at in
      let same = (plans_stay old new fixed).0 in
      let s = slice_get_some old k (omega (arith, within, same)) in
      (s.0, s.1, sym ((plans_stay old new fixed).1 k s.0 x s.1 at).source)

  up_before : (k b : ℕ) → IsUpFrom new k b → IsUpFrom old k b
  up_before _ _ (here k) = here k
  up_before _ _ (above k p b x at source chain) = (let s = then_at k x at in above k p b s.0 s.1 (s.2 ∙ source) (up_before p b chain))

pub no_step_off_chain : NoStepOffChain
no_step_off_chain k spaces before after leases cpus = record {
  fixed = refl;
  arenas = λ b s x at there. inr (ap (λ (y : SpaceState). y.arena) (slice_get_one spaces b x s there at));
  owned = λ b s x at there. ap (λ (y : SpaceState). y.arena.owned) (slice_get_one spaces b x s there at);
  caches = λ b s x ne at there. ap (λ (y : SpaceState). y.caches) (slice_get_one spaces b x s there at);
  rounds = λ b ne f. ap (λ (os : List OwnCacheState). sum_by (of_arena b f) (all_own_rounds os)) cpus;
  leases = leases;
}

pub off_chain_then : OffChainThen
off_chain_then k old mid new before between after first next = record {
  fixed = next.fixed ∙ first.fixed;
  arenas = λ b s x at there.
      let m = then_at mid new next.fixed b x there in
      elim (first.arenas b s m.0 at m.1) [
        | inl chain ↦ inl chain
        | inr same ↦ elim (next.arenas b m.0 x m.1 there) [
          | inl chain ↦ inl (up_before old mid first.fixed k b chain)
          | inr later ↦ inr (later ∙ same)
        ]
      ];
  owned = λ b s x at there. (let m = then_at mid new next.fixed b x there in next.owned b m.0 x m.1 there ∙ first.owned b s m.0 at m.1);
  caches = λ b s x ne at there. (let m = then_at mid new next.fixed b x there in next.caches b m.0 x ne m.1 there ∙ first.caches b s m.0 ne at m.1);
  rounds = λ b ne f. next.rounds b ne f ∙ first.rounds b ne f;
  leases = next.leases ∙ first.leases;
}

-- what stands after a write at the index
module _ (old new : List SpaceState) (i : ℕ) (s y : SpaceState) (at : slice_get old i ≡ Some s) (after : new ≡ set old i y) where
  after_write : (b : ℕ) (z x : SpaceState) → slice_get old b ≡ Some z → slice_get new b ≡ Some x → ((b ≡ i) × (z ≡ s) × (x ≡ y)) ⊎ (x ≡ z)
  after_write b z x before there = elim (written old i b y x (subst (λ (xs : List SpaceState). slice_get xs b ≡ Some x) after there)) [
    | inl same_index ↦ inl (same_index.0, slice_get_one old i z s (subst (λ k. slice_get old k ≡ Some z) same_index.0 before) at, same_index.1)
    | inr other ↦ inr (slice_get_one old b x z other.1 before)
  ]

pub arena_step_off_chain : ArenaStepOffChain
arena_step_off_chain k i old new before after s a up at is fixed owned leases cpus = record {
  fixed = fixed;
  arenas = λ b z x there now. elim (after_write old new i s (with_arena a s) at is b z x there now) [
    | inl same_index ↦ inl (subst (IsUpFrom old k) (sym same_index.0) up)
    | inr same ↦ inr (ap (λ (y : SpaceState). y.arena) same)
  ];
  owned = λ b z x there now. elim (after_write old new i s (with_arena a s) at is b z x there now) [
    | inl same_index ↦ ap (λ (y : SpaceState). y.arena.owned) same_index.2 ∙ owned ∙ sym (ap (λ (y : SpaceState). y.arena.owned) same_index.1)
    | inr same ↦ ap (λ (y : SpaceState). y.arena.owned) same
  ];
  caches = λ b z x ne there now. elim (after_write old new i s (with_arena a s) at is b z x there now) [
    | inl same_index ↦ ap (λ (y : SpaceState). y.caches) same_index.2 ∙ sym (ap (λ (y : SpaceState). y.caches) same_index.1)
    | inr same ↦ ap (λ (y : SpaceState). y.caches) same
  ];
  rounds = λ b ne f. ap (λ (os : List OwnCacheState). sum_by (of_arena b f) (all_own_rounds os)) cpus;
  leases = leases;
}

pub cache_step_off_chain : CacheStepOffChain
cache_step_off_chain k old new before after s cs at is fixed leases rounds = record {
  fixed = fixed;
  arenas = λ b z x there now. elim (after_write old new k s (with_caches cs s) at is b z x there now) [
    | inl same_index ↦ inl (subst (IsUpFrom old k) (sym same_index.0) (here k))
    | inr same ↦ inr (ap (λ (y : SpaceState). y.arena) same)
  ];
  owned = λ b z x there now. elim (after_write old new k s (with_caches cs s) at is b z x there now) [
    | inl same_index ↦ ap (λ (y : SpaceState). y.arena.owned) same_index.2 ∙ sym (ap (λ (y : SpaceState). y.arena.owned) same_index.1)
    | inr same ↦ ap (λ (y : SpaceState). y.arena.owned) same
  ];
  caches = λ b z x ne there now. elim (after_write old new k s (with_caches cs s) at is b z x there now) [
    | inl same_index ↦ absurd (ne same_index.0)
    | inr same ↦ ap (λ (y : SpaceState). y.caches) same
  ];
  rounds = rounds;
  leases = leases;
}
