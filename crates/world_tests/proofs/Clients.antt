-- The clients of a world that is being made.
use Rattle.std.proofs.Common.{◌≡◌, ℕ, ◌+◌, ◌≤◌, List, [], ◌∷◌, ◌++◌, sym, subst, inl, inr, arith}
use Rattle.lease_client.specs.ClientState.{ClientState, silent_client}
use Rattle.deed_core.proofs.LawProofs.{pushed}
use Rattle.world_core.specs.WorldState.{WorldState, Each}

-- the clients have numbers up to this one
abbrev pub AreUpTo : ℕ → List ClientState → Type 0
AreUpTo n clients = Each (λ c. c.id ≤ n) clients

one_more : (n : ℕ) (clients : List ClientState) → AreUpTo n clients → AreUpTo (n + 1) (clients ++ silent_client (n + 1) ∷ [])
one_more n clients all k c at = elim (pushed clients k (silent_client (n + 1)) c at) [
  | inl is ↦ subst (λ x. x.id ≤ n + 1) (sym is.1) (omega arith)
  | inr there ↦ omega (arith, all k c there)
]

-- nothing was said or leased in the world, and its clients have numbers up to this one
abbrev pub HasClients : ℕ → WorldState → Type 0
HasClients n w = (w.entries ≡ []) × (w.requests ≡ []) × AreUpTo n w.clients

pub joined : (n : ℕ) (old new : WorldState) (id : ℕ) → id ≡ n + 1
    → new ≡ record old { clients = old.clients ++ silent_client id ∷ [] } → HasClients n old → HasClients (n + 1) new
joined n old new id next is has =
    let all : AreUpTo (n + 1) (old.clients ++ silent_client id ∷ []) =
    subst (λ i. AreUpTo (n + 1) (old.clients ++ silent_client i ∷ [])) (sym next) (one_more n old.clients has.2) in
    subst (HasClients (n + 1)) (sym is) (has.0, has.1, all)
