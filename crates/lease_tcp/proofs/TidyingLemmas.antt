-- Arenas that are reaped from the last on.
use Rattle.std.proofs.Common.{◌≡◌, ◌<◌, ◌-◌, ℕ, suc, arith, subst, sym}
use Rattle.lease_tcp.specs.Tidying.{ReapsBelow}

before : (n : ℕ) → 0 < n → n ≡ suc (n - 1)
before n some = search arith

-- one more is reaped before the others
pub one_more : {U : Type 0} (may_reap : U → ℕ → U → Type 0) (n : ℕ) → 0 < n → (old mid new : U) → may_reap old (n - 1) mid
    → ReapsBelow may_reap (n - 1) mid new → ReapsBelow may_reap n old new
one_more may_reap n some old mid new reaps rest = subst (λ (k : ℕ). ReapsBelow may_reap k old new) (sym (before n some)) (mid, reaps, rest)
