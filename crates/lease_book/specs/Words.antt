-- What contracts see of a hello that a book took.
use Rattle.std.specs.Prelude.{ℕ}
use Rattle.lease_terms.specs.declared.protocols.Protocol.{Protocol}

-- the client, its incarnation, and the protocol that stands for that
pub record Greeted : Type 0 where
  pub client : ℕ
  pub incarnation : ℕ
  pub protocol : Protocol
