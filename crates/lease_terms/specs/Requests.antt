-- What contracts see of a request's id, and the ranges of its numbers.
use Rattle.std.specs.Prelude.{ℕ}
use Rattle.lease_terms.specs.Ranges.{IsClient, IsOrdinal}

-- whose request, of which incarnation of the client, and which one of that
pub record RequestId : Type 0 where
  pub client : ℕ
  pub incarnation : ℕ
  pub number : ℕ

-- each of the three numbers is in its range
pub record IsRequestId (id : RequestId) : Type 0 where
  pub client : IsClient id.client
  pub incarnation : IsOrdinal id.incarnation
  pub number : IsOrdinal id.number
