-- What a client begins with, and what it holds.
use Rattle.std.proofs.Common.{refl, arith}
use Rattle.std.proofs.lemmas.Bool.{false≢true}
use Rattle.lease_book.specs.History.{leases_of}
use Rattle.lease_history.specs.Known.{weight_in, weight_left}
use Rattle.lease_history.specs.Laws.{ClientsBeginKnown, HeldIsLeased}
use Rattle.lease_history.proofs.Sums.{sum_le}
use Rattle.lease_history.proofs.PlaceLemmas.{left_most}

pub clients_begin_known : ClientsBeginKnown
clients_begin_known names id is = record {
  sound = record {
    id = is;
    incarnation = omega arith;
    first = omega arith;
    last = omega arith;
    begun = λ never. absurd (false≢true never);
    closed = λ shut. refl;
    outstanding = tt;
  };
  behind = omega arith;
  before = omega arith;
  protocol = λ never. absurd (false≢true never);
  waits = λ own client incarnation from below none. absurd (omega (arith, from, below));
  once = λ arena base. omega arith;
  ending = λ arena base. omega arith;
  held = λ f. omega arith;
}

pub held_is_leased : HeldIsLeased
held_is_leased names es c f know = omega (
  arith,
  know.held f,
  sum_le (weight_left names c.incarnation es c.outstanding f) (weight_in names c.incarnation f) (left_most names c.incarnation es c.outstanding f) (leases_of c.id es),
)
