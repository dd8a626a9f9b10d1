-- What looks at the book of a running system add up to.
use Rattle.std.proofs.Common.{◌≡◌, ℕ, ◌+◌, ◌-◌, ◌^◌, min, List, slice_get, Option, Some, None, ap, sym, subst, refl, arith, add-one}
use Rattle.std.specs.Option.{option_map}
use Rattle.lease_book.specs.Account.{Account}
use Rattle.lease_book.specs.Reports.{report_of}
use Rattle.lease_book.specs.declared.reports.ClientReport.{ClientReport}
use Rattle.shared_book.specs.Sums.{LooksTell, LookTells, leases_from, leases_of}

-- what is told of a client has as many leases as its account
pub reported : (o : Option Account) (r : ClientReport) → option_map report_of o ≡ Some r → leases_of o ≡ r.leases
reported None r is = absurd (cc)
reported (Some a) r is = ap leases_told is
  where
    leases_told : Option ClientReport → ℕ
    leases_told None = 0
    leases_told (Some t) = t.leases

pub none_reported : (o : Option Account) → option_map report_of o ≡ None → leases_of o ≡ 0
none_reported None is = refl
none_reported (Some a) is = absurd (cc)

-- one account more
pub leases_more : (accounts : List Account) (from k old one new : ℕ) → old ≡ min (leases_from accounts from k) (2 ^ 64 - 1) → one ≡ leases_of (slice_get accounts (from + k)) → new ≡ min (old + one) (2 ^ 64 - 1) → new ≡ min (leases_from accounts from (k + 1)) (2 ^ 64 - 1)
leases_more accounts from k old one new before this more =
    let next = ap (leases_from accounts from) (add-one k) in
    omega (arith, before, this, more, next)

-- one look more
pub looks_more : (look old one new : ℕ) → LooksTell look old → LookTells look one → new ≡ min (old + one) (2 ^ 64 - 1) → LooksTell (look + 1) new
looks_more look old one new before this more = subst (λ n. LooksTell n new) (sym (add-one look)) (old, one, before, this, more)
