-- Lists of the leases of all clients.
use Rattle.std.specs.Prelude.{◌≡◌, ℕ, zero, suc, List, [], ◌++◌}
use Rattle.lease_watch.specs.declared.queries.ListQuery.{ListQuery}
use Rattle.lease_watch.specs.declared.rows.LeaseRow.{LeaseRow}
use Rattle.lease_watch.specs.Rows.{listed_of}

-- the clients at so many places, from the first on, may have these leases, each at some moment
abbrev pub MayHaveEach : (ℕ → List LeaseRow → Type 0) → ℕ → List LeaseRow → Type 0
MayHaveEach may_have zero all = all ≡ []
MayHaveEach may_have (suc place) all = (before : List LeaseRow) × (more : List LeaseRow)
    × MayHaveEach may_have place before × may_have place more × (all ≡ before ++ more)

-- so many clients there may be, and of the leases that each may have these are asked for
abbrev pub MayList : (ℕ → Type 0) → (ℕ → List LeaseRow → Type 0) → ListQuery → List LeaseRow
    → Type 0
MayList may_count may_have query rows = (count : ℕ) × (all : List LeaseRow)
    × may_count count × MayHaveEach may_have count all × (rows ≡ listed_of query all)
