-- Lists of leases, and their texts.
use Rattle.std.specs.Prelude.{◌+◌, ◌-◌, ◌^◌, ℕ, Bool, List, [], ◌∷◌, ◌++◌, ◌&&◌, nat_lt, nat_le, min}
use Rattle.std.specs.Prelude.{if◌then◌else◌, take, insert, fold, filter, codes, decimal}
use Rattle.std.specs.List.{flat_map, position_or_len}
use Rattle.std.specs.List.Sorted.{IsNonDecreasingBy}
use Rattle.std.specs.Str.{bytes_eq}
use Rattle.lease_watch.specs.declared.queries.Listed.{Listed}
use Rattle.lease_watch.specs.declared.queries.Listed.TheVariants as listed
use Rattle.lease_watch.specs.declared.queries.ListQuery.{ListQuery}
use Rattle.lease_watch.specs.declared.rows.LeaseRow.{LeaseRow}

-- the lease is of the arena and doesn't end before the first unit (no end is above 2^62), or of a
-- client from the first on
abbrev pub takes_of : Listed → ℕ → LeaseRow → Bool
takes_of (listed.Arena name) from row =
    bytes_eq row.arena name && nat_lt from (min (row.base + row.units) (2 ^ 64 - 1))
takes_of listed.Clients from row = nat_le from row.client

-- it is asked for
abbrev pub takes : ListQuery → LeaseRow → Bool
takes q row = takes_of q.of q.from row

abbrev pub key_of : Listed → LeaseRow → ℕ
key_of (listed.Arena name) row = row.base
key_of listed.Clients row = row.client

-- by what the list is sorted
abbrev pub key : ListQuery → LeaseRow → ℕ
key q row = key_of q.of row

-- the one stands before the other
abbrev pub comes_before : ListQuery → LeaseRow → LeaseRow → Bool
comes_before q row other = nat_lt (key q row) (key q other)

-- a lease is put before the first that it comes before
abbrev pub put_in : ListQuery → List LeaseRow → LeaseRow → List LeaseRow
put_in q rows row = insert rows (position_or_len (comes_before q row) rows) row

-- a list after a look at a further lease
abbrev pub after_look : ListQuery → List LeaseRow → LeaseRow → List LeaseRow
after_look q rows row = if takes q row then take q.count (put_in q rows row) else rows

-- no lease comes before one that stands before it
abbrev pub IsInOrder : ListQuery → List LeaseRow → Type 0
IsInOrder q rows = IsNonDecreasingBy (key q) rows

-- what is asked for of these leases: in order, and the first of them
abbrev pub listed_of : ListQuery → List LeaseRow → List LeaseRow
listed_of q rows = take q.count (fold (put_in q) [] (filter (takes q) rows))

-- a further member of an object
unfoldable pub member : List ℕ → ℕ → List ℕ
member name number = codes ",\"" ++ name ++ codes "\":" ++ decimal number

-- the begin of an object: the units of a lease
unfoldable pub units_text : LeaseRow → List ℕ
units_text r =
    codes "\n{\"arena\":\"" ++ r.arena ++ codes "\"" ++ member (codes "base") r.base
    ++ member (codes "units") r.units

unfoldable pub row_text : LeaseRow → List ℕ
row_text r =
    units_text r ++ member (codes "client") r.client
    ++ member (codes "incarnation") r.incarnation ++ member (codes "request") r.request
    ++ codes "}"

-- a row behind another
abbrev pub next_text : LeaseRow → List ℕ
next_text r = codes "," ++ row_text r

unfoldable pub rows_text : List LeaseRow → List ℕ
rows_text [] = []
rows_text (first ∷ more) = row_text first ++ flat_map next_text more

-- an array with a line for each
abbrev pub list_text : List LeaseRow → List ℕ
list_text rows = codes "[" ++ rows_text rows ++ codes "\n]\n"
