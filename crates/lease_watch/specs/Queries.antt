-- What the query of a request asks a list of: parameters, each a name and a value.
use Rattle.std.specs.Prelude.{ℕ, List, [], ◌∷◌, Option, Some, None, option_and_then}
use Rattle.std.specs.Prelude.{◌&&◌, nat_le, if◌then◌else◌, codes}
use Rattle.std.specs.Str.{bytes_eq}
use Rattle.form_urlencoded.specs.Form.{raw_pairs}
use Rattle.lease_proto.specs.Words.{number_in}
use Rattle.lease_terms.specs.Names.{is_name}
use Rattle.lease_watch.specs.declared.queries.Listed.{Listed}
use Rattle.lease_watch.specs.declared.queries.Listed.TheVariants as listed
use Rattle.lease_watch.specs.declared.queries.ListQuery.{ListQuery}
use Rattle.lease_watch.specs.declared.queries.TheConstants.{MOST_ROWS}

-- the value of the first parameter of this name
abbrev pub first_value : List ℕ → List (List ℕ × List ℕ) → Option (List ℕ)
first_value name [] = None
first_value name (pair ∷ more) = if bytes_eq pair.0 name then Some pair.1 else first_value name more

abbrev pub value_in : List ℕ → List ℕ → Option (List ℕ)
value_in query name = first_value name (raw_pairs query)

-- the number that a parameter has
abbrev pub number_of : List ℕ → List ℕ → Option ℕ
number_of query name = option_and_then number_in (value_in query name)

-- a text that is a name
abbrev pub name_of : List ℕ → Option (List ℕ)
name_of text = if is_name text then Some text else None

-- from where on, and how many
abbrev pub ranged : Listed → ℕ → ℕ → Option ListQuery
ranged of from count =
    if nat_le 1 count && nat_le count MOST_ROWS
    then Some (record { of = of; from = from; count = count })
    else None

abbrev pub list_in : List ℕ → Listed → Option ListQuery
list_in query of =
    option_and_then
    (λ from. option_and_then (ranged of from) (number_of query (codes "count")))
    (number_of query (codes "from"))

-- `arena=NAME&from=UNIT&count=N`
abbrev pub leases_in : List ℕ → Option ListQuery
leases_in query =
    option_and_then
    (λ text. option_and_then (λ name. list_in query (listed.Arena name)) (name_of text))
    (value_in query (codes "arena"))

-- `from=CLIENT&count=N`
abbrev pub clients_in : List ℕ → Option ListQuery
clients_in query = list_in query listed.Clients
