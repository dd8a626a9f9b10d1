-- What a request asks for.
use Rattle.std.specs.Prelude.{ℕ, Bool, List, Option, Some, None, ◌||◌, if◌then◌else◌, codes}
use Rattle.std.specs.Str.{bytes_eq}
use Rattle.lease_watch.specs.declared.queries.ListQuery.{ListQuery}
use Rattle.lease_watch.specs.declared.requests.Wanted.{Wanted}
use Rattle.lease_watch.specs.declared.requests.Wanted.TheVariants as wanted
use Rattle.lease_watch.specs.Queries.{leases_in, clients_in}

-- the methods that are answered
abbrev pub is_read : List ℕ → Bool
is_read method = bytes_eq method (codes "GET") || bytes_eq method (codes "HEAD")

-- what a list is asked, if its query is one
abbrev pub list_by : Option ListQuery → Wanted
list_by None = wanted.BadQuery
list_by (Some query) = wanted.Leases query

-- what lies at a path
abbrev pub page_at : List ℕ → List ℕ → Wanted
page_at path query =
    if bytes_eq path (codes "/") then wanted.Page
    else if bytes_eq path (codes "/metrics") then wanted.Metrics
    else if bytes_eq path (codes "/healthz") then wanted.Health
    else if bytes_eq path (codes "/leases") then list_by (leases_in query)
    else if bytes_eq path (codes "/clients") then list_by (clients_in query)
    else wanted.NotFound

-- what another method asks for
abbrev pub unread : Wanted → Wanted
unread wanted.NotFound = wanted.NotFound
unread w = wanted.NotAllowed

-- what a method asks for at a path: where nothing lies no method is better than another
abbrev pub asked_of : List ℕ → List ℕ → List ℕ → Wanted
asked_of method path query =
    if is_read method then page_at path query else unread (page_at path query)

-- the status of an answer, of a server that serves or that is about to stop
abbrev pub status_of : Wanted → Bool → ℕ
status_of wanted.Page serves = 200
status_of wanted.Metrics serves = 200
status_of wanted.Health serves = if serves then 200 else 503
status_of (wanted.Leases query) serves = 200
status_of wanted.BadQuery serves = 400
status_of wanted.NotFound serves = 404
status_of wanted.NotAllowed serves = 405
