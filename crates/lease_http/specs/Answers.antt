-- What a request is answered.
use Rattle.std.specs.Prelude.{◌≡◌, ℕ, Bool, true, List, [], ◌∷◌, codes, if◌then◌else◌, unwrap_or}
use Rattle.http.specs.declared.request.Request.{Request}
use Rattle.http.specs.Request.{head_of}
use Rattle.http_uri.specs.Uri.{uri_path, uri_query}
use Rattle.http_server.specs.declared.response.Response.{Response}
use Rattle.http_server.specs.Response.{IsResponse}
use Rattle.http1.specs.Fields.{Header}
use Rattle.lease_watch.specs.declared.looks.Looks.{Looks}
use Rattle.lease_watch.specs.declared.queries.Listed.{Listed}
use Rattle.lease_watch.specs.declared.queries.Listed.TheVariants as listed
use Rattle.lease_watch.specs.declared.requests.Wanted.{Wanted}
use Rattle.lease_watch.specs.declared.requests.Wanted.TheVariants as wanted
use Rattle.lease_watch.specs.declared.rows.LeaseRow.{LeaseRow}
use Rattle.lease_watch.specs.declared.seen.Seen.{Seen}
use Rattle.lease_http.specs.Listing.{MayList}
use Rattle.lease_watch.specs.Looks.{after_look, since, work_of}
use Rattle.lease_watch.specs.Metrics.{metrics_text}
use Rattle.lease_watch.specs.Pages.{page_text}
use Rattle.lease_watch.specs.Requests.{asked_of, status_of}
use Rattle.lease_watch.specs.Rows.{list_text}

-- what a request asks for: by its method, its target up to a question mark, and what follows
abbrev pub wanted_by : Request (List ℕ) → Wanted
wanted_by request =
    asked_of (head_of request).method (uri_path (head_of request).uri)
    (unwrap_or (uri_query (head_of request).uri) [])

-- there is what is to be listed, by the names of arenas
abbrev pub lists : (List ℕ → Bool) → Listed → Bool
lists knows (listed.Arena name) = knows name
lists knows listed.Clients = true

-- what is wanted of a server that has some arenas
abbrev pub known : (List ℕ → Bool) → Wanted → Wanted
known knows (wanted.Leases query) =
    if lists knows query.of then wanted.Leases query else wanted.NotFound
known knows w = w

-- what is seen, with what was done since the older look
abbrev pub shown : Looks → Seen → Seen
shown looks seen = record seen { lately = since looks.older (work_of seen) }

-- the looks after one at this
abbrev pub looked : Looks → Seen → Looks
looked looks seen = after_look looks (work_of seen)

-- the kind of the answer's bytes
abbrev pub type_of : Wanted → List ℕ
type_of wanted.Page = codes "text/html; charset=utf-8"
type_of wanted.Metrics = codes "text/plain; version=0.0.4; charset=utf-8"
type_of (wanted.Leases query) = codes "application/json"
type_of wanted.BadQuery = codes "text/plain; charset=utf-8"
type_of wanted.Health = codes "text/plain; charset=utf-8"
type_of wanted.NotFound = codes "text/plain; charset=utf-8"
type_of wanted.NotAllowed = codes "text/plain; charset=utf-8"

-- the fields of an answer: no other follows on its connection, and none keeps it
abbrev pub fields_for : Wanted → List Header
fields_for w =
    (codes "content-type", type_of w) ∷ (codes "connection", codes "close")
    ∷ (codes "cache-control", codes "no-store") ∷ (codes "allow", codes "GET, HEAD") ∷ []

-- an answer that needs no look at the server
abbrev pub plain_body : Wanted → Bool → List ℕ
plain_body wanted.Health serves = if serves then codes "ok\n" else codes "stopping\n"
plain_body wanted.BadQuery serves =
    codes
    "ask for ?arena=NAME&from=UNIT&count=N or ?from=CLIENT&count=N, N from 1 to 1000\n"
plain_body wanted.NotFound serves = codes "not found\n"
plain_body wanted.NotAllowed serves = codes "it can only be read\n"
plain_body w serves = []

-- an answer by a look at the server
abbrev pub ShowsBy : (Seen → Type 0) → (Seen → List ℕ) → Looks → List ℕ → Looks → Type 0
ShowsBy may_see text old body new =
    (seen : Seen) × may_see seen × (new ≡ looked old seen) × (body ≡ text (shown new seen))

-- By what may be seen, how many clients there may be, and what each of them may have.
module _ (may_see : Seen → Type 0) (may_count : ℕ → Type 0) (may_have : ℕ → List LeaseRow → Type 0)
  where
    -- the bytes of an answer, by the looks before and after
    abbrev pub ShowsBody : Wanted → Bool → Looks → List ℕ → Looks → Type 0
    ShowsBody wanted.Page serves old body new = ShowsBy may_see page_text old body new
    ShowsBody wanted.Metrics serves old body new = ShowsBy may_see metrics_text old body new
    ShowsBody (wanted.Leases query) serves old body new = (new ≡ old)
        × (rows : List LeaseRow) × MayList may_count may_have query rows × (body ≡ list_text rows)
    ShowsBody w serves old body new = (new ≡ old) × (body ≡ plain_body w serves)

    -- a request's answer, of a server that has some arenas, and may be found serving or not
    abbrev pub Shows : (List ℕ → Bool) → (Bool → Type 0) → Looks → Request (List ℕ) → Response → Looks
        → Type 0
    Shows knows may_serve old request response new =
        let w = known knows (wanted_by request) in
        (serves : Bool) × (body : List ℕ) × may_serve serves
        × IsResponse (status_of w serves) (fields_for w) body response
        × ShowsBody w serves old body new
