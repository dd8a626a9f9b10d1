-- What calls of the parts make of a world.
use Rattle.std.proofs.Common.{◌≡◌, ◌<◌, ◌||◌, nat_lt, ℕ, suc, Bool, true, false, List, [], ◌∷◌, ◌++◌, map, reverse, set, Option, Some, None, Err, refl, sym, subst, ap, ◌∙◌}
use Rattle.std.specs.Prelude.{slice_get, if◌then◌else◌}
use Rattle.std.specs.List.{find, list_any}
use Rattle.std.proofs.lemmas.Bool.{ltb-true, lt-ltb, false≢true}
use Rattle.std.proofs.lemmas.List.Folds.{list_any_at}
use Rattle.std.proofs.lemmas.Option.{slice_get_within, get_or_from_slice_get}
use Rattle.std.proofs.lemmas.List.{reverse-append, map-append}
use Rattle.deed_core.specs.Tag.{Tag}
use Rattle.deed_core.proofs.LawProofs.{set_same}
use Rattle.lease_terms.specs.Requests.{RequestId}
use Rattle.lease_proto.specs.declared.lines.Line.{Line}
use Rattle.lease_proto.specs.declared.lines.Op.{Op}
use Rattle.lease_book.specs.Entry.{Entry, Swept}
use Rattle.lease_book.specs.BookState.{BookState, account_in}
use Rattle.lease_book.specs.Account.{Lease, lease_of, is_older}
use Rattle.lease_book.specs.Calls.{IsSwept}
use Rattle.lease_client.specs.ClientState.{ClientState}
use Rattle.lease_client.specs.Calls.{IsSent, refusal}
use Rattle.lease_client.specs.declared.faults.SendFault.{SendFault}
use Rattle.lease_client.specs.declared.faults.SendFault.TheVariants.{NotOpen, Busy, NotHeld, Exhausted, NoMemory}
use Rattle.world_core.specs.declared.logs.Logged.{Logged}
use Rattle.world_core.specs.WorldState.{WorldState, IsAmong, logged_entry, entries_of}
use Rattle.world_core.specs.Moves.{sent_again}
use Rattle.world_core.specs.Events.{EndsAs}
use Rattle.world_core.specs.declared.events.WorldEvent.TheVariants as events
use Rattle.world_core.specs.declared.events.Outcome.TheVariants.{Done}

-- a member is put onto a list that got room for it
pub onto : {X : Type 0} (new mid old : List X) (x : X) → new ≡ mid ++ x ∷ [] → mid ≡ old → new ≡ old ++ x ∷ []
onto new mid old x put same = put ∙ ap (λ (xs : List _). xs ++ x ∷ []) same

-- an entry is stored
pub logged_on : (new old : List Logged) (e : Logged) → new ≡ old ++ e ∷ [] → entries_of new ≡ logged_entry e ∷ entries_of old
logged_on new old e is = ap entries_of is ∙ ap reverse (map-append logged_entry old (e ∷ [])) ∙ reverse-append (map logged_entry old) (logged_entry e ∷ [])

pub found_among : {X : Type 0} (test : X → Bool) (xs : List X) (x : X) → find test xs ≡ Some x → IsAmong x xs
found_among test [] x is = absurd (let e : None ≡ Some x = is in cc)
found_among test (y ∷ xs) x is = by (test y) (λ there. found_among test xs x there) is
  where
    by : (b : Bool) → (find test xs ≡ Some x → IsAmong x xs) → (if b then Some y else find test xs) ≡ Some x → IsAmong x (y ∷ xs)
    by true more here = (0, here)
    by false more there = (let rest = more there in (suc rest.0, rest.1))

-- Clients.

-- a client that says nothing is as it was
pub unsaid : (w : WorldState) (index : ℕ) (read back : ClientState) (requests : List Line) → slice_get w.clients index ≡ Some read → back ≡ read → requests ≡ w.requests
    → record w { clients = set w.clients index back; requests = requests } ≡ w
unsaid w index read back requests here same lines =
    let clients : set w.clients index back ≡ w.clients = ap (set w.clients index) same ∙ set_same w.clients index read here in
    λ j. record w { clients = clients j; requests = lines j }

pub not_sent : (op : Op) (old new : ClientState) (fault : SendFault) → IsSent op old new (Err fault) → ((back : Op) → fault ≡ NoMemory back → ⊥)
    → (refusal op old ≡ Some fault) × (new ≡ old)
not_sent op old new (NotOpen back) sent other = sent
not_sent op old new (Busy back) sent other = sent
not_sent op old new (NotHeld back) sent other = sent
not_sent op old new (Exhausted back) sent other = sent
not_sent op old new (NoMemory back) sent other = absurd (other back refl)

pub said_again : (w : WorldState) (index : ℕ) (number : Option ℕ) (x : ClientState) (line : Line) (requests : List Line) → slice_get w.clients index ≡ Some x → sent_again number x ≡ Some line
    → requests ≡ w.requests ++ line ∷ [] → EndsAs (events.Repeats index number) Done w (record w { requests = requests })
said_again w index number x line requests here out lines =
    let same : w.clients ≡ set w.clients index x = sym (set_same w.clients index x here) in (
      (x, line, here, out),
      record {
        client = x;
        next = x;
        line = line;
        at = here;
        may = (out, refl);
        after = λ j. record w { clients = same j; requests = lines j };
      },
    )

-- The book.

-- the test for a lease of an incarnation before this one finds one that stands
pub old_lease_found : (i : ℕ) (xs : List Lease) → list_any (is_older i) xs ≡ true → (l : Lease) × IsAmong l xs × (l.incarnation < i)
old_lease_found i [] is = absurd (false≢true is)
old_lease_found i (x ∷ xs) is = by (nat_lt x.incarnation i) refl (old_lease_found i xs) is
  where
    by : (b : Bool) → nat_lt x.incarnation i ≡ b → (list_any (is_older i) xs ≡ true → (l : Lease) × IsAmong l xs × (l.incarnation < i)) → (b || list_any (is_older i) xs) ≡ true
        → (l : Lease) × IsAmong l (x ∷ xs) × (l.incarnation < i)
    by true older more is = (x, (0, refl), ltb-true _ _ older)
    by false newer more is = (let rest = more is in (rest.0, (suc rest.1.0, rest.1.1), rest.2))

-- and each that stands
pub old_lease_counts : (i : ℕ) (xs : List Lease) (l : Lease) (k : ℕ) → slice_get xs k ≡ Some l → l.incarnation < i → list_any (is_older i) xs ≡ true
old_lease_counts i xs l k at older =
    list_any_at (is_older i) xs k l (slice_get_within xs k l at) (ap (is_older i) (get_or_from_slice_get xs k l l at) ∙ lt-ltb _ _ older)

pub sweeps : (w : WorldState) (cpu c : ℕ) (id : RequestId) (t : Tag) (book : BookState) (entries : List Entry) (hands : List (Option Tag)) → slice_get w.hands cpu ≡ Some None
    → IsSwept w.book book c id t → entries ≡ Swept id.client id.incarnation t.arena t.holding.range.base ∷ w.entries → hands ≡ set w.hands cpu (Some t)
    → EndsAs (events.Sweeps cpu c) Done w (record w { hands = hands; book = book; entries = entries })
sweeps w cpu c id t book entries hands empty swept more held =
    let mine : id.client ≡ c = swept.client in
    let among : IsAmong (lease_of id t) (account_in c w.book).leases = subst (λ (d : ℕ). IsAmong (lease_of id t) (account_in d w.book).leases) mine (found_among _ _ _ swept.ended.lease) in (
      (empty, (lease_of id t, among, swept.older)),
      record {
        id = id;
        segment = t;
        book = book;
        empty = empty;
        swept = swept;
        after = λ j. record w { hands = held j; book = book; entries = more j };
      },
    )
