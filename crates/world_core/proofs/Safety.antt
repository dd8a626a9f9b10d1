-- A world is safe.
use Rattle.std.proofs.Common.{◌≡◌, ℕ, zero, suc, ◌≤◌, ◌==◌, Bool, true, false, List, [], ◌∷◌, map, Some, None, subst, ap, arith}
use Rattle.std.specs.Prelude.{slice_get, if◌then◌else◌, sum_by}
use Rattle.deed_core.specs.Tag.{Tag}
use Rattle.deed_core.specs.Request.{Fits}
use Rattle.deed_core.proofs.LawProofs.{sum_by-map}
use Rattle.stock.specs.Accounts.{IsAccounted}
use Rattle.stock.proofs.LawProofs.{one_home}
use Rattle.stock_audit.specs.Outside.{out_of, segments_out}
use Rattle.stock_audit.proofs.LawProofs.{accounted_balances, allocated_is_out, exported_is_children}
use Rattle.lease_terms.specs.Requests.{RequestId}
use Rattle.lease_proto.specs.declared.replies.Reply.{Reply}
use Rattle.lease_proto.specs.declared.replies.Reply.TheVariants as replies
use Rattle.lease_book.specs.Account.{Lease, Account}
use Rattle.lease_book.specs.Entry.{Entry, Settled, Hello, Swept, Grant}
use Rattle.lease_book.specs.declared.receipts.Terms.{Terms}
use Rattle.lease_book.specs.History.{leases_of, AreOrderly}
use Rattle.lease_book.specs.BookState.{segments, weight_of_leases, leased_segments}
use Rattle.lease_book.proofs.LawProofs.{account_is, leases_are_the_clients}
use Rattle.lease_client.specs.declared.held.HeldSegment.{HeldSegment}
use Rattle.lease_client.specs.ClientState.{ClientState}
use Rattle.lease_history.specs.Known.{told_segment, weight_in}
use Rattle.lease_history.specs.Told.{IsOutcome, MayTell}
use Rattle.lease_history.proofs.LawProofs.{held_is_leased, replies_agree}
use Rattle.world_core.specs.WorldState.{WorldState, arena_name, outside_of}
use Rattle.world_core.specs.IsWorld.{IsWorld}
use Rattle.world_core.specs.Safe.{SettlesIt, Safe, AlwaysSafe}
use Rattle.world_core.proofs.Keeps.{events_keep}
use Rattle.world_core.proofs.HeldLemmas.{sum_le, held_apart}

-- what leases of an incarnation weigh is no more than what all weigh
in_le : (names : ℕ → List ℕ) (i : ℕ) (f : HeldSegment → ℕ) (leases : List Lease) → sum_by (weight_in names i f) leases ≤ sum_by (λ t. f (told_segment names t)) (segments leases)
in_le names i f leases =
    let e = sum_by-map (λ (t : Tag). f (told_segment names t)) (λ (l : Lease). l.segment) leases in
    omega (arith, e, sum_le (weight_in names i f) (λ (l : Lease). f (told_segment names l.segment)) leases (λ k l at. by l (i == l.incarnation)))
  where
    by : (l : Lease) (b : Bool) → (if b then f (told_segment names l.segment) else 0) ≤ f (told_segment names l.segment)
    by l true = omega arith
    by l false = omega arith

-- what clients hold together is leased
all_held : (w : WorldState) → IsWorld w → (f : HeldSegment → ℕ)
    → sum_by (λ (c : ClientState). sum_by f c.held) w.clients ≤ sum_by (λ t. f (told_segment (arena_name w.names) t)) (leased_segments w.book)
all_held w is f =
    let names = arena_name w.names in
    let g : Tag → ℕ = λ t. f (told_segment names t) in
    let each = sum_le (λ (c : ClientState). sum_by f c.held) (λ (c : ClientState). weight_of_leases g w.book c.id) w.clients
    (λ k c at. (let h = held_is_leased names w.entries c f (is.known k c at) in
    let le = in_le names c.incarnation f (leases_of c.id w.entries) in
    let e : weight_of_leases g w.book c.id ≡ sum_by g (segments (leases_of c.id w.entries)) = ap (λ (a : Account). sum_by g (segments a.leases)) (account_is w.entries w.book c.id is.book) in
    omega arith)) in
    let some = leases_are_the_clients.some w.book (map (λ (c : ClientState). c.id) w.clients) g (w.entries, is.book) is.ids in
    let e = sum_by-map (weight_of_leases g w.book) (λ (c : ClientState). c.id) w.clients in
    omega arith

accounted : (w : WorldState) → IsWorld w → IsAccounted w.stock (segments_out (outside_of w))
accounted w is = accounted_balances w.stock (outside_of w) is.parts

-- what a reply tells of the request that it settles
told_of : (names : ℕ → List ℕ) (es : _) (id : RequestId) (reply : Reply) → MayTell names es reply → SettlesIt id reply → IsOutcome names es id reply
told_of names es id (replies.Granted g) told of = subst (λ (i : RequestId). IsOutcome names es i (replies.Granted g)) of told
told_of names es id (replies.Released named) told of = subst (λ (i : RequestId). IsOutcome names es i (replies.Released named)) of told
told_of names es id (replies.Refused r) told of = subst (λ (i : RequestId). IsOutcome names es i (replies.Refused r)) of told
told_of names es id (replies.Welcome r) told of = absurd of
told_of names es id (replies.Old r) told of = absurd of
told_of names es id (replies.Stale r) told of = absurd of
told_of names es id (replies.Gap r) told of = absurd of
told_of names es id (replies.Again r) told of = absurd of
told_of names es id (replies.Error r) told of = absurd of

-- a grant among orderly entries fits
fits_in : (es : List Entry) (k : ℕ) (id : RequestId) (t : Tag) (terms : Terms) → AreOrderly es → slice_get es k ≡ Some (Settled id (Grant t terms))
    → Fits terms.quantum terms.request t.holding.range.base t.holding.range.len
fits_in [] k id t terms orderly at = absurd (let e : None ≡ Some (Settled id (Grant t terms)) = at in cc)
fits_in (e ∷ es) zero id t terms orderly at =
    let is : e ≡ Settled id (Grant t terms) = cc in
    let there : AreOrderly (Settled id (Grant t terms) ∷ es) = subst (λ (x : Entry). AreOrderly (x ∷ es)) is orderly in
    there.0.1.1
fits_in (Hello c i p ∷ es) (suc k) id t terms orderly at = fits_in es k id t terms orderly.2 at
fits_in (Settled r s ∷ es) (suc k) id t terms orderly at = fits_in es k id t terms orderly.4 at
fits_in (Swept c i a b ∷ es) (suc k) id t terms orderly at = fits_in es k id t terms orderly.1 at

pub safe : (w : WorldState) → IsWorld w → Safe w
safe w is = record {
  parts = is.parts;
  homes = λ k s at unit. (let one = one_home w.stock (out_of (outside_of w)) (accounted w is) k s at unit in record { once = one.0; one = one.1 });
  exports = λ k s at. record {
    allocated = λ f. allocated_is_out w.stock (outside_of w) is.parts k s at f;
    exported = λ f. exported_is_children w.stock (outside_of w) is.parts k s at f;
  };
  magazines = is.shaped;
  book = is.book;
  grants = λ id t terms among. record {
    fits = fits_in w.entries among.0 id t terms is.book.orderly among.1;
    asked = is.due among.0 (Settled id (Grant t terms)) among.1;
  };
  held = λ k c at f. held_is_leased (arena_name w.names) w.entries c f (is.known k c at);
  apart = held_apart w is (all_held w is);
  replies = λ id a b x y sa sb. replies_agree (arena_name w.names) w.entries id a b
      (told_of (arena_name w.names) w.entries id a (is.told x.0 a x.1) sa)
      (told_of (arena_name w.names) w.entries id b (is.told y.0 b y.1) sb);
}

pub always_safe : AlwaysSafe
always_safe list outcomes start end is run =
    let now = events_keep list outcomes start end is run in
    (now, safe end now)
