-- What becomes of a picture where its book alone changes: a segment in a hand is leased, a leased one
-- goes into a hand, or neither.
use Rattle.std.proofs.Common.{◌≡◌, ◌+◌, ℕ, refl, sym, subst, ap, ◌∙◌, List, [], ◌∷◌, Some, arith, cond, nat_eq}
use Rattle.std.specs.Prelude.{slice_get, sum_by}
use Rattle.std.specs.List.{flat_map}
use Rattle.std.proofs.lemmas.List.Sums.{sum_by-cons}
use Rattle.std.proofs.lemmas.Bool.Decides.{nat_tests}
use Rattle.deed_core.specs.Tag.{Tag}
use Rattle.arena_tree.specs.declared.trees.TreeArena.{TreeArena}
use Rattle.lease_terms.specs.Requests.{RequestId}
use Rattle.lease_terms.specs.declared.protocols.Protocol.{Protocol}
use Rattle.lease_terms.specs.declared.refusals.Refusal.{Refusal}
use Rattle.lease_book.specs.declared.receipts.Terms.{Terms}
use Rattle.lease_book.specs.Account.{Account}
use Rattle.lease_book.specs.Receipts.{ReceiptState}
use Rattle.lease_book.specs.Entry.{Entry, Hello, Settled, Swept, Grant, Return, Refuse}
use Rattle.lease_book.specs.BookState.{BookState, Enters, account_in, leased_segments}
use Rattle.lease_book.specs.Calls.{IsGranted, IsRefused, IsReleased, IsSwept}
use Rattle.lease_book.specs.History.{incarnation}
use Rattle.lease_book.specs.Shelf.{standing_of}
use Rattle.lease_book.proofs.LawProofs.{account_is}
use Rattle.stock_audit.specs.Outside.{outside}
use Rattle.stock_audit.specs.Accounted.{IsAccountedFor}
use Rattle.stock_audit.proofs.LawProofs.{leases_keep, releases_keep}
use Rattle.lease_machine.specs.Picture.{Picture, IsHeld, IsPicture, IsBookOf, IsEnteredIn, caches_of, outside_with}

-- one entry more
pub book_enters : (tree : List TreeArena) (e : Entry) (old new : BookState) → Enters e old new → IsEnteredIn tree e → IsBookOf tree old → IsBookOf tree new
book_enters tree e old new enters possible is = record {
  entries = e ∷ is.entries;
  history = enters.history is.entries is.history;
  possible = (possible, is.possible);
}

module _ (d : Picture) (b : BookState) where
  abbrev pub rebooked : Picture
  rebooked = record d { book = b }

  -- with the same leases
  pub same_leases : (hands : List Tag) → leased_segments b ≡ leased_segments d.book → IsHeld hands d → IsHeld hands rebooked
  same_leases hands same is = record {
    tree = is.tree;
    plans = is.plans;
    units = subst (λ (ts : List Tag). IsAccountedFor d.spaces (outside hands ts (flat_map caches_of d.cpus))) (sym same) is.units;
    cpus = is.cpus;
  }

  -- from a hand to a lease
  pub granted_is_picture : (id : RequestId) (t : Tag) (terms : Terms) (r : ReceiptState) → IsGranted d.book b id t terms r → IsHeld (t ∷ []) d → IsBookOf d.tree d.book → (x : TreeArena) → slice_get d.tree t.arena ≡ Some x → terms.quantum ≡ x.quantum → IsPicture rebooked
  granted_is_picture id t terms r granted is book x at same = record {
    held = record {
      tree = is.tree;
      plans = is.plans;
      units = leases_keep d.spaces t (outside_with (t ∷ []) d) (outside_with [] rebooked) is.units
          (record { hands = λ f. omega (arith, sum_by-cons f t []); leases = granted.leases; cpus = refl });
      cpus = is.cpus;
    };
    book = book_enters d.tree (Settled id (Grant t terms)) d.book b granted.entry (x, at, same) book;
  }

  -- from a lease to a hand
  into_hand : (t : Tag) → ((f : Tag → ℕ) → sum_by f (leased_segments d.book) ≡ sum_by f (leased_segments b) + f t) → IsHeld [] d → IsHeld (t ∷ []) rebooked
  into_hand t loses is = record {
    tree = is.tree;
    plans = is.plans;
    units = releases_keep d.spaces t (outside_with [] d) (outside_with (t ∷ []) rebooked) is.units
        (record { hands = λ f. omega (arith, sum_by-cons f t []); leases = loses; cpus = refl });
    cpus = is.cpus;
  }

  pub released_in_hand : (id : RequestId) (index base : ℕ) (r : ReceiptState) (t : Tag) → IsReleased d.book b id index base r t → IsPicture d → IsHeld (t ∷ []) rebooked
  released_in_hand id index base r t released is = into_hand t released.leases is.held

  pub released_book : (id : RequestId) (index base : ℕ) (r : ReceiptState) (t : Tag) → IsReleased d.book b id index base r t → IsPicture d → IsBookOf d.tree b
  released_book id index base r t released is = book_enters d.tree (Settled id (Return index base)) d.book b released.entry tt is.book

  pub swept_in_hand : (c : ℕ) (id : RequestId) (t : Tag) → IsSwept d.book b c id t → IsPicture d → IsHeld (t ∷ []) rebooked
  swept_in_hand c id t swept is = into_hand t swept.ended.leases is.held

  pub swept_book : (c : ℕ) (id : RequestId) (t : Tag) → IsSwept d.book b c id t → IsPicture d → IsBookOf d.tree b
  swept_book c id t swept is = book_enters d.tree (Swept id.client id.incarnation t.arena t.holding.range.base) d.book b swept.ended.entry tt is.book

  -- a lease that ended leaves the incarnation, its protocol and its numbers
  pub swept_standing : (c : ℕ) (id : RequestId) (t : Tag) → IsSwept d.book b c id t → IsPicture d → standing_of (account_in c b) ≡ standing_of (account_in c d.book)
  swept_standing c id t swept is =
      ap standing_of (account_is (Swept id.client id.incarnation t.arena t.holding.range.base ∷ is.book.entries) b c (swept.ended.entry.history is.book.entries is.book.history))
      ∙ sym (ap standing_of (account_is is.book.entries d.book c is.book.history))

  -- neither
  pub refused_is_picture : (id : RequestId) (why : Refusal) (r : ReceiptState) → IsRefused d.book b id why r → IsPicture d → IsPicture rebooked
  refused_is_picture id why r refused is =
      record { held = same_leases [] refused.leases is.held; book = book_enters d.tree (Settled id (Refuse why)) d.book b refused.entry tt is.book }

  pub greeted_is_picture : (c i : ℕ) (p : Protocol) → Enters (Hello c i p) d.book b → leased_segments b ≡ leased_segments d.book → IsPicture d → IsPicture rebooked
  greeted_is_picture c i p enters same is =
      record { held = same_leases [] same is.held; book = book_enters d.tree (Hello c i p) d.book b enters tt is.book }

  -- the hello's incarnation is the client's
  pub greeted_incarnation : (c i : ℕ) (p : Protocol) → Enters (Hello c i p) d.book b → IsPicture d → (account_in c b).incarnation ≡ i
  greeted_incarnation c i p enters is =
      ap (λ (x : Account). x.incarnation) (account_is (Hello c i p ∷ is.book.entries) b c (enters.history is.book.entries is.book.history)) ∙ first
    where
      first : cond (nat_eq c c) i (incarnation c is.book.entries) ≡ i
      first = grind (arith, nat_tests)
