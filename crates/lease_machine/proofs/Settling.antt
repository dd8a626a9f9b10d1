-- A new request that is refused has an answer: its refusal is entered, and nothing else changes.
use Rattle.std.proofs.Common.{◌≡◌, ℕ, Bool, true, false, cond, ◌==◌, refl, sym, subst, ap, ◌∙◌, inl, inr, List, [], ◌∷◌, ◌++◌, map, Result}
use Rattle.std.proofs.lemmas.Bool.{cases_eq}
use Rattle.deed_core.specs.Tag.{Tag}
use Rattle.lease_terms.specs.Requests.{RequestId, IsRequestId}
use Rattle.lease_terms.specs.declared.refusals.Refusal.{Refusal}
use Rattle.lease_terms.specs.declared.refusals.Refusal.TheVariants.{NoFit, BadRequest, NoArena, NotYours, Leases}
use Rattle.lease_proto.specs.declared.faults.LineFault.{LineFault}
use Rattle.lease_proto.specs.declared.lines.Line.TheVariants as lines
use Rattle.lease_proto.specs.declared.lines.LeaseLine.{LeaseLine}
use Rattle.lease_proto.specs.declared.lines.Op.{Op}
use Rattle.lease_proto.specs.declared.lines.Op.TheVariants as ops
use Rattle.lease_proto.specs.declared.operators.ServedLine.{ServedLine}
use Rattle.lease_book.specs.Account.{Account, Lease}
use Rattle.lease_book.specs.Answers.{IsNew, receipt}
use Rattle.lease_book.specs.BookState.{BookState, Enters, IsHistory, account_in, leased_segments, segments, segments_of_accounts}
use Rattle.lease_book.specs.Entry.{Entry, Refuse, Settled, kept_settlement}
use Rattle.lease_book.specs.History.{AreOrderly, account, clients_of, leases_of}
use Rattle.lease_book.specs.Shelf.{with_settled}
use Rattle.lease_book.proofs.LawProofs.{account_is, settled_changes}
use Rattle.lease_machine.specs.Picture.{Picture, IsPicture}
use Rattle.lease_machine.specs.Machine.{AnswersLine, NewRequest, RefusesLease, SettlesRefusal}
use Rattle.lease_machine.specs.RoomLaws.{refusal_to}
use Rattle.lease_machine.specs.AnswerLaws.{reply_bytes}
use Rattle.lease_machine.specs.StepLaws.{RefusesStill, RefusalsAreAnswered}
use Rattle.lease_machine.proofs.BookMoves.{same_leases}
use Rattle.lease_machine.proofs.Naming.{line_is}
use Rattle.lease_machine.proofs.Numbers.{new_outcome, new_within}
use Rattle.lease_machine.proofs.Spans.{same_grows}

map_same : (f g : ℕ → Account) (xs : List ℕ) → ((x : ℕ) → f x ≡ g x) → map f xs ≡ map g xs
map_same f g [] each = refl
map_same f g (x ∷ xs) each = ap (λ (a : Account). a ∷ map f xs) (each x) ∙ ap (λ (rest : List Account). g x ∷ rest) (map_same f g xs each)

clients_back : (es : List Entry) (xs : List ℕ) → map (λ (a : Account). a.client) (map (account es) xs) ≡ xs
clients_back es [] = refl
clients_back es (x ∷ xs) = ap (λ (ys : List ℕ). x ∷ ys) (clients_back es xs)

segments_same : (f g : ℕ → Account) (xs : List ℕ) → ((x : ℕ) → (f x).leases ≡ (g x).leases) → segments_of_accounts (map f xs) ≡ segments_of_accounts (map g xs)
segments_same f g [] each = refl
segments_same f g (x ∷ xs) each =
    ap (λ (ls : List Lease). segments ls ++ segments_of_accounts (map f xs)) (each x)
    ∙ ap (λ (ts : List Tag). segments (g x).leases ++ ts) (segments_same f g xs each)

same_either : (b : Bool) (ls : List Lease) → cond b ls ls ≡ ls
same_either true ls = refl
same_either false ls = refl

module _ (d : Picture) (is : IsPicture d) (id : RequestId) (in_range : IsRequestId id) (fresh : IsNew (account_in id.client d.book) id) (why : Refusal) where
  abbrev entry : Entry
  entry = Settled id (Refuse why)

  abbrev accounts_after : List Entry → List Account
  accounts_after es = map (account (entry ∷ es)) (clients_of es)

  orderly : (es : List Entry) → IsHistory es d.book → AreOrderly (entry ∷ es)
  orderly es h =
      let own = account_is es d.book id.client h in (
        (in_range, tt),
        fresh.current ∙ ap (λ (a : Account). a.incarnation) own,
        new_outcome es d.book id h fresh.current fresh,
        new_within es d.book id h fresh.current fresh,
        h.orderly,
      )

  -- whichever entries give the book, what it becomes is one
  same_accounts : (es fs : List Entry) → IsHistory es d.book → IsHistory fs d.book → accounts_after es ≡ accounts_after fs
  same_accounts es fs h g =
      let clients : clients_of es ≡ clients_of fs =
      sym (clients_back es (clients_of es)) ∙ ap (map (λ (a : Account). a.client)) (sym h.accounts ∙ g.accounts) ∙ clients_back fs (clients_of fs) in
      map_same (account (entry ∷ es)) (account (entry ∷ fs)) (clients_of es) each ∙ ap (map (account (entry ∷ fs))) clients
    where
      before : (c : ℕ) → account es c ≡ account fs c
      before c = sym (account_is es d.book c h) ∙ account_is fs d.book c g

      each : (c : ℕ) → account (entry ∷ es) c ≡ account (entry ∷ fs) c
      each c = elim (cases_eq c id.client) [
        | inl own ↦
            let both : account (entry ∷ es) id.client ≡ account (entry ∷ fs) id.client =
            settled_changes.own es id (Refuse why) (orderly es h)
            ∙ ap (with_settled (kept_settlement id.number (Refuse why))) (before id.client)
            ∙ sym (settled_changes.own fs id (Refuse why) (orderly fs g)) in
            subst (λ (n : ℕ). account (entry ∷ es) n ≡ account (entry ∷ fs) n) (sym own) both
        | inr other ↦ settled_changes.others es id (Refuse why) c other ∙ before c ∙ sym (settled_changes.others fs id (Refuse why) c other)
      ]

  abbrev after_book : BookState
  after_book = record { mark = d.book.mark; accounts = accounts_after is.book.entries }

  enters : Enters entry d.book after_book
  enters = record {
    mark = refl;
    history = λ fs h. record { orderly = orderly fs h; accounts = same_accounts is.book.entries fs is.book.history h };
  }

  abbrev then_d : Picture
  then_d = record d { book = after_book }

  -- no lease comes or goes
  leases_same : leased_segments then_d.book ≡ leased_segments d.book
  leases_same =
      let es : List Entry = is.book.entries in
      segments_same (account (entry ∷ es)) (account es) (clients_of es) (λ c. same_either (c == id.client) (leases_of c es))
      ∙ ap segments_of_accounts (sym is.book.history.accounts)

  picture : IsPicture then_d
  picture = record {
    held = same_leases d after_book [] leases_same is.held;
    book = record { entries = entry ∷ is.book.entries; history = enters.history is.book.entries is.book.history; possible = (tt, is.book.possible) };
  }

  settles : SettlesRefusal id why d then_d (refusal_to id why)
  settles = record {
    receipt = receipt d.book id (kept_settlement id.number (Refuse why));
    refused = record { new = fresh; receipt = refl; entry = enters; leases = leases_same };
    reply = refl;
  }

  refuses : (l : LeaseLine) (r : Refusal) → RefusesStill id (ops.Lease l) d r → RefusesLease id l d then_d r
  refuses l NoArena still = (still.0, refl)
  refuses l BadRequest still = (still.0, still.1, still.2, still.3, refl)
  refuses l NoFit still = (still.0, still.1, still.2, record { none = still.3.none; spaces = refl; cpus = inl refl; names = (refl, refl) })
  refuses l Leases still = absurd still
  refuses l NotYours still = absurd still

  answers : (op : Op) → RefusesStill id op d why → NewRequest id op d then_d (refusal_to id why)
  answers (ops.Lease l) still = (why, settles, refuses l why still)
  answers (ops.Release l) still = (why, settles, still, refl)

pub refusals_are_answered : RefusalsAreAnswered
refusals_are_answered d line id op why is read fresh still =
    let in_range = (line_is line (lines.Request id op) read).0 in
    let new = then_d d is id in_range fresh why in
    let does = answers d is id in_range fresh why op still in (
      new,
      refl,
      record {
        answer = subst (λ (y : Result ServedLine LineFault). AnswersLine d y (reply_bytes (refusal_to id why)) new) (sym read) (refusal_to id why, refl, inr (fresh, does));
        setup = same_grows d new (record { tree = refl; owned = refl });
        stays = λ none. record { tree = refl; owned = refl };
        picture = picture d is id in_range fresh why;
      },
    )
