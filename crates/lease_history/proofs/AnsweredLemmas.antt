-- What an open client and the book agree on.
use Rattle.std.proofs.Common.{◌≡◌, ◌⊎◌, inl, inr, ℕ, suc, ◌+◌, ◌<◌, ◌≤◌, List, Option, Some, None, refl, sym, ap, ◌∙◌, arith}
use Rattle.std.proofs.lemmas.Bool.{cases_lt}
use Rattle.lease_terms.specs.Requests.{RequestId}
use Rattle.lease_terms.specs.Protocols.{window_of}
use Rattle.lease_terms.specs.declared.protocols.Protocol.TheVariants.{One}
use Rattle.lease_proto.specs.declared.lines.Line.TheVariants as lines
use Rattle.lease_proto.specs.declared.lines.Op.{Op}
use Rattle.lease_book.specs.Receipts.{Kept}
use Rattle.lease_book.specs.Replies.{kept_at}
use Rattle.lease_book.specs.Entry.{Entry}
use Rattle.lease_book.specs.Account.{Account, last_number, window_in}
use Rattle.lease_book.specs.Answers.{IsNew}
use Rattle.lease_book.specs.History.{incarnation, last_in, low_in, first_protocol, or_else, protocol_in, account, AreOrderly}
use Rattle.lease_book.proofs.LawProofs.{kept_outcomes, numbers_settled_once}
use Rattle.lease_client.specs.ClientState.{ClientState, line_at}
use Rattle.lease_history.specs.Known.{IsKnown, IsAnswerable}
use Rattle.lease_history.specs.Laws.{OpenClientsAgree, WaitingIsAnswered}
use Rattle.lease_history.proofs.ProtocolLemmas.{begun_already}
use Rattle.lease_history.proofs.LineLemmas.{IsOneOf, one_of}

pub open_clients_agree : OpenClientsAgree
open_clients_agree names es c orderly know opened = (current, ap (λ (n : ℕ). protocol_in c.id n es) current ∙ ap (or_else One) first)
  where
    first : first_protocol c.id c.incarnation es ≡ Some c.protocol
    first = know.protocol opened

    current : incarnation c.id es ≡ c.incarnation
    current =
        let behind : incarnation c.id es ≤ c.incarnation = know.behind in
        omega (arith, behind, begun_already c.id c.incarnation c.protocol es orderly first)

-- What it waits for is new to the book, or its reply is kept.

module _ (names : ℕ → List ℕ) (es : List Entry) (c : ClientState) (id : RequestId) (op : Op) (orderly : AreOrderly es) (know : IsKnown names es c)
    (waits : line_at id.number c.outstanding ≡ Some (lines.Request id op)) where
  abbrev of_client : Account
  of_client = account es id.client

  one : IsOneOf c id.number id
  one = one_of c id.number id op know.sound waits

  agree : (incarnation c.id es ≡ c.incarnation) × (protocol_in c.id (incarnation c.id es) es ≡ c.protocol)
  agree = open_clients_agree names es c orderly know one.opened

  current : id.incarnation ≡ incarnation id.client es
  current = one.incarnation ∙ sym agree.0 ∙ sym (ap (λ (n : ℕ). incarnation n es) one.client)

  window_now : window_in of_client ≡ window_of c.protocol
  window_now = ap (λ (n : ℕ). window_in (account es n)) one.client ∙ ap window_of agree.1

  low_now : of_client.low ≡ low_in id.client id.incarnation es
  low_now = ap (λ (n : ℕ). low_in id.client n es) (sym current)

  -- all that is settled has a smaller number than the next one
  last_below : last_in id.client id.incarnation es < c.next
  last_below =
      let same : last_in id.client id.incarnation es ≡ last_in c.id c.incarnation es
      = ap (λ (n : ℕ). last_in n id.incarnation es) one.client ∙ ap (λ (n : ℕ). last_in c.id n es) one.incarnation in
      omega (arith, same, know.before)

  above : last_number of_client < id.number + window_in of_client
  above =
      let last : last_number of_client ≡ last_in id.client id.incarnation es
      = kept_outcomes.last es id.client ∙ ap (λ (n : ℕ). last_in id.client n es) (sym current) in
      omega (arith, last, last_below, one.near, window_now)

  -- the least number that isn't settled waits, or was never used
  within : id.number ≤ of_client.low + window_in of_client
  within = elim (cases_lt (suc low) c.next) as (λ _. id.number ≤ of_client.low + window_in of_client) [
    | inl used ↦ (let waiting = know.waits least one.client one.incarnation (omega arith) used (numbers_settled_once.next es least refl) in
        let near = (one_of c least.number least waiting.0 know.sound waiting.1).near in
        omega (arith, near, one.below, low_now, window_now))
    | inr unused ↦ omega (arith, unused, one.below, low_now)
  ]
    where
      low : ℕ
      low = low_in id.client id.incarnation es

      least : RequestId
      least = record { client = id.client; incarnation = id.incarnation; number = suc low }

  answered : IsNew of_client id ⊎ ((k : Kept) × (kept_at id.number of_client.kept ≡ Some k))
  answered = by (kept_at id.number of_client.kept) refl
    where
      by : (o : Option Kept) → kept_at id.number of_client.kept ≡ o → IsNew of_client id ⊎ ((k : Kept) × (kept_at id.number of_client.kept ≡ Some k))
      by (Some k) is = inr (k, is)
      by None is = inl (record { current = current; above = above; unsettled = is; within = within })

  answerable : IsAnswerable of_client id
  answerable = record {
    current = current;
    answered = answered;
    stale = λ last is. omega (arith, is.last, is.below, above);
    gap = λ low is. omega (arith, is.reached, is.above, within);
  }

pub waiting_is_answered : WaitingIsAnswered
waiting_is_answered = answerable
