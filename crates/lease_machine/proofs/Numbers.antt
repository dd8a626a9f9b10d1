-- What is kept of a client's numbers, by the entries of its book.
use Rattle.std.proofs.Common.{◌≡◌, ◌∙◌, ◌+◌, ◌<◌, ◌≤◌, ℕ, refl, sym, ap, subst, cond, Bool, true, false, nat_eq, eq-eqb, List, [], ◌∷◌, All, Some, None, arith}
use Rattle.std.proofs.lemmas.List.Elements.{All-tail}
use Rattle.lease_terms.specs.Protocols.{window_of}
use Rattle.lease_terms.specs.Requests.{RequestId}
use Rattle.lease_terms.specs.declared.protocols.Protocol.{Protocol}
use Rattle.lease_terms.specs.declared.protocols.Protocol.TheVariants.{One, Two}
use Rattle.lease_book.specs.Account.{Account, last_number, window_in}
use Rattle.lease_book.specs.Answers.{IsNew}
use Rattle.lease_book.specs.BookState.{BookState, IsHistory, account_in}
use Rattle.lease_book.specs.Entry.{Entry}
use Rattle.lease_book.specs.History.{account, incarnation, last_in, low_in, outcome_of, reach_in, settled_in}
use Rattle.lease_book.specs.Receipts.{Kept}
use Rattle.lease_book.specs.Replies.{above, greatest, kept_at, larger, recent}
use Rattle.lease_book.proofs.LawProofs.{account_is, found_above, found_number, greatest_recent, kept_outcomes, larger_both, numbers_settled_once, passes, recent_cons}

pub some_window : (p : Protocol) → 1 ≤ window_of p
some_window One = omega arith
some_window Two = omega arith

-- what holds of each holds of the one with a number
pub each_found : (P : Kept → Type 0) (n : ℕ) (ks : List Kept) (k : Kept) → All P ks → kept_at n ks ≡ Some k → P k
each_found P n [] k all at = absurd (let e : None ≡ Some k = at in cc)
each_found P n (x ∷ ks) k all at = by (nat_eq n x.number) at (each_found P n ks k (All-tail P x ks all))
  where
    by : (b : Bool) → cond b (Some x) (kept_at n ks) ≡ Some k → (kept_at n ks ≡ Some k → P k) → P k
    by true is rest = (let e : Some x ≡ Some k = is in let same : x ≡ k = cc in subst P same (all 0 x (omega arith)))
    by false is rest = rest is

-- what was settled last is kept
pub settled_found : (w : ℕ) (k : Kept) (ks : List Kept) → greatest ks < k.number + w → 1 ≤ w → kept_at k.number (recent w (k ∷ ks)) ≡ Some k
settled_found w k ks near some =
    ap (kept_at k.number) (recent_cons w k ks near some)
    ∙ ap (λ (b : Bool). cond b (Some k) (kept_at k.number (above (larger k.number (greatest ks)) w ks))) (eq-eqb k.number k.number refl)

-- and with a window of 1 nothing else is
pub settled_alone : (k : Kept) (ks : List Kept) (n : ℕ) (x : Kept) → greatest ks < k.number + 1 → kept_at k.number ks ≡ None → kept_at n (recent 1 (k ∷ ks)) ≡ Some x → k ≡ x
settled_alone k ks n x near none at = by (nat_eq n k.number) (found_above (larger k.number (greatest ks)) 1 n (k ∷ ks) x at)
  where
    by : (b : Bool) → cond b (Some k) (kept_at n ks) ≡ Some x → k ≡ x
    by true is = (let e : Some k ≡ Some x = is in cc)
    by false is =
        let found = found_number ks n x is in
        let high = passes (larger k.number (greatest ks)) 1 n (k ∷ ks) x at in
        let same : n ≡ k.number = omega (arith, found.0, found.1, near, high, (larger_both k.number (greatest ks)).0) in
        absurd (let e : None ≡ Some x = sym none ∙ ap (λ (m : ℕ). kept_at m ks) (sym same) ∙ is in cc)

module _ (es : List Entry) (book : BookState) (id : RequestId) (h : IsHistory es book) (current : id.incarnation ≡ (account_in id.client book).incarnation) where
  abbrev own : Account
  own = account_in id.client book

  abbrev settled : List Kept
  settled = settled_in id.client id.incarnation es

  here : own ≡ account es id.client
  here = account_is es book id.client h

  at : id.incarnation ≡ incarnation id.client es
  at = current ∙ ap (λ (a : Account). a.incarnation) here

  low_is : own.low ≡ low_in id.client id.incarnation es
  low_is = ap (λ (a : Account). a.low) here ∙ ap (λ (i : ℕ). low_in id.client i es) (sym at)

  window_is : window_in own ≡ reach_in id.client id.incarnation es
  window_is = ap (λ (a : Account). window_in a) here ∙ ap (λ (i : ℕ). reach_in id.client i es) (sym at)

  kept_is : own.kept ≡ recent (window_in own) settled
  kept_is =
      ap (λ (a : Account). a.kept) here
      ∙ ap (λ (i : ℕ). recent (reach_in id.client i es) (settled_in id.client i es)) (sym at)
      ∙ ap (λ (w : ℕ). recent w settled) (sym window_is)

  last_is : last_number own ≡ last_in id.client id.incarnation es
  last_is = ap greatest kept_is ∙ greatest_recent (window_in own) settled (some_window own.protocol)

  -- a reply that is kept is its number's outcome
  pub kept_outcome : (k : Kept) → kept_at id.number own.kept ≡ Some k → outcome_of id es ≡ Some k
  kept_outcome k found = kept_outcomes.kept es id (window_in own) k (subst (λ (ks : List Kept). kept_at id.number ks ≡ Some k) kept_is found)

  -- and within the window each outcome is kept
  pub recent_outcome : last_number own < id.number + window_in own → kept_at id.number own.kept ≡ outcome_of id es
  recent_outcome near = ap (kept_at id.number) kept_is ∙ kept_outcomes.all es id (window_in own) (omega (arith, near, last_is))

  -- a number that is new has none
  pub new_outcome : IsNew own id → outcome_of id es ≡ None
  new_outcome fresh = sym (recent_outcome fresh.above) ∙ fresh.unsettled

  -- and reaches no further than the window
  pub new_within : IsNew own id → id.number ≤ low_in id.client id.incarnation es + reach_in id.client id.incarnation es
  new_within fresh = omega (arith, fresh.within, low_is, window_is)

  -- a number whose reply is kept is above the greatest less the window
  pub not_stale : (k : Kept) → kept_at id.number own.kept ≡ Some k → last_number own < id.number + window_in own
  not_stale k found =
      let there : kept_at id.number (recent (window_in own) settled) ≡ Some k = subst (λ (ks : List Kept). kept_at id.number ks ≡ Some k) kept_is found in
      omega (arith, passes (greatest settled) (window_in own) id.number settled k there, (found_number own.kept id.number k found).0, last_is)

  -- and at most by the window above the low one
  pub not_gap : (k : Kept) → kept_at id.number own.kept ≡ Some k → id.number ≤ own.low + window_in own
  not_gap k found = omega (arith, (found_number own.kept id.number k found).1, last_is, numbers_settled_once.within es id.client id.incarnation h.orderly, low_is, window_is)
