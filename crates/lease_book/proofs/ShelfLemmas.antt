-- The accounts, and their parts in the map and in the vector beside it.
use Rattle.std.proofs.lemmas.Bool.{eqb-false, ne_eqb, le-ltb}
use Rattle.std.proofs.Common.{eq-eqb, one-add, ◌≡◌, ℕ, zero, suc, ◌+◌, ◌<◌, ◌≤◌, Bool, true, false, cond, not, nat_eq, nat_lt, lt-ltb, List, [], ◌∷◌, ◌++◌, length, All, Option, Some, None, IfSome, IfNone, Result, Ok, Err, OnOk, OnErr, slice_get, get_or, position, refl, sym, ap, subst, ◌∙◌, arith}
use Rattle.std.specs.List.{find, position_or_len, AllByRecursion, IsDistinct}
use Rattle.std.specs.Option.{option_map}
use Rattle.std.specs.Map.{keys_of, values_of, lookup}
use Rattle.std.proofs.lemmas.Option.{slice_get_past, slice_get_within}
use Rattle.std.proofs.lemmas.Map.Entries.{length-keys_of}
use Rattle.std.proofs.lemmas.List.Elements.{All-set, All-push}
use Rattle.std.proofs.lemmas.List.{length-append, length-set, map-append, set-get_or}
use Rattle.std.proofs.Math.ListN.{set}
use Rattle.indexmap.specs.IndexMap.{IndexMap, insert_entry, set_value_at}
use Rattle.indexmap.proofs.CallerLemmas.{insert_entry-new}
use Rattle.lease_book.proofs.Pigeons.{few_clients}
use Rattle.lease_book.proofs.PlaceLemmas.{position-some, position-none}
use Rattle.lease_terms.specs.Ranges.{IsClient}
use Rattle.lease_book.specs.declared.books.TheConstants.{MOST_LEASES}
use Rattle.lease_book.specs.Account.{Lease, Account}
use Rattle.lease_book.specs.Replies.{greatest}
use Rattle.lease_book.specs.Reports.{report_of}
use Rattle.lease_book.specs.Shelf.{account_with, accounts_of, IsShelf, IsEmptyBefore, update_at, standing_of, with_standing, with_leases}
use Rattle.lease_book.specs.Standings.{StandingState}

pub length-accounts_of : (es : List (ℕ × StandingState)) (ls : List (List Lease)) → length es ≡ length ls → length (accounts_of es ls) ≡ length es
length-accounts_of [] ls same = refl
length-accounts_of (e ∷ es) [] same = absurd (omega arith)
length-accounts_of (e ∷ es) (l ∷ ls) same = ap suc (length-accounts_of es ls (omega arith))

-- the account at an index has the standing and the leases at that index
pub standing_at : (es : List (ℕ × StandingState)) (ls : List (List Lease)) (i : ℕ) (s : StandingState) → length es ≡ length ls → slice_get (values_of es) i ≡ Some s → option_map standing_of (slice_get (accounts_of es ls) i) ≡ Some s
standing_at [] ls i s same at = absurd (cc)
standing_at (e ∷ es) [] i s same at = absurd (omega arith)
standing_at (e ∷ es) (l ∷ ls) zero s same at = at
standing_at (e ∷ es) (l ∷ ls) (suc i) s same at = standing_at es ls i s (omega arith) at

pub leases_at : (es : List (ℕ × StandingState)) (ls : List (List Lease)) (i : ℕ) (l : List Lease) → length es ≡ length ls → l ≡ get_or ls i l → IfSome (slice_get (accounts_of es ls) i) (λ a. a.leases ≡ l)
leases_at [] ls i l same at = tt
leases_at (e ∷ es) [] i l same at = tt
leases_at (e ∷ es) (x ∷ ls) zero l same at = sym at
leases_at (e ∷ es) (x ∷ ls) (suc i) l same at = leases_at es ls i l (omega arith) at

-- the client's account stands where the client stands
pub find_at_place : (c : ℕ) (es : List (ℕ × StandingState)) (ls : List (List Lease)) → length es ≡ length ls
    → find (λ a. nat_eq c a.client) (accounts_of es ls) ≡ slice_get (accounts_of es ls) (position_or_len (nat_eq c) (keys_of es))
find_at_place c [] ls same = refl
find_at_place c (e ∷ es) [] same = absurd (omega arith)
find_at_place c (e ∷ es) (l ∷ ls) same = by (nat_eq c e.0) (find_at_place c es ls (omega arith))
  where
    by : (b : Bool) → find (λ a. nat_eq c a.client) (accounts_of es ls) ≡ slice_get (accounts_of es ls) (position_or_len (nat_eq c) (keys_of es))
        → cond b (Some (account_with e.0 e.1 l)) (find (λ a. nat_eq c a.client) (accounts_of es ls)) ≡ slice_get (accounts_of (e ∷ es) (l ∷ ls)) (cond (not b) (1 + position_or_len (nat_eq c) (keys_of es)) 0)
    by true rest = refl
    by false rest = rw one-add rest

pub write_standing : (es : List (ℕ × StandingState)) (ls : List (List Lease)) (i : ℕ) (s : StandingState) → accounts_of (set_value_at es i s) ls ≡ update_at (accounts_of es ls) i (with_standing s)
write_standing [] ls i s = refl
write_standing (e ∷ es) [] zero s = refl
write_standing (e ∷ es) [] (suc i) s = refl
write_standing (e ∷ es) (l ∷ ls) zero s = refl
write_standing (e ∷ es) (l ∷ ls) (suc i) s = ap (λ r. account_with e.0 e.1 l ∷ r) (write_standing es ls i s)

pub write_leases : (f : List Lease → List Lease) (es : List (ℕ × StandingState)) (ls : List (List Lease)) (i : ℕ) (l : List Lease) → l ≡ get_or ls i l → accounts_of es (set ls i (f l)) ≡ update_at (accounts_of es ls) i (with_leases f)
write_leases f [] ls i l at = refl
write_leases f (e ∷ es) [] i l at = refl
write_leases f (e ∷ es) (x ∷ ls) zero l at = ap (λ r. account_with e.0 e.1 (f r) ∷ accounts_of es ls) at
write_leases f (e ∷ es) (x ∷ ls) (suc i) l at = ap (λ r. account_with e.0 e.1 x ∷ r) (write_leases f es ls i l at)

pub accounts_of_push : (es : List (ℕ × StandingState)) (ls : List (List Lease)) (e : ℕ × StandingState) (l : List Lease) → length es ≡ length ls
    → accounts_of (es ++ e ∷ []) (ls ++ l ∷ []) ≡ accounts_of es ls ++ account_with e.0 e.1 l ∷ []
accounts_of_push [] [] e l same = refl
accounts_of_push [] (x ∷ ls) e l same = absurd (omega arith)
accounts_of_push (d ∷ es) [] e l same = absurd (omega arith)
accounts_of_push (d ∷ es) (x ∷ ls) e l same = ap (λ r. account_with d.0 d.1 x ∷ r) (accounts_of_push es ls e l (omega arith))

-- what `find` says of the index that it gives
pub record IsPlace (c : ℕ) (accounts : List Account) (r : Option ℕ) : Type 0 where
  pub within : IfSome r (λ i. i < length accounts)
  pub found : IfSome r (λ i. find (λ a. nat_eq c a.client) accounts ≡ slice_get accounts i)
  pub none : IfNone r (find (λ a. nat_eq c a.client) accounts ≡ None)

place_in : (c : ℕ) (es : List (ℕ × StandingState)) (ls : List (List Lease)) (r : Option ℕ) → length es ≡ length ls → r ≡ position (nat_eq c) (keys_of es) → IsPlace c (accounts_of es ls) r
place_in c es ls None same at =
    let past : length (keys_of es) ≤ position_or_len (nat_eq c) (keys_of es) = position-none (nat_eq c) (keys_of es) (sym at) in
    record {
      within = tt;
      found = tt;
      none = find_at_place c es ls same ∙ slice_get_past (accounts_of es ls) _ (omega (arith, length-accounts_of es ls same, length-keys_of es));
    }
place_in c es ls (Some i) same at =
    let is = position-some (nat_eq c) (keys_of es) i (sym at) in
    record {
      within = omega (arith, is.1, length-accounts_of es ls same, length-keys_of es);
      found = find_at_place c es ls same ∙ ap (slice_get (accounts_of es ls)) is.0;
      none = tt;
    }

pub place_of : (c : ℕ) (es : List (ℕ × StandingState)) (ls : List (List Lease)) (accounts : List Account) (r : Option ℕ) → accounts_of es ls ≡ accounts → length es ≡ length ls
    → r ≡ position (nat_eq c) (keys_of es) → IsPlace c accounts r
place_of c es ls accounts r is same at = subst (λ (xs : List Account). IsPlace c xs r) is (place_in c es ls r same at)

-- an index of the accounts is one of both parts
pub within_parts : (es : List (ℕ × StandingState)) (ls : List (List Lease)) (accounts : List Account) (i : ℕ) → accounts_of es ls ≡ accounts → length es ≡ length ls → i < length accounts
    → (i < length es) × (i < length ls)
within_parts es ls accounts i is same less =
    let all : length es ≡ length accounts = sym (length-accounts_of es ls same) ∙ ap length is in
    (omega arith, omega arith)

-- a client with no account isn't in the map
pub absent : (c : ℕ) (es : List (ℕ × StandingState)) (ls : List (List Lease)) → length es ≡ length ls → find (λ a. nat_eq c a.client) (accounts_of es ls) ≡ None → lookup (nat_eq c) es ≡ None
absent c [] ls same none = refl
absent c (e ∷ es) [] same none = absurd (omega arith)
absent c (e ∷ es) (l ∷ ls) same none = by (nat_eq c e.0) none (absent c es ls (omega arith))
  where
    by : (b : Bool) → cond b (Some (account_with e.0 e.1 l)) (find (λ a. nat_eq c a.client) (accounts_of es ls)) ≡ None
        → (find (λ a. nat_eq c a.client) (accounts_of es ls) ≡ None → lookup (nat_eq c) es ≡ None)
        → cond b (Some e.1) (lookup (nat_eq c) es) ≡ None
    by true none rest = absurd (cc)
    by false none rest = rest none

keys_set_value_at : (es : List (ℕ × StandingState)) (i : ℕ) (s : StandingState) → keys_of (set_value_at es i s) ≡ keys_of es
keys_set_value_at [] i s = refl
keys_set_value_at (e ∷ es) zero s = refl
keys_set_value_at (e ∷ es) (suc i) s = ap (λ r. e.0 ∷ r) (keys_set_value_at es i s)

length-set_value_at : (es : List (ℕ × StandingState)) (i : ℕ) (s : StandingState) → length (set_value_at es i s) ≡ length es
length-set_value_at [] i s = refl
length-set_value_at (e ∷ es) zero s = refl
length-set_value_at (e ∷ es) (suc i) s = ap suc (length-set_value_at es i s)

pub shelf_write : (es : List (ℕ × StandingState)) (ls : List (List Lease)) (i : ℕ) (s : StandingState) → IsShelf es ls → IsShelf (set_value_at es i s) ls
shelf_write es ls i s shelf = record {
  together = length-set_value_at es i s ∙ shelf.together;
  clients = subst (All IsClient) (sym (keys_set_value_at es i s)) shelf.clients;
  apart = subst (IsDistinct nat_eq) (sym (keys_set_value_at es i s)) shelf.apart;
  few = omega (arith, length-set_value_at es i s, shelf.few);
  limited = shelf.limited;
}

pub shelf_set : (es : List (ℕ × StandingState)) (ls : List (List Lease)) (i : ℕ) (l : List Lease) → IsShelf es ls → length l ≤ MOST_LEASES → IsShelf es (set ls i l)
shelf_set es ls i l shelf small = record {
  together = shelf.together ∙ sym (length-set ls i l);
  clients = shelf.clients;
  apart = shelf.apart;
  few = shelf.few;
  limited = All-set (λ (x : List Lease). length x ≤ MOST_LEASES) ls i l small shelf.limited;
}

pub shelf_push : (es : List (ℕ × StandingState)) (ls : List (List Lease)) (c : ℕ) (s : StandingState) → IsShelf es ls → IsClient c → IsDistinct nat_eq (keys_of (es ++ (c, s) ∷ []))
    → IsShelf (es ++ (c, s) ∷ []) (ls ++ [] ∷ [])
shelf_push es ls c s shelf client apart =
    let keys : keys_of (es ++ (c, s) ∷ []) ≡ keys_of es ++ c ∷ [] = map-append (λ (e : ℕ × StandingState). e.0) es ((c, s) ∷ []) in
    let clients : All IsClient (keys_of (es ++ (c, s) ∷ [])) = subst (All IsClient) (sym keys) (All-push IsClient (keys_of es) c shelf.clients client) in
    record {
      together = omega (arith, shelf.together, length-append es ((c, s) ∷ []), length-append ls ([] ∷ []));
      clients = clients;
      apart = apart;
      few = omega (arith, few_clients (keys_of (es ++ (c, s) ∷ [])) apart clients, length-keys_of (es ++ (c, s) ∷ []));
      limited = All-push (λ (x : List Lease). length x ≤ MOST_LEASES) ls [] shelf.limited (omega arith);
    }

pub limited_at : (es : List (ℕ × StandingState)) (ls : List (List Lease)) (i : ℕ) (l : List Lease) → IsShelf es ls → i < length ls → l ≡ get_or ls i l → length l ≤ MOST_LEASES
limited_at es ls i l shelf within at = subst (λ (x : List Lease). length x ≤ MOST_LEASES) (sym at) (shelf.limited i l within)

-- a fact of the leases at an index, said of the account there
pub leases_there : (P : List Lease → Type 0) (es : List (ℕ × StandingState)) (ls : List (List Lease)) (accounts : List Account) (i : ℕ) (l : List Lease) → accounts_of es ls ≡ accounts
    → length es ≡ length ls → i < length ls → l ≡ get_or ls i l → IfSome (slice_get accounts i) (λ a. P a.leases) → P l
leases_there P es ls accounts i l is same within at holds = there es ls i l same within at (subst (λ (xs : List Account). IfSome (slice_get xs i) (λ a. P a.leases)) (sym is) holds)
  where
    there : (es : List (ℕ × StandingState)) (ls : List (List Lease)) (i : ℕ) (l : List Lease) → length es ≡ length ls → i < length ls → l ≡ get_or ls i l → IfSome (slice_get (accounts_of es ls) i) (λ a. P a.leases) → P l
    there es [] i l same within at holds = absurd (omega arith)
    there [] (x ∷ ls) i l same within at holds = absurd (omega arith)
    there (e ∷ es) (x ∷ ls) zero l same within at holds = subst P (sym at) holds
    there (e ∷ es) (x ∷ ls) (suc i) l same within at holds = there es ls i l (omega arith) (omega arith) at holds

-- and back
pub leases_here : (P : List Lease → Type 0) (es : List (ℕ × StandingState)) (ls : List (List Lease)) (accounts : List Account) (i : ℕ) (l : List Lease) → accounts_of es ls ≡ accounts
    → length es ≡ length ls → l ≡ get_or ls i l → P l → IfSome (slice_get accounts i) (λ a. P a.leases)
leases_here P es ls accounts i l is same at holds = subst (λ (xs : List Account). IfSome (slice_get xs i) (λ a. P a.leases)) is (here es ls i l same at holds)
  where
    here : (es : List (ℕ × StandingState)) (ls : List (List Lease)) (i : ℕ) (l : List Lease) → length es ≡ length ls → l ≡ get_or ls i l → P l → IfSome (slice_get (accounts_of es ls) i) (λ a. P a.leases)
    here [] ls i l same at holds = tt
    here (e ∷ es) [] i l same at holds = tt
    here (e ∷ es) (x ∷ ls) zero l same at holds = subst P at holds
    here (e ∷ es) (x ∷ ls) (suc i) l same at holds = here es ls i l (omega arith) at holds

pub set_same : (ls : List (List Lease)) (i : ℕ) (l m : List Lease) → l ≡ get_or ls i l → m ≡ l → set ls i m ≡ ls
set_same ls i l m at is = ap (set ls i) (is ∙ at) ∙ set-get_or ls i l

-- a list that gained a lease, or none, is in the limit
pub limited_after : {T E : Type 0} (r : Result T E) (l m : List Lease) (x : Lease) → length l < MOST_LEASES → OnOk r (m ≡ l ++ x ∷ []) → OnErr r (m ≡ l) → length m ≤ MOST_LEASES
limited_after (Ok t) l m x room ok err = omega (arith, ap length ok, length-append l (x ∷ []))
limited_after (Err e) l m x room ok err = omega (arith, ap length err)

-- a new client's account, with no leases, goes last
pub opened_shelf : (es new_es : List (ℕ × StandingState)) (ls new_ls : List (List Lease)) (l : List Lease) (c : ℕ) (s : StandingState) → IsShelf es ls → IsClient c
    → new_es ≡ es ++ (c, s) ∷ [] → new_ls ≡ ls ++ l ∷ [] → l ≡ [] → IsDistinct nat_eq (keys_of new_es) → IsShelf new_es new_ls
opened_shelf es new_es ls new_ls l c s shelf client is_es is_ls empty apart =
    let is_ls' : new_ls ≡ ls ++ [] ∷ [] = is_ls ∙ ap (λ (x : List Lease). ls ++ x ∷ []) empty in
    let apart' : IsDistinct nat_eq (keys_of (es ++ (c, s) ∷ [])) = subst (λ (xs : List (ℕ × StandingState)). IsDistinct nat_eq (keys_of xs)) is_es apart in
    subst (λ (xs : List (ℕ × StandingState)). IsShelf xs new_ls) (sym is_es) (subst (IsShelf (es ++ (c, s) ∷ [])) (sym is_ls') (shelf_push es ls c s shelf client apart'))

pub opened_accounts : (es new_es : List (ℕ × StandingState)) (ls new_ls : List (List Lease)) (l : List Lease) (accounts : List Account) (c : ℕ) (s : StandingState) → accounts_of es ls ≡ accounts → length es ≡ length ls
    → new_es ≡ es ++ (c, s) ∷ [] → new_ls ≡ ls ++ l ∷ [] → l ≡ [] → accounts_of new_es new_ls ≡ accounts ++ account_with c s [] ∷ []
opened_accounts es new_es ls new_ls l accounts c s is same is_es is_ls empty =
    ap (λ (xs : List (ℕ × StandingState)). accounts_of xs new_ls) is_es
    ∙ ap (accounts_of (es ++ (c, s) ∷ [])) (is_ls ∙ ap (λ (x : List Lease). ls ++ x ∷ []) empty)
    ∙ accounts_of_push es ls (c, s) [] same
    ∙ ap (λ (xs : List Account). xs ++ account_with c s [] ∷ []) is

-- a client with no account goes last in the map
pub inserted : {S : Type 0} (m : IndexMap ℕ StandingState S) (es new_es : List (ℕ × StandingState)) (ls : List (List Lease)) (accounts : List Account) (c : ℕ) (s : StandingState) → accounts_of es ls ≡ accounts → length es ≡ length ls
    → find (λ a. nat_eq c a.client) accounts ≡ None → m.entries ≡ es → new_es ≡ insert_entry nat_eq m.entries c s → new_es ≡ es ++ (c, s) ∷ []
inserted m es new_es ls accounts c s is same new before after =
    let none : lookup (nat_eq c) es ≡ None = absent c es ls same (ap (λ (xs : List Account). find (λ a. nat_eq c a.client) xs) is ∙ new) in
    after ∙ insert_entry-new nat_eq m c s (ap (λ (xs : List (ℕ × StandingState)). lookup (nat_eq c) xs) before ∙ none) ∙ ap (λ (xs : List (ℕ × StandingState)). xs ++ (c, s) ∷ []) before

-- what is told of the account at an index
pub report_at : (es : List (ℕ × StandingState)) (ls : List (List Lease)) (i : ℕ) (e : ℕ × StandingState) (l : List Lease) → length es ≡ length ls → slice_get es i ≡ Some e → l ≡ get_or ls i l
    → slice_get (accounts_of es ls) i ≡ Some (account_with e.0 e.1 l)
report_at [] ls i e l same at beside = absurd (cc)
report_at (d ∷ es) [] i e l same at beside = absurd (omega arith)
report_at (d ∷ es) (x ∷ ls) zero e l same at beside =
    let is : d ≡ e = cc in
    ap (λ (p : (ℕ × StandingState) × List Lease). Some (account_with p.0.0 p.0.1 p.1)) (λ j. (is j, sym beside j))
report_at (d ∷ es) (x ∷ ls) (suc i) e l same at beside = report_at es ls i e l (omega arith) at beside

pub no_report_at : (es : List (ℕ × StandingState)) (ls : List (List Lease)) (i : ℕ) → length es ≡ length ls → slice_get es i ≡ None → slice_get (accounts_of es ls) i ≡ None
no_report_at [] ls i same at = refl
no_report_at (d ∷ es) [] i same at = absurd (omega arith)
no_report_at (d ∷ es) (x ∷ ls) zero same at = absurd (cc)
no_report_at (d ∷ es) (x ∷ ls) (suc i) same at = no_report_at es ls i (omega arith) at

pub report_is : (es : List (ℕ × StandingState)) (ls : List (List Lease)) (accounts : List Account) (i : ℕ) (e : ℕ × StandingState) (l : List Lease) (current last len : ℕ) → accounts_of es ls ≡ accounts → length es ≡ length ls
    → Some e ≡ slice_get es i → l ≡ get_or ls i l → current ≡ e.1.incarnation → last ≡ greatest e.1.kept → len ≡ length l
    → Some (record { client = e.0; incarnation = current; last = last; leases = len }) ≡ option_map report_of (slice_get accounts i)
report_is es ls accounts i e l current last len is same at beside is_current is_last is_len =
    (λ j. Some (record { client = e.0; incarnation = is_current j; last = is_last j; leases = is_len j }))
    ∙ sym (ap (option_map report_of) (ap (λ (xs : List Account). slice_get xs i) (sym is) ∙ report_at es ls i e l same (sym at) beside))

pub no_report : (es : List (ℕ × StandingState)) (ls : List (List Lease)) (accounts : List Account) (i : ℕ) → accounts_of es ls ≡ accounts → length es ≡ length ls → None ≡ slice_get es i
    → None ≡ option_map report_of (slice_get accounts i)
no_report es ls accounts i is same at = sym (ap (option_map report_of) (ap (λ (xs : List Account). slice_get xs i) (sym is) ∙ no_report_at es ls i same (sym at)))

other_key : (k i : ℕ) (es : List (ℕ × StandingState)) (ls : List (List Lease)) (a : Account) → AllByRecursion (λ y. nat_eq k y ≡ false) (keys_of es) → slice_get (accounts_of es ls) i ≡ Some a → nat_eq a.client k ≡ false
other_key k i [] ls a apart at = absurd (cc)
other_key k i (e ∷ es) [] a apart at = absurd (cc)
other_key k zero (e ∷ es) (l ∷ ls) a apart at =
    let is : account_with e.0 e.1 l ≡ a = cc in
    let same : e.0 ≡ a.client = ap (λ (x : Account). x.client) is in
    ne_eqb a.client k (λ j. eqb-false k e.0 apart.0 (sym j ∙ sym same))
other_key k (suc i) (e ∷ es) (l ∷ ls) a apart at = other_key k i es ls a apart.1 at

own_in : (i : ℕ) (es : List (ℕ × StandingState)) (ls : List (List Lease)) (a : Account) → IsDistinct nat_eq (keys_of es) → slice_get (accounts_of es ls) i ≡ Some a → find (λ b. nat_eq a.client b.client) (accounts_of es ls) ≡ Some a
unfolding IsDistinct
own_in i [] ls a apart at = absurd (cc)
own_in i (e ∷ es) [] a apart at = absurd (cc)
own_in zero (e ∷ es) (l ∷ ls) a apart at =
    let is : account_with e.0 e.1 l ≡ a = cc in
    let same : nat_eq a.client e.0 ≡ true = eq-eqb a.client e.0 (sym (ap (λ (x : Account). x.client) is)) in
    ap (λ (b : Bool). cond b (Some (account_with e.0 e.1 l)) (find (λ x. nat_eq a.client x.client) (accounts_of es ls))) same ∙ at
own_in (suc i) (e ∷ es) (l ∷ ls) a apart at =
    ap (λ (b : Bool). cond b (Some (account_with e.0 e.1 l)) (find (λ x. nat_eq a.client x.client) (accounts_of es ls))) (other_key e.0 i es ls a apart.0 at) ∙ own_in i es ls a apart.1 at

-- the account at an index is the one that is found for its client
pub own_place : (es : List (ℕ × StandingState)) (ls : List (List Lease)) (accounts : List Account) (i : ℕ) → accounts_of es ls ≡ accounts → IsShelf es ls
    → IfSome (slice_get accounts i) (λ a. find (λ b. nat_eq a.client b.client) accounts ≡ Some a)
own_place es ls accounts i is shelf = subst (λ (xs : List Account). IfSome (slice_get xs i) (λ a. find (λ b. nat_eq a.client b.client) xs ≡ Some a)) is (by (slice_get (accounts_of es ls) i) refl)
  where
    by : (o : Option Account) → slice_get (accounts_of es ls) i ≡ o → IfSome o (λ a. find (λ b. nat_eq a.client b.client) (accounts_of es ls) ≡ Some a)
    by None at = tt
    by (Some a) at = own_in i es ls a shelf.apart at

-- Clients that have no lease yet.

pub empty_less : (j i : ℕ) (ls : List (List Lease)) → j ≤ i → IsEmptyBefore i ls → IsEmptyBefore j ls
empty_less zero i ls less empty = tt
empty_less (suc j) i [] less empty = tt
empty_less (suc j) zero (l ∷ ls) less empty = absurd (omega arith)
empty_less (suc j) (suc i) (l ∷ ls) less empty = (empty.0, empty_less j i ls (omega arith) empty.1)

pub empty_set : (j i : ℕ) (ls : List (List Lease)) (x : List Lease) → j ≤ i → IsEmptyBefore j ls → IsEmptyBefore j (set ls i x)
empty_set zero i ls x less empty = tt
empty_set (suc j) i [] x less empty = tt
empty_set (suc j) zero (l ∷ ls) x less empty = absurd (omega arith)
empty_set (suc j) (suc i) (l ∷ ls) x less empty = (empty.0, empty_set j i ls x (omega arith) empty.1)

pub empty_push : (j : ℕ) (ls : List (List Lease)) → IsEmptyBefore j ls → IsEmptyBefore j (ls ++ [] ∷ [])
empty_push zero ls empty = tt
empty_push (suc j) [] empty = (refl, by j)
  where
    by : (j : ℕ) → IsEmptyBefore j []
    by zero = tt
    by (suc j) = tt
empty_push (suc j) (l ∷ ls) empty = (empty.0, empty_push j ls empty.1)

no_length : {X : Type 0} (xs : List X) → length xs ≤ 0 → xs ≡ []
no_length [] short = refl
no_length (x ∷ xs) short = absurd (omega arith)

-- where a list gets no longer, an empty one stays so
pub empty_shorter : (j i : ℕ) (ls : List (List Lease)) (l m : List Lease) → l ≡ get_or ls i l → length m ≤ length l → IsEmptyBefore j ls → IsEmptyBefore j (set ls i m)
empty_shorter zero i ls l m at less empty = tt
empty_shorter (suc j) i [] l m at less empty = tt
empty_shorter (suc j) zero (x ∷ ls) l m at less empty = (no_length m (omega (arith, less, ap length at, ap length empty.0)), empty.1)
empty_shorter (suc j) (suc i) (x ∷ ls) l m at less empty = (empty.0, empty_shorter j i ls l m at less empty.1)

-- the first that isn't empty
pub first_past : (i : ℕ) (ls : List (List Lease)) (l : List Lease) → i < length ls → l ≡ get_or ls i l → 0 < length l → IsEmptyBefore i ls
    → position_or_len (λ (x : List Lease). nat_lt 0 (length x)) ls ≡ i
first_past i [] l within at some empty = absurd (omega arith)
first_past zero (x ∷ ls) l within at some empty =
    ap (λ (b : Bool). cond (not b) (1 + position_or_len (λ (y : List Lease). nat_lt 0 (length y)) ls) 0) (lt-ltb 0 (length x) (omega (arith, some, ap length at)))
first_past (suc i) (x ∷ ls) l within at some empty =
    let none : nat_lt 0 (length x) ≡ false = ap (λ (y : List Lease). nat_lt 0 (length y)) empty.0 in
    (λ j. cond (not (none j)) (1 + position_or_len (λ (y : List Lease). nat_lt 0 (length y)) ls) 0)
    ∙ rw one-add (ap suc (first_past i ls l (omega arith) at some empty.1))

pub none_past : (i : ℕ) (ls : List (List Lease)) → length ls ≤ i → IsEmptyBefore i ls → position_or_len (λ (x : List Lease). nat_lt 0 (length x)) ls ≡ length ls
none_past i [] past empty = refl
none_past zero (x ∷ ls) past empty = absurd (omega arith)
none_past (suc i) (x ∷ ls) past empty =
    let none : nat_lt 0 (length x) ≡ false = ap (λ (y : List Lease). nat_lt 0 (length y)) empty.0 in
    (λ j. cond (not (none j)) (1 + position_or_len (λ (y : List Lease). nat_lt 0 (length y)) ls) 0)
    ∙ rw one-add (ap suc (none_past i ls (omega arith) empty.1))

-- The client at an index.

client_in : (es : List (ℕ × StandingState)) (ls : List (List Lease)) (i : ℕ) (e : ℕ × StandingState) → length es ≡ length ls → slice_get es i ≡ Some e
    → option_map (λ (a : Account). a.client) (slice_get (accounts_of es ls) i) ≡ Some e.0
client_in [] ls i e same at = absurd (cc)
client_in (d ∷ es) [] i e same at = absurd (omega arith)
client_in (d ∷ es) (l ∷ ls) zero e same at =
    let is : d ≡ e = cc in
    ap (λ (p : ℕ × StandingState). Some p.0) is
client_in (d ∷ es) (l ∷ ls) (suc i) e same at = client_in es ls i e (omega arith) at

pub client_at : (es : List (ℕ × StandingState)) (ls : List (List Lease)) (accounts : List Account) (i : ℕ) (e : ℕ × StandingState) → accounts_of es ls ≡ accounts → length es ≡ length ls
    → Some e ≡ slice_get es i → option_map (λ (a : Account). a.client) (slice_get accounts i) ≡ Some e.0
client_at es ls accounts i e is same at = ap (λ (xs : List Account). option_map (λ (a : Account). a.client) (slice_get xs i)) (sym is) ∙ client_in es ls i e same (sym at)

-- the account at the index of a client's entry is the one that is found for the client
pub stands_there : (c : ℕ) (es : List (ℕ × StandingState)) (ls : List (List Lease)) (accounts : List Account) (i : ℕ) (e : ℕ × StandingState) → accounts_of es ls ≡ accounts → IsShelf es ls
    → Some e ≡ slice_get es i → e.0 ≡ c → (i < length accounts) × (find (λ a. nat_eq c a.client) accounts ≡ slice_get accounts i)
stands_there c es ls accounts i e is shelf at own = by (slice_get accounts i) refl (client_at es ls accounts i e is shelf.together at) (own_place es ls accounts i is shelf)
  where
    by : (o : Option Account) → slice_get accounts i ≡ o → option_map (λ (a : Account). a.client) o ≡ Some e.0 → IfSome o (λ a. find (λ b. nat_eq a.client b.client) accounts ≡ Some a)
        → (i < length accounts) × (find (λ a. nat_eq c a.client) accounts ≡ slice_get accounts i)
    by None here client found = absurd (cc)
    by (Some a) here client found =
        let same : a.client ≡ c = cc in
        (slice_get_within accounts i a here, subst (λ (d : ℕ). find (λ b. nat_eq d b.client) accounts ≡ Some a) same found ∙ sym here)

pub past_none : {X : Type 0} (xs : List X) (i : ℕ) → None ≡ slice_get xs i → length xs ≤ i
past_none [] i at = omega arith
past_none (x ∷ xs) zero at = absurd (cc)
past_none (x ∷ xs) (suc i) at = omega (arith, past_none xs i at)

-- The search for a client that has a lease.

empty_next : (i : ℕ) (ls : List (List Lease)) (l : List Lease) → l ≡ get_or ls i l → length l ≤ 0 → IsEmptyBefore i ls → IsEmptyBefore (suc i) ls
empty_next i [] l at none empty = tt
empty_next zero (x ∷ ls) l at none empty = (no_length x (omega (arith, none, ap length at)), tt)
empty_next (suc i) (x ∷ ls) l at none empty = (empty.0, empty_next i ls l at none empty.1)

pub goes_past : (i : ℕ) (ls : List (List Lease)) (l : List Lease) → l ≡ get_or ls i l → length l ≤ 0 → IsEmptyBefore i ls → IsEmptyBefore (i + 1) ls
goes_past i ls l at none empty =
    let is : suc i ≡ i + 1 = omega arith in
    subst (λ (k : ℕ). IsEmptyBefore k ls) is (empty_next i ls l at none empty)

pub found_first : (i : ℕ) (ls : List (List Lease)) (l : List Lease) → i < length ls → l ≡ get_or ls i l → 0 < length l → IsEmptyBefore i ls
    → Some i ≡ position (λ (x : List Lease). nat_lt 0 (length x)) ls
found_first i ls l within at some empty =
    let is : position_or_len (λ (x : List Lease). nat_lt 0 (length x)) ls ≡ i = first_past i ls l within at some empty in
    ap Some (sym is)
    ∙ sym (ap (λ (b : Bool). cond b (Some (position_or_len (λ (x : List Lease). nat_lt 0 (length x)) ls)) None)
    (lt-ltb (position_or_len (λ (x : List Lease). nat_lt 0 (length x)) ls) (length ls) (omega (arith, is, within))))

pub found_none : (i : ℕ) (ls : List (List Lease)) → length ls ≤ i → IsEmptyBefore i ls → None ≡ position (λ (x : List Lease). nat_lt 0 (length x)) ls
found_none i ls past empty =
    let is : position_or_len (λ (x : List Lease). nat_lt 0 (length x)) ls ≡ length ls = none_past i ls past empty in
    sym (ap (λ (b : Bool). cond b (Some (position_or_len (λ (x : List Lease). nat_lt 0 (length x)) ls)) None)
    (le-ltb (position_or_len (λ (x : List Lease). nat_lt 0 (length x)) ls) (length ls) (omega (arith, is))))
