-- What becomes of all leases.
use Rattle.std.proofs.Common.{◌≡◌, ◌≢◌, ◌⊎◌, ℕ, ◌<◌, ◌≤◌, refl, sym, subst, ap, ◌∙◌, inl, inr, Bool, true, false, cond, not, nat_eq, ◌&&◌, List, [], ◌∷◌, filter, All, get_or, Ok, Err, Result, arith, suc}
use Rattle.std.proofs.lemmas.Bool.{cases_lt, cases_eq, eqb-true, ltb-true}
use Rattle.std.proofs.Common.{lt-ltb}
use Rattle.deed_core.specs.Tag.{Tag}
use Rattle.lease_terms.specs.Requests.{RequestId}
use Rattle.lease_proto.specs.declared.faults.LineFault.{LineFault}
use Rattle.lease_proto.specs.declared.lines.Line.TheVariants as lines
use Rattle.lease_proto.specs.declared.lines.HelloLine.{HelloLine}
use Rattle.lease_proto.specs.declared.lines.LeaseLine.{LeaseLine}
use Rattle.lease_proto.specs.declared.lines.ReleaseLine.{ReleaseLine}
use Rattle.lease_proto.specs.declared.lines.Op.TheVariants as ops
use Rattle.lease_proto.specs.declared.operators.ServedLine.{ServedLine}
use Rattle.lease_proto.specs.declared.operators.ServedLine.TheVariants as served
use Rattle.lease_proto.specs.declared.replies.Reply.{Reply}
use Rattle.lease_proto.specs.declared.replies.Reply.TheVariants as reply
use Rattle.lease_proto.specs.Operators.{served_of}
use Rattle.lease_proto.specs.Requests.{demand_of}
use Rattle.lease_book.specs.Entry.{Entry, Settlement, Settled, Hello, Swept, Grant, Refuse, Return}
use Rattle.lease_book.specs.Account.{Account, Lease, is_lease, is_older, without_first, leases_after}
use Rattle.lease_book.specs.BookState.{BookState, HasHistory, Enters, account_in}
use Rattle.lease_book.specs.Shelf.{standing_of, with_standing}
use Rattle.lease_book.specs.Standings.{begun}
use Rattle.lease_book.proofs.LawProofs.{entered_changes}
use Rattle.lease_machine.specs.Picture.{Picture, IsPicture}
use Rattle.lease_machine.specs.Machine.{NewLease, NewRelease, Sweeps, HelloStep, AnswersLine, LeaseStep, Welcomes}
use Rattle.lease_machine.specs.LeaseLaws.{leases_in, LeasesStay, LeasesBecome, LeaseMoves, ReleaseMoves, HelloMoves, LeasesMove, grant_told}
use Rattle.lease_machine.proofs.Repeats.{history_of, request_answer, operator_keeps}
use Rattle.lease_machine.proofs.Fitting.{not_known, granted_fits}

pub stay_same : (old new : Picture) → new.book ≡ old.book → LeasesStay old new
stay_same old new same c = ap (λ (b : BookState). (account_in c b).leases) same

-- a client whose leases became what they were keeps them
pub become_same : (old new : Picture) (c : ℕ) → LeasesBecome c (leases_in old c) old new → LeasesStay old new
become_same old new c is d = elim (cases_eq d c) [
  | inl same ↦ subst (λ (e : ℕ). leases_in new e ≡ leases_in old e) (sym same) is.own
  | inr other ↦ is.others d other
]

-- what a settled request changes
pub settled_becomes : (old new : Picture) (id : RequestId) (s : Settlement) → HasHistory old.book → Enters (Settled id s) old.book new.book → LeasesBecome id.client (leases_after id s (leases_in old id.client)) old new
settled_becomes old new id s history entry = record {
  own = ap (λ (a : Account). a.leases) (entered_changes.settled old.book new.book id s history entry);
  others = λ d other. ap (λ (a : Account). a.leases) (entered_changes.others old.book new.book (Settled id s) d history entry other);
}

pub lease_moves : (old new : Picture) (id : RequestId) (l : LeaseLine) → IsPicture old → (r : Reply) → NewLease id l old new r → LeaseMoves id l old r new
lease_moves old new id l is (reply.Granted g) does =
    let t = does.segment in
    let told : reply.Granted g ≡ reply.Granted (grant_told old id t) = does.reply in
    let same : g ≡ grant_told old id t = cc in
    (t, same, (granted_fits old new id l g does).0, settled_becomes old new id (Grant t (record { quantum = does.arena.quantum; request = demand_of l })) (history_of old is) does.granted.entry)
lease_moves old new id l is (reply.Refused x) does = become_same old new id.client (settled_becomes old new id (Refuse does.0) (history_of old is) does.1.refused.entry)
lease_moves old new id l is (reply.Again x) does = stay_same old new does.1.book
lease_moves old new id l is (reply.Released x) does = absurd does
lease_moves old new id l is (reply.Old x) does = absurd does
lease_moves old new id l is (reply.Stale x) does = absurd does
lease_moves old new id l is (reply.Gap x) does = absurd does
lease_moves old new id l is (reply.Welcome x) does = absurd does
lease_moves old new id l is (reply.Error x) does = absurd does

pub release_moves : (old new : Picture) (id : RequestId) (l : ReleaseLine) → IsPicture old → (r : Reply) → NewRelease id l old new r → ReleaseMoves id l old r new
release_moves old new id l is (reply.Released p) does =
    let less = settled_becomes old new id (Return does.1.index l.base) (history_of old is) does.1.released.entry in
    (does.0, record { index = does.1.index; lease = record { incarnation = id.incarnation; number = does.1.released.granted; segment = does.1.segment }; named = does.1.finds.first; found = does.1.released.lease; less = less })
release_moves old new id l is (reply.Refused x) does = become_same old new id.client (settled_becomes old new id (Refuse does.0) (history_of old is) does.1.refused.entry)
release_moves old new id l is (reply.Granted x) does = absurd does
release_moves old new id l is (reply.Again x) does = absurd does
release_moves old new id l is (reply.Old x) does = absurd does
release_moves old new id l is (reply.Stale x) does = absurd does
release_moves old new id l is (reply.Gap x) does = absurd does
release_moves old new id l is (reply.Welcome x) does = absurd does
release_moves old new id l is (reply.Error x) does = absurd does

-- Hellos.

abbrev pub stays : ℕ → Lease → Bool
stays i l = not (is_older i l)

-- one that fails a test stands for nothing among those that pass it
filter_without : (keep test : Lease → Bool) → ((x : Lease) → test x ≡ true → keep x ≡ false) → (xs : List Lease) → filter keep (without_first test xs) ≡ filter keep xs
filter_without keep test out [] = refl
filter_without keep test out (x ∷ xs) = by (test x) (keep x) refl refl (filter_without keep test out xs)
  where
    by : (b k : Bool) → test x ≡ b → keep x ≡ k → filter keep (without_first test xs) ≡ filter keep xs → filter keep (cond b xs (x ∷ without_first test xs)) ≡ cond k (x ∷ filter keep xs) (filter keep xs)
    by true true e f rest = absurd (let wrong : true ≡ false = sym f ∙ out x e in cc)
    by true false e f rest = refl
    by false true e f rest = ap (λ (b : Bool). cond b (x ∷ filter keep (without_first test xs)) (filter keep (without_first test xs))) f ∙ ap (λ (ys : List Lease). x ∷ ys) rest
    by false false e f rest = ap (λ (b : Bool). cond b (x ∷ filter keep (without_first test xs)) (filter keep (without_first test xs))) f ∙ rest

filter_all : (keep : Lease → Bool) (xs : List Lease) → All (λ x. keep x ≡ true) xs → filter keep xs ≡ xs
filter_all keep [] all = refl
filter_all keep (x ∷ xs) all =
    ap (λ (b : Bool). cond b (x ∷ filter keep xs) (filter keep xs)) (all 0 x (omega arith))
    ∙ ap (λ (ys : List Lease). x ∷ ys) (filter_all keep xs (λ k d lt. all (suc k) d (omega (arith, lt))))

-- a lease of an incarnation before this one doesn't stay
older_goes : (i j arena base : ℕ) → j < i → (x : Lease) → is_lease j arena base x ≡ true → stays i x ≡ false
older_goes i j arena base below x is = by (nat_eq j x.incarnation) refl is
  where
    by : (b : Bool) → nat_eq j x.incarnation ≡ b → (b && (nat_eq arena x.segment.arena && nat_eq base x.segment.holding.range.base)) ≡ true → stays i x ≡ false
    by true same rest =
        let at : j ≡ x.incarnation = eqb-true j x.incarnation same in
        ap not (lt-ltb x.incarnation i (subst (λ (n : ℕ). n < i) at below))
    by false other rest = absurd (let wrong : false ≡ true = rest in cc)

pub stays_at : (i : ℕ) (x : Lease) → i ≤ x.incarnation → stays i x ≡ true
stays_at i x le = by (is_older i x) refl
  where
    by : (b : Bool) → is_older i x ≡ b → not b ≡ true
    by true older = absurd (omega (arith, le, ltb-true x.incarnation i older))
    by false same = refl

module _ (c i : ℕ) where
  -- so they are after the sweeps of older ones
  pub record Swept_so (old new : Picture) : Type 0 where
    pub current : (account_in c new.book).incarnation ≡ i
    pub standing : standing_of (account_in c new.book) ≡ standing_of (account_in c old.book)
    pub kept : filter (stays i) (leases_in new c) ≡ filter (stays i) (leases_in old c)
    pub others : (d : ℕ) → d ≢ c → leases_in new d ≡ leases_in old d

  sweeps_so : (ts : List Tag) (old new : Picture) → HasHistory old.book → (account_in c old.book).incarnation ≡ i → Sweeps c ts old new → Swept_so old new
  sweeps_so [] old new history at same = record {
    current = ap (λ (d : Picture). (account_in c d.book).incarnation) same ∙ at;
    standing = ap (λ (d : Picture). standing_of (account_in c d.book)) same;
    kept = ap (λ (d : Picture). filter (stays i) (leases_in d c)) same;
    others = λ d other. ap (λ (x : Picture). leases_in x d) same;
  }
  sweeps_so (t ∷ ts) old new history at (id, mid, swept, back, rest) =
      let j = id.incarnation in
      let base = t.holding.range.base in
      let entry : Enters (Swept c j t.arena base) old.book mid.book = subst (λ (k : ℕ). Enters (Swept k j t.arena base) old.book mid.book) swept.client swept.ended.entry in
      let own = entered_changes.swept old.book mid.book c j t.arena base history entry in
      let below : j < i = subst (λ (n : ℕ). j < n) at swept.older in
      let history_mid : HasHistory mid.book = (Swept c j t.arena base ∷ history.0, entry.history history.0 history.1) in
      let then_so = sweeps_so ts mid new history_mid (ap (λ (a : Account). a.incarnation) own ∙ at) rest in
      let first : filter (stays i) (leases_in mid c) ≡ filter (stays i) (leases_in old c) =
      ap (λ (a : Account). filter (stays i) a.leases) own ∙ filter_without (stays i) (is_lease j t.arena base) (older_goes i j t.arena base below) (leases_in old c) in
      record {
        current = then_so.current;
        standing = then_so.standing ∙ ap standing_of own;
        kept = then_so.kept ∙ first;
        others = λ d other. then_so.others d other ∙ ap (λ (a : Account). a.leases) (entered_changes.others old.book mid.book (Swept c j t.arena base) d history entry other);
      }

module _ (old new : Picture) (h : HelloLine) (is : IsPicture old) (does : Welcomes h old new) where
  abbrev was : Account
  was = account_in h.client old.book

  abbrev greeted : Account
  greeted = account_in h.client does.greeted

  abbrev entry : Entry
  entry = Hello h.client h.incarnation h.protocol

  history : HasHistory old.book
  history = history_of old is

  -- the numbers begin anew
  above_greeted : was.incarnation < h.incarnation → greeted ≡ with_standing (begun h.incarnation h.protocol) was
  above_greeted above = entered_changes.hello old.book does.greeted h.client h.incarnation h.protocol history does.hello above

  -- or go on
  again_greeted : h.incarnation ≡ was.incarnation → greeted ≡ was
  again_greeted current = entered_changes.again old.book does.greeted h.client h.incarnation h.protocol history does.hello current

  greeted_so : (greeted.incarnation ≡ h.incarnation) × (greeted.leases ≡ was.leases)
  greeted_so = by (cases_lt was.incarnation h.incarnation)
    where
      by : (was.incarnation < h.incarnation) ⊎ (h.incarnation ≤ was.incarnation) → (greeted.incarnation ≡ h.incarnation) × (greeted.leases ≡ was.leases)
      by (inl above) = (let own = above_greeted above in (ap (λ (a : Account). a.incarnation) own, ap (λ (a : Account). a.leases) own))
      by (inr below) =
          let current : h.incarnation ≡ was.incarnation = omega (arith, below, does.current) in
          let own = again_greeted current in
          (ap (λ (a : Account). a.incarnation) own ∙ sym current, ap (λ (a : Account). a.leases) own)

  swept : Swept_so h.client h.incarnation (record old { book = does.greeted }) new
  swept = sweeps_so h.client h.incarnation does.swept (record old { book = does.greeted }) new (entry ∷ history.0, does.hello.history history.0 history.1) greeted_so.0 does.sweeps

  pub welcome_moves : ((account_in h.client new.book).incarnation ≡ h.incarnation) × LeasesBecome h.client (filter (stays h.incarnation) (leases_in old h.client)) old new
  welcome_moves =
      let all : All (λ x. stays h.incarnation x ≡ true) (leases_in new h.client) = (λ k d lt. stays_at h.incarnation (get_or (leases_in new h.client) k d) (does.left k d lt)) in (
        swept.current,
        record {
          own = sym (filter_all (stays h.incarnation) (leases_in new h.client) all) ∙ swept.kept ∙ ap (filter (stays h.incarnation)) greeted_so.1;
          others = λ d other. swept.others d other ∙ ap (λ (a : Account). a.leases) (entered_changes.others old.book does.greeted entry d history does.hello other);
        },
      )

  pub welcome_anew : was.incarnation < h.incarnation → standing_of (account_in h.client new.book) ≡ begun h.incarnation h.protocol
  welcome_anew above = swept.standing ∙ ap standing_of (above_greeted above)

  pub welcome_on : was.incarnation ≡ h.incarnation → standing_of (account_in h.client new.book) ≡ standing_of was
  welcome_on same = swept.standing ∙ ap standing_of (again_greeted (sym same))

pub hello_moves : (old new : Picture) (h : HelloLine) → IsPicture old → (r : Reply) → HelloStep h old new r → HelloMoves h old r new
hello_moves old new h is (reply.Welcome w) does = (does.0, (welcome_moves old new h is does.1).1)
hello_moves old new h is (reply.Old o) does = stay_same old new (ap (λ (d : Picture). d.book) does.2)
hello_moves old new h is (reply.Again a) does = stay_same old new (ap (λ (d : Picture). d.book) does.2)
hello_moves old new h is (reply.Granted x) does = absurd does
hello_moves old new h is (reply.Released x) does = absurd does
hello_moves old new h is (reply.Refused x) does = absurd does
hello_moves old new h is (reply.Stale x) does = absurd does
hello_moves old new h is (reply.Gap x) does = absurd does
hello_moves old new h is (reply.Error x) does = absurd does

pub answer_to : (old new : Picture) (line text : List ℕ) (x : Result ServedLine LineFault) → served_of line ≡ x → LeaseStep old line text new → AnswersLine old x text new
answer_to old new line text x read step = subst (λ (y : Result ServedLine LineFault). AnswersLine old y text new) read step.answer

pub leases_move : LeasesMove
leases_move = record {
  lease = λ old new id l line text is read fresh step. (
      let a = request_answer old new id (ops.Lease l) line text read step in
      elim a.2 [
        | inl known ↦ absurd (not_known old id a.0 fresh known.0)
        | inr does ↦ (a.0, a.1, lease_moves old new id l is a.0 does.1)
      ]);
  release = λ old new id l line text is read fresh step. (
      let a = request_answer old new id (ops.Release l) line text read step in
      elim a.2 [
        | inl known ↦ absurd (not_known old id a.0 fresh known.0)
        | inr does ↦ (a.0, a.1, release_moves old new id l is a.0 does.1)
      ]);
  repeat = λ old new id op line text read again step. (
      let a = request_answer old new id op line text read step in
      elim a.2 [
        | inl known ↦ known.1
        | inr does ↦ absurd (again does.0)
      ]);
  hello = λ old new h line text is read step. (
      let a = answer_to old new line text (Ok (served.Client (lines.Hello h))) read step in
      (a.0, a.1, hello_moves old new h is a.0 a.2));
  operator = λ old new o line text read step. stay_same old new (operator_keeps o old new text (answer_to old new line text (Ok (served.Operator o)) read step));
  refused = λ old new fault line text read step. (answer_to old new line text (Err fault) read step).1;
}
