-- What no line settled isn't in the book, so that who is granted it then is new.
use Rattle.std.proofs.Common.{◌≡◌, ◌≢◌, ◌==◌, ◌⊎◌, ◌∙◌, ℕ, refl, sym, ap, subst, inl, inr, cond, Bool, true, false, nat_eq, List, [], ◌∷◌, ◌++◌, Option, Some, None, Result, Ok, Err, arith}
use Rattle.std.specs.List.{find}
use Rattle.std.proofs.lemmas.Bool.{cases_eq, cases_lt, eqb-true}
use Rattle.std.proofs.lemmas.List.{append_cancel_right}
use Rattle.lease_terms.specs.Requests.{RequestId}
use Rattle.lease_terms.specs.Protocols.{window_of}
use Rattle.lease_proto.specs.declared.faults.LineFault.{LineFault}
use Rattle.lease_proto.specs.declared.lines.Line.{Line}
use Rattle.lease_proto.specs.declared.lines.Line.TheVariants as lines
use Rattle.lease_proto.specs.declared.lines.HelloLine.{HelloLine}
use Rattle.lease_proto.specs.declared.lines.Op.{Op}
use Rattle.lease_proto.specs.declared.lines.Op.TheVariants as ops
use Rattle.lease_proto.specs.declared.operators.ServedLine.{ServedLine}
use Rattle.lease_proto.specs.declared.operators.ServedLine.TheVariants as served
use Rattle.lease_proto.specs.declared.replies.Granted.{Granted}
use Rattle.lease_proto.specs.declared.replies.Reply.{Reply}
use Rattle.lease_proto.specs.declared.replies.Reply.TheVariants as reply
use Rattle.lease_proto.specs.Frames.{Frame}
use Rattle.lease_proto.specs.Operators.{served_of}
use Rattle.lease_proto.specs.Replies.{reply_of, IsReply}
use Rattle.lease_proto.specs.Requests.{client_of}
use Rattle.lease_proto.specs.Serving.{ServesLines}
use Rattle.lease_book.specs.Account.{Account}
use Rattle.lease_book.specs.Answers.{IsNew}
use Rattle.lease_book.specs.BookState.{account_in, account_or_nobody}
use Rattle.lease_book.specs.Receipts.{Kept}
use Rattle.lease_book.specs.Replies.{greatest, kept_at, recent}
use Rattle.lease_book.specs.Shelf.{standing_of}
use Rattle.lease_book.specs.Standings.{StandingState, settled_with}
use Rattle.lease_book.proofs.LawProofs.{found_above}
use Rattle.lease_machine.specs.Picture.{Picture, IsPicture}
use Rattle.lease_machine.specs.Machine.{LeaseStep}
use Rattle.lease_machine.specs.Laws.{Runs}
use Rattle.lease_machine.specs.AnswerLaws.{reply_bytes, AreNamed, IsKept, IsReadAs, IsRequestLine, RepliesTo}
use Rattle.lease_machine.specs.GrantLaws.{EndsLease, GrantsTwice, StepKeeps, SweepsAway}
use Rattle.lease_machine.specs.NewGrants.{NewGrantsStayApart, ReleasesGrant, RunUnsettled, Settles, StepLeaves, StepUnsettled}
use Rattle.lease_machine.specs.Rules.{HelloRule, IsReplyKept, KeepsRules, RequestRule}
use Rattle.lease_machine.proofs.Agreeing.{never_new}
use Rattle.lease_machine.proofs.GrantedApart.{grants_stay_apart}
use Rattle.lease_machine.proofs.Granting.{grant_bytes, is_grant}
use Rattle.lease_machine.proofs.Naming.{line_is}
use Rattle.lease_machine.proofs.Homes.{pictures_stay, setup_only_grows}
use Rattle.lease_machine.proofs.Repeats.{history_of, kept_or, known_kept, request_answer, request_kept}
use Rattle.lease_machine.proofs.Replied.{clients_get_replies, kept_valid, read_as}
use Rattle.lease_machine.proofs.Ruling.{steps_keep_rules}

-- nothing is kept of the request's number, in its incarnation
abbrev IsUnsettled : RequestId → Picture → Type 0
IsUnsettled id d = (account_in id.client d.book).incarnation ≡ id.incarnation → kept_at id.number (account_in id.client d.book).kept ≡ None

-- nor once another number is settled
none_more : (w n : ℕ) (k : Kept) (ks : List Kept) → k.number ≢ n → kept_at n ks ≡ None → kept_at n (recent w (k ∷ ks)) ≡ None
none_more w n k ks differ none = by (kept_at n (recent w (k ∷ ks))) refl
  where
    first : (b : Bool) (x : Kept) → nat_eq n k.number ≡ b → cond b (Some k) (kept_at n ks) ≡ Some x → ⊥
    first true x same is = differ (sym (eqb-true n k.number same))
    first false x same is = (let e : None ≡ Some x = sym none ∙ is in cc)

    by : (o : Option Kept) → kept_at n (recent w (k ∷ ks)) ≡ o → kept_at n (recent w (k ∷ ks)) ≡ None
    by None is = is
    by (Some x) is = absurd (first (nat_eq n k.number) x refl (found_above (greatest (k ∷ ks)) w n (k ∷ ks) x is))

module _ (id : RequestId) (old new : Picture) (line text : List ℕ) (is : IsPicture old) (names : AreNamed old.tree) (step : LeaseStep old line text new) (not : ¬ Settles id line text) (was : IsUnsettled id old) where
  same_account : account_in id.client new.book ≡ account_in id.client old.book → IsUnsettled id new
  same_account same now = ap (λ (a : Account). kept_at id.number a.kept) same ∙ was (sym (ap (λ (a : Account). a.incarnation) same) ∙ now)

  same_book : new.book ≡ old.book → IsUnsettled id new
  same_book same = same_account (ap (account_in id.client) same)

  same_picture : new ≡ old → IsUnsettled id new
  same_picture same = same_book (ap (λ (d : Picture). d.book) same)

  keeps : KeepsRules old line text new
  keeps = steps_keep_rules old new line text is step

  of_hello : (h : HelloLine) → h.client ≡ id.client → (r : Reply) → HelloRule h old r new → IsUnsettled id new
  of_hello h own (reply.Welcome w) rule =
      subst (λ (c : ℕ). (account_in c new.book).incarnation ≡ id.incarnation → kept_at id.number (account_in c new.book).kept ≡ None) own (λ now.
      elim (cases_lt (account_in h.client old.book).incarnation h.incarnation) [
        | inl above ↦ ap (λ (s : StandingState). kept_at id.number s.kept) (rule.0.anew above)
        | inr most ↦
            let stands = rule.0.goes_on (omega (arith, rule.0.current, most)) in
            let before = subst (λ (c : ℕ). (account_in c old.book).incarnation ≡ id.incarnation → kept_at id.number (account_in c old.book).kept ≡ None) (sym own) was in
            ap (λ (s : StandingState). kept_at id.number s.kept) stands ∙ before (sym (ap (λ (s : StandingState). s.incarnation) stands) ∙ now)
      ])
  of_hello h own (reply.Old o) rule = same_picture rule.2
  of_hello h own (reply.Again a) rule = same_picture rule.2
  of_hello h own (reply.Granted x) rule = absurd rule
  of_hello h own (reply.Released x) rule = absurd rule
  of_hello h own (reply.Refused x) rule = absurd rule
  of_hello h own (reply.Stale x) rule = absurd rule
  of_hello h own (reply.Gap x) rule = absurd rule
  of_hello h own (reply.Error x) rule = absurd rule

  -- a new request that isn't settled changes nothing of the book
  unkept : (asked : RequestId) (op : Op) (r : Reply) → ¬ IsKept r → RequestRule asked op old r new → new.book ≡ old.book
  unkept asked op (reply.Granted x) not rule = absurd (not tt)
  unkept asked op (reply.Released x) not rule = absurd (not tt)
  unkept asked op (reply.Refused x) not rule = absurd (not tt)
  unkept asked (ops.Lease l) (reply.Again x) not rule = rule.2
  unkept asked (ops.Lease l) (reply.Welcome x) not rule = absurd rule
  unkept asked (ops.Lease l) (reply.Old x) not rule = absurd rule
  unkept asked (ops.Lease l) (reply.Stale x) not rule = absurd rule
  unkept asked (ops.Lease l) (reply.Gap x) not rule = absurd rule
  unkept asked (ops.Lease l) (reply.Error x) not rule = absurd rule
  unkept asked (ops.Release l) (reply.Again x) not rule = absurd rule
  unkept asked (ops.Release l) (reply.Welcome x) not rule = absurd rule
  unkept asked (ops.Release l) (reply.Old x) not rule = absurd rule
  unkept asked (ops.Release l) (reply.Stale x) not rule = absurd rule
  unkept asked (ops.Release l) (reply.Gap x) not rule = absurd rule
  unkept asked (ops.Release l) (reply.Error x) not rule = absurd rule

  -- a reply that is kept is read back
  settles : (asked : RequestId) (op : Op) → IsRequestLine line asked op → (r : Reply) → text ≡ reply_bytes r → IsKept r → IsReplyKept old new asked r → Settles asked line text
  settles asked op read r said is_kept k =
      let is_id = (line_is line (lines.Request asked op) read).0 in
      let valid = kept_valid new step.picture (subst AreNamed (sym step.setup.tree) names) asked is_id k.kept k.there in
      (op, r, read, read_as text r said (subst IsReply (sym k.reply) valid), is_kept)

  -- one of the client that is settled has another number
  settled : (asked : RequestId) (op : Op) → IsRequestLine line asked op → asked.client ≡ id.client → IsNew (account_in asked.client old.book) asked → (r : Reply) → text ≡ reply_bytes r → IsKept r → IsReplyKept old new asked r → IsUnsettled id new
  settled asked op read own fresh r said is_kept k now =
      let becomes : standing_of (account_in id.client new.book) ≡ settled_with k.kept (standing_of (account_in id.client old.book)) =
      subst (λ (c : ℕ). standing_of (account_in c new.book) ≡ settled_with k.kept (standing_of (account_in c old.book))) own k.becomes in
      let before : (account_in id.client old.book).incarnation ≡ id.incarnation = sym (ap (λ (s : StandingState). s.incarnation) becomes) ∙ now in
      let incarnation : asked.incarnation ≡ id.incarnation = fresh.current ∙ ap (λ (c : ℕ). (account_in c old.book).incarnation) own ∙ before in
      let differ : k.kept.number ≢ id.number =
      (λ e.
      (let number : asked.number ≡ id.number = sym k.number ∙ e in
      let same : asked ≡ id = λ j. record { client = own j; incarnation = incarnation j; number = number j } in
      not (subst (λ (i : RequestId). Settles i line text) same (settles asked op read r said is_kept k)))) in
      ap (λ (s : StandingState). kept_at id.number s.kept) becomes ∙ none_more (window_of (account_in id.client old.book).protocol) id.number k.kept (account_in id.client old.book).kept differ (was before)

  of_request : (asked : RequestId) (op : Op) → IsRequestLine line asked op → asked.client ≡ id.client → IsUnsettled id new
  of_request asked op read own =
      let a = request_answer old new asked op line text read step in
      elim a.2 [
        | inl known ↦ same_picture known.1
        | inr does ↦
            let by = keeps.request asked op read does.0 in
            elim (kept_or by.0) [
              | inl is_kept ↦ settled asked op read own does.0 by.0 by.1 is_kept (by.3 is_kept)
              | inr not ↦ same_book (unkept asked op by.0 not by.2)
            ]
      ]

  -- a line of another client
  of_other : (l : Line) → served_of line ≡ Ok (served.Client l) → client_of l ≢ id.client → IsUnsettled id new
  of_other l read other = same_account (keeps.others id.client (λ k again. (
      let e : Ok (served.Client l) ≡ Ok (served.Client k) = sym read ∙ again in
      let same : l ≡ k = cc in
      subst (λ (x : Line). client_of x ≢ id.client) same other)))

  by_line : (x : Result ServedLine LineFault) → served_of line ≡ x → IsUnsettled id new
  by_line (Err fault) read = same_picture (keeps.no_line fault read).1
  by_line (Ok (served.Operator o)) read = same_book (keeps.operator o read).1
  by_line (Ok (served.Client (lines.Hello h))) read = elim (cases_eq h.client id.client) [
    | inl own ↦ (let a = keeps.hello h read in of_hello h own a.0 a.2)
    | inr other ↦ of_other (lines.Hello h) read other
  ]
  by_line (Ok (served.Client (lines.Request asked op))) read = elim (cases_eq asked.client id.client) [
    | inl own ↦ of_request asked op read own
    | inr other ↦ of_other (lines.Request asked op) read other
  ]

  stays_unsettled : IsUnsettled id new
  stays_unsettled = by_line (served_of line) refl

run_unsettled : (id : RequestId) (frames : List Frame) (old new : Picture) (text : List ℕ) → IsPicture old → AreNamed old.tree → RunUnsettled id old frames text new → IsUnsettled id old → IsUnsettled id new
run_unsettled id [] old new text is names run was = subst (IsUnsettled id) (sym run.1) was
run_unsettled id (Ok line ∷ frames) old new text is names (first, rest, mid, step, same, run) was =
    run_unsettled id frames mid new rest step.0.picture (subst AreNamed (sym step.0.setup.tree) names) run (stays_unsettled id old mid line first is names step.0 step.1 was)
run_unsettled id (Err fault ∷ frames) old new text is names (rest, same, run) was = run_unsettled id frames old new rest is names run was

none_kept : (id : RequestId) (d : Picture) → d.book.accounts ≡ [] → IsUnsettled id d
none_kept id d none now = ap (λ (all : List Account). kept_at id.number (account_or_nobody id.client (find (λ a. id.client == a.client) all)).kept) none

granted_new : (old new : Picture) (id : RequestId) (op : Op) (line text : List ℕ) (g : Granted) → IsRequestLine line id op → LeaseStep old line text new → IsReadAs text (reply.Granted g) → IsUnsettled id old → IsNew (account_in id.client old.book) id
granted_new old new id op line text g read step told was =
    let a = request_answer old new id op line text read step in
    let grant = is_grant a.0 g (sym a.1 ∙ grant_bytes text g told) in
    elim a.2 [
      | inr does ↦ does.0
      | inl known ↦
          let k = known_kept old id a.0 (subst IsKept (sym grant.1) tt) known.0 in
          absurd (let e : None ≡ Some k.0 = sym (was (sym k.1.current)) ∙ k.1.there in cc)
    ]

read_once : (text : List ℕ) (r s : Reply) → IsReadAs text r → IsReadAs text s → r ≡ s
read_once text r s (one, is, read) (two, is_too, read_too) =
    let same : one ≡ two = append_cancel_right one two (10 ∷ []) (sym is ∙ is_too) in
    let e : Ok r ≡ Ok s = sym read ∙ ap reply_of same ∙ read_too in
    cc

-- a grant names its request
granted_named : (old new : Picture) (id : RequestId) (op : Op) (line text : List ℕ) (g : Granted) → IsPicture old → AreNamed old.tree → IsRequestLine line id op → LeaseStep old line text new → IsReadAs text (reply.Granted g) → g.id ≡ id
granted_named old new id op line text g is names read step told =
    let a = clients_get_replies old new (lines.Request id op) line text is names read step in
    let names_it : RepliesTo (lines.Request id op) (reply.Granted g) = subst (RepliesTo (lines.Request id op)) (read_once text a.0 (reply.Granted g) a.1 told) a.2 in
    let e : Some g.id ≡ Some id = names_it in
    cc

serves_by : {S : Type 0} (P Q : S → List ℕ → List ℕ → S → Type 0) → ((old new : S) (line text : List ℕ) → P old line text new → Q old line text new) → (frames : List Frame) (old new : S) (text : List ℕ) → ServesLines P old frames text new → ServesLines Q old frames text new
serves_by P Q f [] old new text run = run
serves_by P Q f (Ok line ∷ frames) old new text (first, rest, mid, step, same, run) = (first, rest, mid, f old mid line first step, same, serves_by P Q f frames mid new rest run)
serves_by P Q f (Err fault ∷ frames) old new text (rest, same, run) = (rest, same, serves_by P Q f frames old new rest run)

-- what ends a lease shows in its line and its answer
told_ends : (g : Granted) (old : Picture) (line text : List ℕ) → EndsLease g old line text → ReleasesGrant g line text ⊎ SweepsAway g line text
told_ends g old line text (inl (id, l, read, fresh, client, incarnation, arena, base, said)) = inl (id, l, read, client, incarnation, arena, base, said)
told_ends g old line text (inr sweeps) = inr sweeps

-- what was granted once is never new again
granted_once : (old mid late : Picture) (id : RequestId) (op : Op) (line text : List ℕ) (g : Granted) (frames : List Frame) (between : List ℕ) → IsPicture old → IsRequestLine line id op → LeaseStep old line text mid → IsReadAs text (reply.Granted g)
    → Runs mid frames between late → IsNew (account_in id.client late.book) id → ⊥
granted_once old mid late id op line text g frames between is read step told run fresh =
    let a = request_answer old mid id op line text read step in
    let grant = is_grant a.0 g (sym a.1 ∙ grant_bytes text g told) in
    let was = request_kept old mid id (history_of old is) op a.0 a.2 (subst IsKept (sym grant.1) tt) in
    never_new mid late id was.0 frames between step.picture was.1 run fresh

pub new_grants_stay_apart : NewGrantsStayApart
new_grants_stay_apart start old frames text g h is none names t =
    let one = t.first in
    let two = t.second in
    let run = serves_by (StepUnsettled one.id) LeaseStep (λ a b line told step. step.0) frames start old text one.unsettled in
    let old_is = pictures_stay start old frames text is run in
    let mid_is = one.step.picture in
    let between = serves_by (StepLeaves g) LeaseStep (λ a b line told step. step.0) t.frames t.mid t.late t.between t.leaves in
    let keeps = serves_by (StepLeaves g) (StepKeeps g) (λ a b line told step. (step.0, λ ends. step.1 (told_ends g a line told ends))) t.frames t.mid t.late t.between t.leaves in
    let late_is = pictures_stay t.mid t.late t.frames t.between mid_is between in
    let old_names = subst AreNamed (sym (setup_only_grows start old frames text run).tree) names in
    let mid_names = subst AreNamed (sym one.step.setup.tree) old_names in
    let late_names = subst AreNamed (sym (setup_only_grows t.mid t.late t.frames t.between between).tree) mid_names in
    let first_was = run_unsettled one.id frames start old text is names one.unsettled (none_kept one.id start none) in
    let second_was = run_unsettled two.id (frames ++ Ok t.line ∷ t.frames) start t.late (text ++ (t.text ++ t.between)) is names two.unsettled (none_kept two.id start none) in
    let first_new = granted_new old t.mid one.id one.op t.line t.text g one.read one.step one.told first_was in
    let second_new = granted_new t.late t.new two.id two.op t.next t.reply h two.read two.step two.told second_was in
    let first_named = granted_named old t.mid one.id one.op t.line t.text g old_is old_names one.read one.step one.told in
    let second_named = granted_named t.late t.new two.id two.op t.next t.reply h late_is late_names two.read two.step two.told in
    let twice : GrantsTwice old g h =
    record {
      line = t.line;
      text = t.text;
      mid = t.mid;
      first = record { id = one.id; op = one.op; read = one.read; counts = inl first_new; step = one.step; told = one.told };
      frames = t.frames;
      between = t.between;
      late = t.late;
      keeps = keeps;
      next = t.next;
      reply = t.reply;
      new = t.new;
      second = record { id = two.id; op = two.op; read = two.read; counts = inl second_new; step = two.step; told = two.told };
    } in
    grants_stay_apart start old frames text g h is none names run twice (λ same. granted_once old t.mid t.late one.id one.op t.line t.text g t.frames t.between old_is one.read one.step one.told between (
    subst (λ (i : RequestId). IsNew (account_in i.client t.late.book) i) (sym second_named ∙ same ∙ first_named) second_new))
