-- What a line's list of steps comes to, whatever the parts and the book answer under their locks.
use Rattle.std.proofs.Common.{◌≡◌, ◌≢◌, ◌≤◌, ◌<◌, ◌∙◌, ℕ, zero, suc, List, [], ◌∷◌, Option, Some, None, Result, Ok, Err, IfOk, IfSome, refl, sym, subst, ap, length}
use Rattle.std.specs.List.{find}
use Rattle.std.proofs.lemmas.List.Quantifiers.{position-Some}
use Rattle.std.specs.Str.{bytes_eq}
use Rattle.deed_core.specs.Tag.{Tag}
use Rattle.lease_terms.specs.Requests.{RequestId}
use Rattle.lease_terms.specs.declared.refusals.Refusal.{Refusal}
use Rattle.lease_terms.specs.declared.refusals.Refusal.TheVariants.{NoArena, NotYours, Leases, BadRequest, NoFit}
use Rattle.arena_tree.specs.Chains.{quantum_in}
use Rattle.arena_tree.specs.Climbs.{ClimbEnd, ReturnEnd}
use Rattle.arena_tree.specs.Events.{Event, AnswerTo}
use Rattle.arena_tree.specs.Trees.{IsTree, index_in, nodes_of}
use Rattle.tag_arena.specs.declared.faults.ArenaFault.TheVariants as arena_fault
use Rattle.arena_tree.specs.declared.part_faults.ClimbFault.TheVariants as climbing
use Rattle.arena_tree.specs.declared.part_faults.Stopped.{Stopped}
use Rattle.arena_tree.specs.declared.trees.TreeArena.{TreeArena}
use Rattle.lease_book.specs.Account.{is_lease}
use Rattle.lease_book.specs.Answers.{IsNew}
use Rattle.lease_book.specs.BookState.{account_in}
use Rattle.lease_book.specs.Calls.{IsRefused}
use Rattle.lease_book.specs.Receipts.{ReceiptState}
use Rattle.lease_book.specs.Words.{Greeted}
use Rattle.lease_book.specs.declared.answers.Answer.{Answer}
use Rattle.lease_book.specs.declared.books.TheConstants.{MOST_LEASES}
use Rattle.lease_book.specs.declared.receipts.KeptReply.{KeptReply}
use Rattle.lease_book.specs.declared.receipts.Terms.{Terms}
use Rattle.lease_proto.specs.declared.lines.HelloLine.{HelloLine}
use Rattle.lease_proto.specs.declared.lines.LeaseLine.{LeaseLine}
use Rattle.lease_proto.specs.declared.lines.Op.{Op}
use Rattle.lease_proto.specs.declared.lines.Op.TheVariants as op
use Rattle.lease_proto.specs.declared.lines.ReleaseLine.{ReleaseLine}
use Rattle.lease_call.specs.Answered.{EndsWell, GoneThrough}
use Rattle.lease_call.specs.CallPlans.{CallPlan, Done}
use Rattle.lease_call.specs.Calls.{BookCall, AnswerOf, Look, Settle, Refuse, Release, Hello, Sweep}
use Rattle.lease_call.specs.Greeting.{HelloEnd, on_sweep, sweep_plan, on_hello, greet_plan, hello_plan}
use Rattle.lease_call.specs.Hands.{on_place, place_first, hand_first}
use Rattle.lease_proto.specs.Requests.{demand_of}
use Rattle.lease_call.specs.Leasing.{take_plan, on_settle, on_take, lease_at, on_look}
use Rattle.lease_call.specs.Placing.{place_plan}
use Rattle.lease_call.specs.Releasing.{CallEnd, on_refuse, on_release, release_at}
use Rattle.lease_call.specs.Requesting.{op_plan, request_plan}
use Rattle.lease_call.specs.Taking.{IsTakenFor, TakeTold}
use Rattle.lease_call.specs.declared.call_faults.CallFault.{CallFault}
use Rattle.lease_call.specs.declared.call_faults.NotGreeted.{NotGreeted}
use Rattle.lease_call.specs.declared.call_faults.NotGreeted.TheVariants as greeting
use Rattle.lease_call.specs.declared.call_faults.NotReleased.{NotReleased}
use Rattle.lease_call.specs.declared.call_faults.NotReleased.TheVariants as releasing
use Rattle.lease_call.specs.declared.call_faults.NotSettled.{NotSettled}
use Rattle.lease_call.specs.declared.call_faults.NotSettled.TheVariants as settling
use Rattle.lease_call.specs.declared.outcomes.Outcome.{Outcome}
use Rattle.lease_call.specs.declared.outcomes.Outcome.TheVariants.{Settled, Answered}
use Rattle.lease_call.proofs.LawProofs.{gone_ends, ends_over, ends_gives, take_gives}
use Rattle.locked_parts.specs.Answers.{AnswersSoundly}
use Rattle.shared_book.specs.Calls.{IsLockedCall}
use Rattle.shared_book.specs.Outcomes.{IsOutcomeTo, IsGreetedSo, end_receipt}
use Rattle.shared_book.specs.Settling.{Settles, SettlesLease, SettlesRelease, MayRefuseLease, MayRefuseRelease, IsGrantReceipt, IsRefusalReceipt}
use Rattle.shared_book.proofs.Receipts.{answered, answered_new, refused, refused_so, granted, granted_so, released, late}

-- an arena that has a name is one of the tree's
named_within : (arenas : List TreeArena) (name : List ℕ) (arena : ℕ) → index_in name arenas ≡ Some arena → arena < length arenas
named_within [] name arena at = absurd (let e : None ≡ Some arena = at in cc)
named_within (x ∷ xs) name arena at = (position-Some (λ (y : TreeArena). bytes_eq y.name name) (x ∷ xs) arena x at).0

-- what the receipt of the outcome says
pub settled_so : {D : Type 0} (arenas : List TreeArena) (id : RequestId) (o : Op) (e : CallEnd D) (w : Option ReceiptState) → IfOk e (IsOutcomeTo arenas id o) → w ≢ None → end_receipt e ≡ w → (v : ReceiptState) × (w ≡ Some v) × Settles arenas o v
settled_so arenas id o e None is some same = absurd (some refl)
settled_so arenas id o (Ok x) (Some v) is some same = (v, refl, subst (λ (r : Option ReceiptState). IfSome r (Settles arenas o)) same is.settles)
settled_so arenas id o (Err f) (Some v) is some same = absurd (let e : None ≡ Some v = same in cc)

module _ (D : Type 0) (arenas : List TreeArena) where
  abbrev Locked : (k : BookCall) → AnswerOf D k → Type 0
  Locked = IsLockedCall D

  abbrev SoundIn : (e : Event) → AnswerTo e → Type 0
  SoundIn = AnswersSoundly (nodes_of arenas)

  -- a segment that isn't placed ends the line
  place_first_ends : {A : Type 0} (P : A → Type 0) (t : Tag) (rest : CallPlan D (Result A (CallFault Tag))) → EndsWell SoundIn Locked (λ r. IfOk r P) rest → EndsWell SoundIn Locked (λ r. IfOk r P) (place_first arenas t rest)
  place_first_ends {A} P t rest w = ends_over SoundIn Locked (λ r. IfOk r P) (place_plan arenas t) (on_place rest) by
    where
      by : (r : ReturnEnd) → EndsWell SoundIn Locked (λ r. IfOk r P) (on_place rest r)
      by (Ok u) = w
      by (Err e) = tt

  hand_first_ends : {A : Type 0} (P : A → Type 0) (hand : Option Tag) (rest : CallPlan D (Result A (CallFault Tag))) → EndsWell SoundIn Locked (λ r. IfOk r P) rest → EndsWell SoundIn Locked (λ r. IfOk r P) (hand_first arenas hand rest)
  hand_first_ends P None rest w = w
  hand_first_ends P (Some t) rest w = place_first_ends P t rest w

  module _ (h : HelloLine) where
    sweep_ends : (taken : Greeted) (turns : ℕ) → (taken.client ≡ h.client) × (taken.incarnation ≡ h.incarnation) → EndsWell SoundIn Locked (λ r. IfOk r (IsGreetedSo h)) (sweep_plan arenas taken turns)
    sweep_ends taken zero of = tt
    sweep_ends taken (suc turns) of = by (sweep_ends taken turns of)
      where
        by : EndsWell SoundIn Locked (λ r. IfOk r (IsGreetedSo h)) (sweep_plan arenas taken turns) → (x : Result (Option (RequestId × Tag)) Stopped) → Locked (Sweep taken.client) x → EndsWell SoundIn Locked (λ r. IfOk r (IsGreetedSo h)) (on_sweep arenas taken (sweep_plan arenas taken turns) x)
        by w (Ok None) k = of
        by w (Ok (Some r)) k = place_first_ends (IsGreetedSo h) r.1 (sweep_plan arenas taken turns) w
        by w (Err e) k = tt

    greet_ends : (turns : ℕ) (x : Result Greeted (NotGreeted D)) → Locked (Hello h.client h.incarnation h.protocol) x → EndsWell SoundIn Locked (λ r. IfOk r (IsGreetedSo h)) (on_hello arenas turns x)
    greet_ends turns (Ok w) k = sweep_ends w turns (ap (λ (g : Greeted). g.client) k.event.told, ap (λ (g : Greeted). g.incarnation) k.event.told)
    greet_ends turns (Err (greeting.Late f)) k = late (account_in h.client k.old).incarnation h.incarnation h.protocol f k.event.0
    greet_ends turns (Err greeting.Stopped) k = tt

    hello_ends : (hand : Option Tag) (turns : ℕ) → EndsWell SoundIn Locked (λ r. IfOk r (IsGreetedSo h)) (hello_plan arenas hand h turns)
    hello_ends hand turns = hand_first_ends (IsGreetedSo h) hand (greet_plan arenas h turns) (greet_ends turns)

    -- a hello comes to what its book says
    pub hello_well : (hand : Option Tag) (turns : ℕ) (r : HelloEnd D) → GoneThrough SoundIn Locked (hello_plan arenas hand h turns) r → IfOk r (IsGreetedSo h)
    hello_well hand turns r went = gone_ends SoundIn Locked (λ x. IfOk x (IsGreetedSo h)) (hello_plan arenas hand h turns) r went (hello_ends hand turns)

  module _ (id : RequestId) where
    abbrev Well : Op → CallEnd D → Type 0
    Well o r = IfOk r (IsOutcomeTo arenas id o)

    place_ends : (o : Op) (t : Tag) (x : Outcome D) → IsOutcomeTo arenas id o x → EndsWell SoundIn Locked (Well o) (place_first arenas t (Done (Ok x)))
    place_ends o t x is = place_first_ends (IsOutcomeTo arenas id o) t (Done (Ok x)) is

    refuse_ends : (o : Op) (why : Refusal) → ((v : ReceiptState) → IsRefusalReceipt why v → Settles arenas o v) → (x : Result (Answer D) Stopped) → Locked (Refuse id why) x → Well o (on_refuse x)
    refuse_ends o why so (Ok a) k = record {
      of_book = answered k.old id k.mark k.new (IsRefused k.old k.new id why) ⊥ (λ v is. refused k.old id k.mark k.new why v is) a k.event;
      settles = answered_new k.old k.new id (IsRefused k.old k.new id why) ⊥ (Settles arenas o) (λ v is. so v (refused_so k.old k.new id why v is)) a k.event;
    }
    refuse_ends o why so (Err e) k = tt

    module _ (l : ReleaseLine) where
      some_named : (arena : ℕ) → index_in l.arena arenas ≡ Some arena → index_in l.arena arenas ≢ None
      some_named arena at none = absurd (let e : Some arena ≡ None = sym at ∙ none in cc)

      release_refused : (why : Refusal) → MayRefuseRelease arenas l why → (v : ReceiptState) → IsRefusalReceipt why v → Settles arenas (op.Release l) v
      release_refused why may v is = subst (SettlesRelease arenas l) (sym is) may

      released_ends : (arena : ℕ) → index_in l.arena arenas ≡ Some arena → (x : Result (ReceiptState × Tag) (NotReleased D)) → Locked (Release id arena l.base) x → EndsWell SoundIn Locked (Well (op.Release l)) (on_release arenas x)
      released_ends arena named (Ok r) k = place_ends (op.Release l) r.1 (Settled r.0) (record {
        of_book = released k.old id k.mark k.new arena l.base r.0 r.1 k.event;
        settles = subst (SettlesRelease arenas l) (sym (ap (λ (v : ReceiptState). v.reply) k.event.receipt)) (named, refl);
      })
      released_ends arena named (Err (releasing.Answered a)) k = record {
        of_book = answered k.old id k.mark k.new (λ v. IsRefused k.old k.new id NotYours v × (find (is_lease id.incarnation arena l.base) (account_in id.client k.old).leases ≡ None)) ⊥ (λ v is. refused k.old id k.mark k.new NotYours v is.0) a k.event;
        settles = answered_new k.old k.new id (λ v. IsRefused k.old k.new id NotYours v × (find (is_lease id.incarnation arena l.base) (account_in id.client k.old).leases ≡ None)) ⊥ (Settles arenas (op.Release l)) (λ v is. release_refused NotYours (some_named arena named) v (refused_so k.old k.new id NotYours v is.0)) a k.event;
      }
      released_ends arena named (Err releasing.Stopped) k = tt

      release_ends : (o : Option ℕ) → index_in l.arena arenas ≡ o → EndsWell SoundIn Locked (Well (op.Release l)) (release_at arenas id l.base o)
      release_ends None at = refuse_ends (op.Release l) NoArena (release_refused NoArena at)
      release_ends (Some arena) at = released_ends arena at

    module _ (l : LeaseLine) where
      lease_refused : (why : Refusal) → MayRefuseLease arenas l why → (v : ReceiptState) → IsRefusalReceipt why v → Settles arenas (op.Lease l) v
      lease_refused why may v is = subst (λ (k : KeptReply). SettlesLease arenas l k v.terms) (sym is) may

      looked_ends : (new : CallPlan D (CallEnd D)) → EndsWell SoundIn Locked (Well (op.Lease l)) new → (x : Result (Option (Answer D)) Stopped) → Locked (Look id) x → EndsWell SoundIn Locked (Well (op.Lease l)) (on_look new x)
      looked_ends new w (Ok None) k = w
      looked_ends new w (Ok (Some a)) k = record {
        of_book = answered k.old id k.mark k.new (λ _. ⊥) ⊥ (λ v no. absurd no) a k.event;
        settles = answered_new k.old k.new id (λ _. ⊥) ⊥ (Settles arenas (op.Lease l)) (λ v no. absurd no) a k.event;
      }
      looked_ends new w (Err e) k = tt

      module _ (arena : ℕ) (at : index_in l.arena arenas ≡ Some arena) where
        abbrev terms : Terms
        terms = record { quantum = quantum_in (nodes_of arenas) arena; request = demand_of l }

        lease_granted : (t : Tag) (v : ReceiptState) → t.arena ≡ arena → IsGrantReceipt t terms v → Settles arenas (op.Lease l) v
        lease_granted t v of is =
            subst (λ (k : KeptReply). SettlesLease arenas l k v.terms) (sym is.reply)
            (subst (λ (n : ℕ). (index_in l.arena arenas ≡ Some n) × (v.terms ≡ Some (record { quantum = quantum_in (nodes_of arenas) n; request = demand_of l }))) (sym of) (at, is.on_terms))

        settled_ends : (t : Tag) → IsTakenFor (nodes_of arenas) arena (demand_of l) t → (x : Result ReceiptState (NotSettled Tag D)) → Locked (Settle id t terms) x → EndsWell SoundIn Locked (Well (op.Lease l)) (on_settle arenas x)
        settled_ends t taken (Ok v) k = record {
          of_book = granted k.old id k.mark k.new t terms v taken.fits k.event;
          settles = lease_granted t v taken.of_arena (granted_so k.old k.new id t terms v k.event);
        }
        settled_ends t taken (Err (settling.NotLeased n)) k = place_ends (op.Lease l) n.segment (Answered n.answer) (record {
          of_book = answered k.old id k.mark k.new (λ v. IsRefused k.old k.new id Leases v × (MOST_LEASES ≤ length (account_in id.client k.old).leases)) (IsNew (account_in id.client k.old) id × (length (account_in id.client k.old).leases < MOST_LEASES)) (λ v is. refused k.old id k.mark k.new Leases v is.0) n.answer k.event.1;
          settles = answered_new k.old k.new id (λ v. IsRefused k.old k.new id Leases v × (MOST_LEASES ≤ length (account_in id.client k.old).leases)) (IsNew (account_in id.client k.old) id × (length (account_in id.client k.old).leases < MOST_LEASES)) (Settles arenas (op.Lease l)) (λ v is. lease_refused Leases (arena, at, taken.good) v (refused_so k.old k.new id Leases v is.0)) n.answer k.event.1;
        })
        settled_ends t taken (Err (settling.Stopped s)) k = tt

        taken_ends : (r : ClimbEnd) → TakeTold (nodes_of arenas) arena (demand_of l) r → EndsWell SoundIn Locked (Well (op.Lease l)) (on_take arenas id arena (demand_of l) r)
        taken_ends (Ok t) taken = settled_ends t taken
        taken_ends (Err (climbing.Refused arena_fault.BadRequest)) bad = refuse_ends (op.Lease l) BadRequest (lease_refused BadRequest (arena, at, bad))
        taken_ends (Err (climbing.Refused arena_fault.NoFit)) good = refuse_ends (op.Lease l) NoFit (lease_refused NoFit (arena, at, good))
        taken_ends (Err (climbing.Refused arena_fault.NoMemory)) told = record { of_book = tt; settles = tt }
        taken_ends (Err (climbing.Stuck t)) told = tt
        taken_ends (Err (climbing.Stopped o)) told = tt

      lease_ends : IsTree arenas → (o : Option ℕ) → index_in l.arena arenas ≡ o → EndsWell SoundIn Locked (Well (op.Lease l)) (lease_at arenas id (demand_of l) o)
      lease_ends tree None at = refuse_ends (op.Lease l) NoArena (lease_refused NoArena at)
      lease_ends tree (Some arena) at =
          ends_gives (nodes_of arenas) SoundIn (λ e x s. s.0) (TakeTold (nodes_of arenas) arena (demand_of l)) Locked (Well (op.Lease l)) (take_plan arenas arena (demand_of l)) (on_take arenas id arena (demand_of l)) (take_gives arenas arena (demand_of l) tree (named_within arenas l.arena arena at)) (taken_ends arena at)

    op_ends : IsTree arenas → (o : Op) → EndsWell SoundIn Locked (Well o) (op_plan arenas id o)
    op_ends tree (op.Lease l) = looked_ends l (lease_at arenas id (demand_of l) (index_in l.arena arenas)) (lease_ends l tree (index_in l.arena arenas) refl)
    op_ends tree (op.Release l) = release_ends l (index_in l.arena arenas) refl

    request_ends : IsTree arenas → (hand : Option Tag) (o : Op) → EndsWell SoundIn Locked (Well o) (request_plan arenas hand id o)
    request_ends tree hand o = hand_first_ends (IsOutcomeTo arenas id o) hand (op_plan arenas id o) (op_ends tree o)

    -- a request comes to what its book says, as its words ask
    pub request_well : IsTree arenas → (hand : Option Tag) (o : Op) (r : CallEnd D) → GoneThrough SoundIn Locked (request_plan arenas hand id o) r → Well o r
    request_well tree hand o r went = gone_ends SoundIn Locked (Well o) (request_plan arenas hand id o) r went (request_ends tree hand o)
