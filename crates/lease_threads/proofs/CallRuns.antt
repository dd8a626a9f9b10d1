-- What a line's list of steps leaves in a running system, and what it was.
use Rattle.std.proofs.Common.{◌≡◌, ◌∙◌, ℕ, suc, List, [], ◌∷◌, length, Option, Result, Ok, Err, IfOk, OnErr, Bool, true, false, inl, inr, refl, sym, ap, subst, arith}
use Rattle.deed_core.specs.Tag.{Tag}
use Rattle.arena_tree.specs.Chains.{Node}
use Rattle.arena_tree.specs.Events.{Event, AnswerTo}
use Rattle.arena_tree.specs.Plans.{Step}
use Rattle.arena_tree.specs.Sound.{Sound}
use Rattle.arena_tree.specs.Stops.{is_stopped}
use Rattle.arena_tree.specs.Trees.{nodes_of}
use Rattle.lease_call.specs.Answered.{AnsweredStep, GoneThrough, OfBook, OfPart, answers_along}
use Rattle.lease_call.specs.Calls.{BookCall, AnswerOf}
use Rattle.lease_call.specs.CallPlans.{CallPlan, Done, Part, Call, BookStep, CallPath, CallRan}
use Rattle.lease_call.specs.Stopping.{StopsLast, is_stopped_call, call_stopped}
use Rattle.lease_call.specs.declared.call_faults.CallFault.{CallFault}
use Rattle.lease_call.specs.declared.call_faults.CallFault.TheVariants as calling
use Rattle.lease_call.proofs.LawProofs.{event_goes_on}
use Rattle.locked_parts.specs.Answers.{AnswersSoundly}
use Rattle.locked_parts.specs.Gates.{AsksGate, CountsStep, MayStop, NotesStops, step_after, step_named}
use Rattle.locked_parts.specs.declared.gates.EventName.{EventName}
use Rattle.locked_parts.specs.declared.gates.NextStep.{NextStep}
use Rattle.locked_parts.specs.declared.gates.RequestStopped.{RequestStopped}
use Rattle.locked_parts.specs.declared.gates.StepCount.{StepCount}
use Rattle.arena_tree.specs.declared.trees.TreeArena.{TreeArena}
use Rattle.shared_book.specs.Calls.{IsLockedCall}
use Rattle.lease_threads.specs.Calling.{AreAsked, AreLetCome, IsAskedCall, IsCallOrStop, IsLockedAnswer, Says, SaysSo, StopsIn, StopsOrEnds, WentThrough, step_called, turn_after}
use Rattle.lease_threads.proofs.Runs.{not_both}

notes_on : {X : Type 0} (may : X → NextStep → Type 0) (x y z : X) (a b c : Bool) → NotesStops may x y a b → NotesStops may y z b c → NotesStops may x z a c
notes_on {X} may x y z a b c first later = (
  later.0 ∙ first.0,
  λ n. elim (later.1 n) [
    | inl m ↦ first.1 m
    | inr m ↦ inr (subst (λ (w : X). MayStop may w) first.0 m)
  ],
  λ n. later.2 (first.2 n),
)

-- an event of a book is no stop
goes : {D : Type 0} (k : BookCall) (x : AnswerOf D k) → IsLockedCall D k x → is_stopped_call D k x ≡ false
goes {D = D} k x is = event_goes_on D is.old is.new k x is.event

-- the gate was asked about each call
pub call_asks : {D X : Type 0} (may passed : X → NextStep → Type 0) (gate : X) (k : BookCall) (x : AnswerOf D k) (old new : StepCount) → IsAskedCall D may passed gate k x old new → AsksGate may passed gate (step_called k) (is_stopped_call D k x) old new
call_asks {D = D} may passed gate k x old new (count, inl stopped) = (count, λ n. absurd (not_both (is_stopped_call D k x) stopped.0.0 n), λ _. stopped.1)
call_asks {D = D} may passed gate k x old new (count, inr done) = (count, λ _. done.1, λ y. absurd (not_both (is_stopped_call D k x) y (goes k x done.0)))

-- by the same gate, about the same CPU
pub let_same : {D A X : Type 0} (arenas : List TreeArena) (passed : X → NextStep → Type 0) (x y : X) (m n : ℕ) (p : CallPlan D A) (a : A) → x ≡ y → m ≡ n → WentThrough arenas (passed x) m p a → WentThrough arenas (passed y) n p a
let_same {X = X} arenas passed x y m n p a gate cpu went = subst (λ (k : ℕ). WentThrough arenas (passed y) k p a) cpu (subst (λ (z : X). WentThrough arenas (passed z) m p a) gate went)

-- the list of steps was gone through, with stops or without, and the gate asked about each
pub record EndsAsked {D A : Type 0} (nodes : List Node) (may passed : NextStep → Type 0) (cpu : ℕ) (p : CallPlan D A) (a : A) : Type 0 where
  pub gone : GoneThrough (Sound nodes) (IsCallOrStop D) p a
  pub asked : AreAsked (SaysSo may passed) cpu (answers_along (Sound nodes) (IsCallOrStop D) p a gone [])

pub stops_in : {D A : Type 0} (arenas : List TreeArena) (may passed : NextStep → Type 0) (cpu : ℕ) (p : CallPlan D (Result A (CallFault Tag))) (hand : Option Tag) → EndsAsked (nodes_of arenas) may passed cpu p (Err (calling.Stopped hand)) → StopsIn arenas may passed cpu p hand
stops_in arenas may passed cpu p hand ends = record { gone = ends.gone; asked = ends.asked }

pub asked_same : {D A X : Type 0} (arenas : List TreeArena) (may passed : X → NextStep → Type 0) (x y : X) (m n : ℕ) (p : CallPlan D (Result A (CallFault Tag))) (hand : Option Tag) → x ≡ y → m ≡ n → StopsIn arenas (may x) (passed x) m p hand → StopsIn arenas (may y) (passed y) n p hand
asked_same {X = X} arenas may passed x y m n p hand gate cpu stops = subst (λ (k : ℕ). StopsIn arenas (may y) (passed y) k p hand) cpu (subst (λ (z : X). StopsIn arenas (may z) (passed z) m p hand) gate stops)

-- what a list of steps ended with is told on, or was a stop
pub told_on : {A : Type 0} (P : Result A (CallFault Tag) → Type 0) (ended : Result A (CallFault Tag)) (r : Result (Result A (CallFault Tag)) RequestStopped) (hand : Option Tag) → StopsOrEnds ended r hand → (call_stopped ended ≡ false → P ended) → IfOk r P
told_on P ended (Ok e) hand is f = subst P (sym is.0) (f is.1)
told_on P ended (Err s) hand is f = tt

pub stopped_on : {A : Type 0} (P : Type 0) (ended : Result A (CallFault Tag)) (r : Result (Result A (CallFault Tag)) RequestStopped) (hand : Option Tag) → StopsOrEnds ended r hand → (ended ≡ Err (calling.Stopped hand) → P) → OnErr r P
stopped_on P ended (Ok e) hand is f = tt
stopped_on P ended (Err s) hand is f = f is

module _ {B P X M K D : Type 0} (may passed : X → NextStep → Type 0) (gate : P → X) (steps : P → StepCount) (noted : P → Bool) (name : P → M) (kinds : P → K) (tree : P → List Node) (count rounds : P → ℕ)
    (part : P → (e : Event) → AnswerTo e → P → Type 0) (book : B → P → (k : BookCall) → AnswerOf D k → B → P → Type 0) where
  -- what is as it was, but for the notes
  pub record Stays (s t : P) : Type 0 where
    pub notes : NotesStops may (gate s) (gate t) (noted s) (noted t)
    pub loan : name t ≡ name s
    pub shape : kinds t ≡ kinds s

  stays_on : (s t u : P) → Stays s t → Stays t u → Stays s u
  stays_on s t u a b = record { notes = notes_on may (gate s) (gate t) (gate u) (noted s) (noted t) (noted u) a.notes b.notes; loan = b.loan ∙ a.loan; shape = b.shape ∙ a.shape }

  -- a step that stops is noted, and the gate was asked about each
  abbrev pub PartsStay : Type 0
  PartsStay = (s t : P) (e : Event) (x : AnswerTo e) → part s e x t → Stays s t × (is_stopped e x ≡ true → noted t ≡ true) × AsksGate may passed (gate s) (step_named e) (is_stopped e x) (steps s) (steps t)

  abbrev pub CallsStay : Type 0
  CallsStay = (b c : B) (s t : P) (k : BookCall) (x : AnswerOf D k) → book b s k x c t → Stays s t × IsLockedAnswer D k x (noted s) (noted t) × AsksGate may passed (gate s) (step_called k) (is_stopped_call D k x) (steps s) (steps t)

  -- the next step is at that turn, as one of that CPU's
  at_turn : (says : X → NextStep → Type 0) (g : X) (n turn : ℕ) (s : P) (e : EventName) → gate s ≡ g → (steps s).cpu ≡ n → (steps s).turn ≡ turn → says (gate s) (step_after (steps s) e) → says g (record { cpu = n; turn = turn; event = e })
  at_turn says g n turn s e same this now is = subst (λ (x : X). says x (record { cpu = n; turn = turn; event = e })) same (subst (λ (k : ℕ). says (gate s) (record { cpu = k; turn = turn; event = e })) this (subst (λ (k : ℕ). says (gate s) (record { cpu = (steps s).cpu; turn = k; event = e })) now is))

  -- what the gate said of it
  said_at : (g : X) (n turn : ℕ) (s : P) (e : EventName) (stopped : Bool) → gate s ≡ g → (steps s).cpu ≡ n → (steps s).turn ≡ turn → (stopped ≡ false → passed (gate s) (step_after (steps s) e)) → (stopped ≡ true → may (gate s) (step_after (steps s) e)) → Says (may g) (passed g) stopped (record { cpu = n; turn = turn; event = e })
  said_at g n turn s e true same this now go stop = at_turn may g n turn s e same this now (stop refl)
  said_at g n turn s e false same this now go stop = at_turn passed g n turn s e same this now (go refl)

  next_turn : (count : ℕ) (old new : StepCount) → old.turn ≡ turn_after count → CountsStep old new → new.turn ≡ turn_after (suc count)
  next_turn count old new now counted = omega (arith, now, counted.1)

  abbrev pub Goes : {A : Type 0} → CallPlan D A → B → P → B → P → A → Type 0
  Goes p b s c t a = CallPath (Step part tree count rounds) (BookStep book tree count rounds) p b s c t a

  either : (k : BookCall) (x : AnswerOf D k) (m n : Bool) → IsLockedAnswer D k x m n → IsCallOrStop D k x
  either k x m n (inl s) = inl s.0
  either k x m n (inr e) = inr e.0

  -- one that isn't a stop was an event of the book
  event_of : (k : BookCall) (x : AnswerOf D k) (m n : Bool) → is_stopped_call D k x ≡ false → IsLockedAnswer D k x m n → IsLockedCall D k x
  event_of k x m n goes_on (inl s) = absurd (not_both (is_stopped_call D k x) s.0.0 goes_on)
  event_of k x m n goes_on (inr e) = e.0

  noted_by : (k : BookCall) (x : AnswerOf D k) (m n : Bool) → IsLockedAnswer D k x m n → is_stopped_call D k x ≡ true → n ≡ true
  noted_by k x m n (inl s) stopped = s.1
  noted_by k x m n (inr e) stopped = absurd (not_both (is_stopped_call D k x) stopped (goes k x e.0))

  module _ (parts : PartsStay) (calls : CallsStay) where
    path_stays : {A : Type 0} (p : CallPlan D A) (b : B) (s : P) (c : B) (t : P) (a : A) → Goes p b s c t a → Stays s t
    path_stays (Done y) b s c t a d = subst (Stays s) d.1 (record { notes = (refl, λ n. inl n, λ n. n); loan = refl; shape = refl })
    path_stays (Part e f) b s c t a d = stays_on s d.0 t ((parts s d.0 e d.1 d.2.does).0) (path_stays (f d.1) b d.0 c t a d.3)
    path_stays (Call k f) b s c t a d = stays_on s d.1 t ((calls b d.0 s d.1 k d.2 d.3.does).0) (path_stays (f d.2) d.0 d.1 c t a d.4)

    -- with stops or without
    path_goes : {A : Type 0} (nodes : List Node) (p : CallPlan D A) (b : B) (s : P) (c : B) (t : P) (a : A) → tree s ≡ nodes → Goes p b s c t a → GoneThrough (Sound nodes) (IsCallOrStop D) p a
    path_goes nodes (Done y) b s c t a is d = d.2
    path_goes nodes (Part e f) b s c t a is d = (d.1, subst (λ ns. Sound ns e d.1) is d.2.sound, path_goes nodes (f d.1) b d.0 c t a (d.2.same_tree ∙ is) d.3)
    path_goes nodes (Call k f) b s c t a is d = (d.2, either k d.2 (noted s) (noted d.1) ((calls b d.0 s d.1 k d.2 d.3.does).1), path_goes nodes (f d.2) d.0 d.1 c t a (d.3.same_tree ∙ is) d.4)

    -- and the gate was asked about each step, at its turn
    path_asked : {A : Type 0} (nodes : List Node) (g : X) (n : ℕ) (told : List (AnsweredStep D)) (p : CallPlan D A) (b : B) (s : P) (c : B) (t : P) (a : A) (is : tree s ≡ nodes) (d : Goes p b s c t a) → gate s ≡ g → (steps s).cpu ≡ n → (steps s).turn ≡ turn_after (length told) → AreAsked (SaysSo (may g) (passed g)) n told
        → AreAsked (SaysSo (may g) (passed g)) n (answers_along (Sound nodes) (IsCallOrStop D) p a (path_goes nodes p b s c t a is d) told)
    unfolding path_goes
    path_asked nodes g n told (Done y) b s c t a is d same this now before = before
    path_asked nodes g n told (Part e f) b s c t a is d same this now before =
        let here = parts s d.0 e d.1 d.2.does in
        path_asked nodes g n (OfPart (record { event = e; answer = d.1 }) ∷ told) (f d.1) b d.0 c t a (d.2.same_tree ∙ is) d.3 (here.0.notes.0 ∙ same) (here.2.0.0 ∙ this) (next_turn (length told) (steps s) (steps d.0) now here.2.0) (said_at g n (turn_after (length told)) s (step_named e) (is_stopped e d.1) same this now here.2.1 here.2.2, before)
    path_asked nodes g n told (Call k f) b s c t a is d same this now before =
        let here = calls b d.0 s d.1 k d.2 d.3.does in
        path_asked nodes g n (OfBook k d.2 ∷ told) (f d.2) d.0 d.1 c t a (d.3.same_tree ∙ is) d.4 (here.0.notes.0 ∙ same) (here.2.0.0 ∙ this) (next_turn (length told) (steps s) (steps d.1) now here.2.0) (said_at g n (turn_after (length told)) s (step_called k) (is_stopped_call D k d.2) same this now here.2.1 here.2.2, before)

    module _ {A : Type 0} (ends : A → Bool) (nodes : List Node) where
      -- what didn't end as stopped came to no stop
      path_ends : (p : CallPlan D A) (last : Bool) (b : B) (s : P) (c : B) (t : P) (a : A) → StopsLast ends p last → tree s ≡ nodes → ends a ≡ false → Goes p b s c t a → GoneThrough (AnswersSoundly nodes) (IsLockedCall D) p a × (last ≡ false)
      path_ends (Done y) last b s c t a stops is none d = (d.2, sym stops ∙ ap ends d.2 ∙ none)
      path_ends (Part e f) true b s c t a stops is none d = absurd stops
      path_ends (Part e f) false b s c t a stops is none d =
          let rest = path_ends (f d.1) (is_stopped e d.1) b d.0 c t a (stops d.1) (d.2.same_tree ∙ is) none d.3 in
          ((d.1, (subst (λ ns. Sound ns e d.1) is d.2.sound, rest.1), rest.0), refl)
      path_ends (Call k f) true b s c t a stops is none d = absurd stops
      path_ends (Call k f) false b s c t a stops is none d =
          let rest = path_ends (f d.2) (is_stopped_call D k d.2) d.0 d.1 c t a (stops d.2) (d.3.same_tree ∙ is) none d.4 in
          ((d.2, event_of k d.2 (noted s) (noted d.1) rest.1 ((calls b d.0 s d.1 k d.2 d.3.does).1), rest.0), refl)

      -- and each of its steps was let come, at its turn
      path_let : (g : X) (n : ℕ) (told : List (AnsweredStep D)) (p : CallPlan D A) (last : Bool) (b : B) (s : P) (c : B) (t : P) (a : A) (stops : StopsLast ends p last) (is : tree s ≡ nodes) (none : ends a ≡ false) (d : Goes p b s c t a) → gate s ≡ g → (steps s).cpu ≡ n → (steps s).turn ≡ turn_after (length told) → AreLetCome (passed g) n told
          → AreLetCome (passed g) n (answers_along (AnswersSoundly nodes) (IsLockedCall D) p a (path_ends p last b s c t a stops is none d).0 told)
      unfolding path_ends
      path_let g n told (Done y) last b s c t a stops is none d same this now before = before
      path_let g n told (Part e f) true b s c t a stops is none d same this now before = absurd stops
      path_let g n told (Part e f) false b s c t a stops is none d same this now before =
          let here = parts s d.0 e d.1 d.2.does in
          let on = (path_ends (f d.1) (is_stopped e d.1) b d.0 c t a (stops d.1) (d.2.same_tree ∙ is) none d.3).1 in
          path_let g n (OfPart (record { event = e; answer = d.1 }) ∷ told) (f d.1) (is_stopped e d.1) b d.0 c t a (stops d.1) (d.2.same_tree ∙ is) none d.3 (here.0.notes.0 ∙ same) (here.2.0.0 ∙ this) (next_turn (length told) (steps s) (steps d.0) now here.2.0) (at_turn passed g n (turn_after (length told)) s (step_named e) same this now (here.2.1 on), before)
      path_let g n told (Call k f) true b s c t a stops is none d same this now before = absurd stops
      path_let g n told (Call k f) false b s c t a stops is none d same this now before =
          let here = calls b d.0 s d.1 k d.2 d.3.does in
          let on = (path_ends (f d.2) (is_stopped_call D k d.2) d.0 d.1 c t a (stops d.2) (d.3.same_tree ∙ is) none d.4).1 in
          path_let g n (OfBook k d.2 ∷ told) (f d.2) (is_stopped_call D k d.2) d.0 d.1 c t a (stops d.2) (d.3.same_tree ∙ is) none d.4 (here.0.notes.0 ∙ same) (here.2.0.0 ∙ this) (next_turn (length told) (steps s) (steps d.1) now here.2.0) (at_turn passed g n (turn_after (length told)) s (step_called k) same this now (here.2.1 on), before)

      -- what ended as stopped came to one that is noted
      path_notes : (p : CallPlan D A) (last : Bool) (b : B) (s : P) (c : B) (t : P) (a : A) → StopsLast ends p last → (last ≡ true → noted s ≡ true) → ends a ≡ true → Goes p b s c t a → noted t ≡ true
      path_notes (Done y) last b s c t a stops was stopped d = subst (λ (u : P). noted u ≡ true) d.1 (was (sym stops ∙ ap ends d.2 ∙ stopped))
      path_notes (Part e f) true b s c t a stops was stopped d = absurd stops
      path_notes (Part e f) false b s c t a stops was stopped d = path_notes (f d.1) (is_stopped e d.1) b d.0 c t a (stops d.1) ((parts s d.0 e d.1 d.2.does).1) stopped d.3
      path_notes (Call k f) true b s c t a stops was stopped d = absurd stops
      path_notes (Call k f) false b s c t a stops was stopped d = path_notes (f d.2) (is_stopped_call D k d.2) d.0 d.1 c t a (stops d.2) (noted_by k d.2 (noted s) (noted d.1) ((calls b d.0 s d.1 k d.2 d.3.does).1)) stopped d.4

    -- the list of steps was gone through, and each step was let come
    pub record EndsLet {A : Type 0} (nodes : List Node) (g : X) (n : ℕ) (p : CallPlan D A) (a : A) : Type 0 where
      pub gone : GoneThrough (AnswersSoundly nodes) (IsLockedCall D) p a
      pub let_come : AreLetCome (passed g) n (answers_along (AnswersSoundly nodes) (IsLockedCall D) p a gone [])

    -- what a line's list of steps came to, where no Stop was noted before
    pub record Went {A : Type 0} (p : CallPlan D (Result A (CallFault Tag))) (s t : P) (a : Result A (CallFault Tag)) : Type 0 where
      pub stays : Stays s t
      pub asked : EndsAsked (tree s) (may (gate s)) (passed (gate s)) (steps s).cpu p a
      pub ends : call_stopped a ≡ false → EndsLet (tree s) (gate s) (steps s).cpu p a
      pub stops : call_stopped a ≡ true → MayStop may (gate s)

    pub went_through : {A : Type 0} (p : CallPlan D (Result A (CallFault Tag))) (b : B) (s : P) (c : B) (t : P) (a : Result A (CallFault Tag)) → StopsLast call_stopped p false → noted s ≡ false → (steps s).turn ≡ 0 → CallRan part tree count rounds book p b s c t a → Went p s t a
    went_through p b s c t a last none first ran =
        let stays = path_stays p b s c t a ran.path in record {
          stays = stays;
          asked = record {
            gone = path_goes (tree s) p b s c t a refl ran.path;
            asked = path_asked (tree s) (gate s) (steps s).cpu [] p b s c t a refl ran.path refl refl first tt;
          };
          ends = λ e. record {
            gone = (path_ends call_stopped (tree s) p false b s c t a last refl e ran.path).0;
            let_come = path_let call_stopped (tree s) (gate s) (steps s).cpu [] p false b s c t a last refl e ran.path refl refl first tt;
          };
          stops = λ e. elim (stays.notes.1 (path_notes call_stopped (tree s) p false b s c t a last (λ f. absurd (not_both false f refl)) e ran.path)) [
            | inl was ↦ absurd (not_both (noted s) was none)
            | inr m ↦ m
          ];
        }
