-- The segments that a line's list of steps moves: what comes into the hand goes out of it, or is
-- left in it.
use Rattle.std.specs.Prelude.{◌≡◌, List, [], ◌∷◌, Option, Some, None, Result, Ok, Err}
use Rattle.deed_core.specs.Tag.{Tag}
use Rattle.lease_terms.specs.Requests.{RequestId}
use Rattle.arena_tree.specs.Events.{Event, AnswerTo, BeginsWith, hand_after, hand_left}
use Rattle.arena_tree.specs.Events.{hand_of_answer, Carve, Free, AddCarve, SlabTake, SlabPut}
use Rattle.arena_tree.specs.Events.{SlabAdd, SlabReap, SwapFull, SwapEmpty, SwapFresh, DepotReap}
use Rattle.arena_tree.specs.Events.{Pop, Push, Change}
use Rattle.arena_tree.specs.declared.part_faults.Stopped.{Stopped}
use Rattle.lease_book.specs.Receipts.{ReceiptState}
use Rattle.lease_call.specs.Answered.{AnsweredStep, OfPart, OfBook}
use Rattle.lease_call.specs.Calls.{BookCall, AnswerOf, Look, Settle, Refuse, Release, Hello, Sweep}
use Rattle.lease_call.specs.CallPlans.{CallPlan, Done, Part, Call}
use Rattle.lease_call.specs.Hands.{left_in_hand}
use Rattle.lease_call.specs.declared.call_faults.CallFault.{CallFault}
use Rattle.lease_call.specs.declared.call_faults.NotReleased.{NotReleased}
use Rattle.lease_call.specs.declared.call_faults.NotSettled.{NotSettled}
use Rattle.lease_call.specs.declared.call_faults.NotSettled.TheVariants as settling

-- the segment that comes with a lease that ended
abbrev pub released : {D : Type 0} → Result (ReceiptState × Tag) (NotReleased D) → Option Tag
released (Ok r) = Some r.1
released (Err e) = None

abbrev pub swept : Result (Option (RequestId × Tag)) Stopped → Option Tag
swept (Ok None) = None
swept (Ok (Some r)) = Some r.1
swept (Err e) = None

-- the segment that isn't leased
abbrev pub not_leased : {D : Type 0} → Result ReceiptState (NotSettled Tag D) → Option Tag
not_leased (Ok r) = None
not_leased (Err (settling.NotLeased n)) = Some n.segment
not_leased (Err (settling.Stopped t)) = Some t

-- the hand before a call of the book: empty, or with what is to be leased
abbrev pub CallBeginsWith : BookCall → Option Tag → Type 0
CallBeginsWith (Look id) hand = hand ≡ None
CallBeginsWith (Settle id given terms) hand = hand ≡ Some given
CallBeginsWith (Refuse id why) hand = hand ≡ None
CallBeginsWith (Release id arena base) hand = hand ≡ None
CallBeginsWith (Hello client incarnation asked) hand = hand ≡ None
CallBeginsWith (Sweep client) hand = hand ≡ None

-- and after it
abbrev pub hand_after_call : (D : Type 0) → (k : BookCall) → AnswerOf D k → Option Tag
hand_after_call D (Look id) a = None
hand_after_call D (Settle id given terms) a = not_leased a
hand_after_call D (Refuse id why) a = None
hand_after_call D (Release id arena base) a = released a
hand_after_call D (Hello client incarnation asked) a = None
hand_after_call D (Sweep client) a = swept a

-- each step is asked with the hand that it needs, and at the end the hand is as said
abbrev pub CallHandles : {D A : Type 0} → (A → Option Tag) → CallPlan D A → Option Tag → Type 0
CallHandles left (Done a) hand = hand ≡ left a
CallHandles left (Part e f) hand = BeginsWith e hand
    × ((x : AnswerTo e) → CallHandles left (f x) (hand_after e x hand))
CallHandles {D = D} left (Call k f) hand = CallBeginsWith k hand
    × ((x : AnswerOf D k) → CallHandles left (f x) (hand_after_call D k x))

-- what was given, where it was taken
abbrev pub if_taken : {X E : Type 0} → Tag → Result X E → Option Tag
if_taken given (Ok x) = Some given
if_taken given (Err e) = None

-- the segment that an event puts into a part
abbrev pub put_in : (e : Event) → AnswerTo e → Option Tag
put_in (Carve arena request) a = None
put_in (Free given) a = if_taken given a
put_in (AddCarve child given size) a = if_taken given a
put_in (SlabTake arena cache) a = None
put_in (SlabPut given) a = if_taken given a
put_in (SlabAdd arena cache given) a = if_taken given a
put_in (SlabReap arena cache) a = None
put_in (SwapFull arena cache) a = None
put_in (SwapEmpty arena cache) a = None
put_in (SwapFresh arena cache) a = None
put_in (DepotReap arena cache) a = None
put_in (Pop arena cache) a = None
put_in (Push arena cache given) a = if_taken given a
put_in (Change arena cache size) a = None

-- the segment that it takes out of one
abbrev pub taken_out : (e : Event) → AnswerTo e → Option Tag
taken_out (Carve arena request) a = hand_left (λ _. None) a
taken_out (Free given) a = hand_of_answer (λ _. None) a
taken_out (AddCarve child given size) a = hand_left (λ _. None) a
taken_out (SlabTake arena cache) a = hand_of_answer (λ _. None) a
taken_out (SlabPut given) a = None
taken_out (SlabAdd arena cache given) a = hand_left (λ _. None) a
taken_out (SlabReap arena cache) a = hand_of_answer (λ _. None) a
taken_out (SwapFull arena cache) a = None
taken_out (SwapEmpty arena cache) a = None
taken_out (SwapFresh arena cache) a = None
taken_out (DepotReap arena cache) a = hand_of_answer (λ _. None) a
taken_out (Pop arena cache) a = hand_of_answer (λ _. None) a
taken_out (Push arena cache given) a = None
taken_out (Change arena cache size) a = None

-- the segment that a call of the book puts into it: what is leased
abbrev pub put_in_book : (D : Type 0) → (k : BookCall) → AnswerOf D k → Option Tag
put_in_book D (Look id) a = None
put_in_book D (Settle id given terms) a = if_taken given a
put_in_book D (Refuse id why) a = None
put_in_book D (Release id arena base) a = None
put_in_book D (Hello client incarnation asked) a = None
put_in_book D (Sweep client) a = None

-- the segment that it takes out: what was leased
abbrev pub taken_out_of_book : (D : Type 0) → (k : BookCall) → AnswerOf D k → Option Tag
taken_out_of_book D (Look id) a = None
taken_out_of_book D (Settle id given terms) a = None
taken_out_of_book D (Refuse id why) a = None
taken_out_of_book D (Release id arena base) a = released a
taken_out_of_book D (Hello client incarnation asked) a = None
taken_out_of_book D (Sweep client) a = swept a

-- a segment that isn't leased is the one that was given
abbrev pub IsHandedBack : {D : Type 0} → Tag → Result ReceiptState (NotSettled Tag D) → Type 0
IsHandedBack given (Ok r) = Unit {0}
IsHandedBack given (Err (settling.NotLeased n)) = n.segment ≡ given
IsHandedBack given (Err (settling.Stopped t)) = t ≡ given

abbrev pub HandsBack : (D : Type 0) → (k : BookCall) → AnswerOf D k → Type 0
HandsBack D (Look id) a = Unit {0}
HandsBack D (Settle id given terms) a = IsHandedBack given a
HandsBack D (Refuse id why) a = Unit {0}
HandsBack D (Release id arena base) a = Unit {0}
HandsBack D (Hello client incarnation asked) a = Unit {0}
HandsBack D (Sweep client) a = Unit {0}

-- the segment, if there is one, and then these
abbrev pub put_first : Option Tag → List Tag → List Tag
put_first None ts = ts
put_first (Some t) ts = t ∷ ts

-- what came into the hand, which held this at first, and what went out of it, each the last first,
-- by all that was answered
abbrev pub came_in : {D : Type 0} → Option Tag → List (AnsweredStep D) → List Tag
came_in hand [] = put_first hand []
came_in hand (OfPart a ∷ told) = put_first (taken_out a.event a.answer) (came_in hand told)
came_in {D = D} hand (OfBook k a ∷ told) =
    put_first (taken_out_of_book D k a) (came_in hand told)

abbrev pub gone_out : {D : Type 0} → List (AnsweredStep D) → List Tag
gone_out [] = []
gone_out (OfPart a ∷ told) = put_first (put_in a.event a.answer) (gone_out told)
gone_out {D = D} (OfBook k a ∷ told) = put_first (put_in_book D k a) (gone_out told)

-- all that came has gone, but for what is left in the hand
abbrev pub IsAllKept : {D : Type 0} → (hand left : Option Tag) → List (AnsweredStep D) → Type 0
IsAllKept hand left told = came_in hand told ≡ put_first left (gone_out told)

-- what a line leaves in the hand
abbrev pub call_left : {A : Type 0} → Result A (CallFault Tag) → Option Tag
call_left (Ok x) = None
call_left (Err e) = left_in_hand e
