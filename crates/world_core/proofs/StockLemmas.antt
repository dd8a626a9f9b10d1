-- What calls of the stock make of a world.
use Rattle.std.proofs.Common.{◌≡◌, ℕ, List, set, Option, Some, sym, subst, ◌∙◌, arith}
use Rattle.std.specs.Prelude.{slice_get}
use Rattle.std.specs.Option.{option_to_list}
use Rattle.std.proofs.lemmas.Option.{slice_get_within}
use Rattle.deed_core.specs.Tag.{Tag}
use Rattle.deed_core.proofs.LawProofs.{slice_get_some}
use Rattle.stock.specs.Spaces.{SpaceState, plans_of}
use Rattle.stock.specs.Steps.{HasQuantum}
use Rattle.stock.proofs.LawProofs.{plans_stay}
use Rattle.stock_audit.specs.Keeping.{IsStep}
use Rattle.lease_proto.specs.declared.lines.Line.{Line}
use Rattle.lease_book.specs.Entry.{Entry, Settled, Hello, Swept, Grant, Return, Refuse}
use Rattle.lease_book.specs.BookState.{leased_segments}
use Rattle.world_core.specs.WorldState.{WorldState, in_hands}
use Rattle.world_core.specs.Moves.{HandMoves, PartMoves}
use Rattle.world_core.specs.IsWorld.{IsWorld, IsDue}
use Rattle.world_core.proofs.CpuLemmas.{hand_changed}
use Rattle.world_core.proofs.HandLemmas.{hand_moved, part_moved}

-- an arena keeps its quantum
quantum_stays : (old new : List SpaceState) → plans_of new ≡ plans_of old → (k q : ℕ) → HasQuantum old k q → HasQuantum new k q
quantum_stays old new fixed k q has s at =
    let stay = plans_stay old new fixed in
    let within = slice_get_within new k s at in
    let before = slice_get_some old k (let e = stay.0 in omega arith) in
    (stay.1 k before.0 s before.1 at).quantum ∙ has before.0 before.1

-- so what was granted is still what was asked for
pub due_stays : (old new : List SpaceState) (names : List (List ℕ)) (requests : List Line) (e : Entry) → plans_of new ≡ plans_of old → IsDue old names requests e → IsDue new names requests e
due_stays old new names requests (Settled id (Grant t terms)) fixed due = record {
  lease = due.lease;
  line = due.line;
  within = due.within;
  home = due.home;
  quantum = quantum_stays old new fixed t.arena terms.quantum due.quantum;
  request = due.request;
}
due_stays old new names requests (Settled id (Return a b)) fixed due = tt
due_stays old new names requests (Settled id (Refuse why)) fixed due = tt
due_stays old new names requests (Hello c i p) fixed due = tt
due_stays old new names requests (Swept c i a b) fixed due = tt

-- whatever a part does with no hand
pub part_move_keeps : (Does : List SpaceState → List SpaceState → Type 0) (w v : WorldState) → IsWorld w → PartMoves Does w v → IsWorld v
part_move_keeps Does w v is m =
    let stay = plans_stay w.stock m.stock m.step.fixed in
    subst IsWorld (sym m.after) (record {
      parts = part_moved w.stock m.stock (in_hands w.hands) (leased_segments w.book) w.caches m.step is.parts;
      named = is.named ∙ sym stay.0;
      few = is.few;
      names = is.names;
      book = is.book;
      due = λ k e at. due_stays w.stock m.stock w.names w.requests e m.step.fixed (is.due k e at);
      ids = is.ids;
      known = is.known;
      said = is.said;
      cpus = is.cpus;
      tasks = is.tasks;
      own = is.own;
      shaped = is.shaped;
      told = is.told;
    })

-- whatever a part does with a hand
pub hand_move_keeps : (cpu : ℕ) (given answered : Option Tag) (Does : List SpaceState → List SpaceState → Type 0) (w v : WorldState) → IsWorld w → HandMoves cpu given answered Does w v → IsWorld v
hand_move_keeps cpu given answered Does w v is m =
    let stay = plans_stay w.stock m.stock m.step.fixed in
    subst IsWorld (sym m.after) (record {
      parts = hand_moved w.stock w.hands (leased_segments w.book) w.caches cpu given answered m.holds m.stock m.step is.parts;
      named = is.named ∙ sym stay.0;
      few = is.few;
      names = is.names;
      book = is.book;
      due = λ k e at. due_stays w.stock m.stock w.names w.requests e m.step.fixed (is.due k e at);
      ids = is.ids;
      known = is.known;
      said = is.said;
      cpus = hand_changed w.hands w.tasks w.failed w.owners is.cpus cpu answered;
      tasks = is.tasks;
      own = is.own;
      shaped = is.shaped;
      told = is.told;
    })

-- a part that did so with a hand
pub hand_moves : (w : WorldState) (cpu : ℕ) (given answered : Option Tag) (Does : List SpaceState → List SpaceState → Type 0) (stock : List SpaceState) (hands : List (Option Tag))
    → slice_get w.hands cpu ≡ Some given → Does w.stock stock → IsStep w.stock (option_to_list given) stock (option_to_list answered) → hands ≡ set w.hands cpu answered
    → HandMoves cpu given answered Does w (record w { stock = stock; hands = hands })
hand_moves w cpu given answered Does stock hands holds does step moved = record {
  stock = stock;
  holds = holds;
  does = does;
  step = step;
  after = λ j. record w { stock = stock; hands = moved j };
}
