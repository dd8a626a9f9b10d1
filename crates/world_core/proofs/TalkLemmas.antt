-- What clients say and hear keeps a world.
use Rattle.std.proofs.Common.{◌≡◌, ◌≢◌, ℕ, ◌+◌, ◌≤◌, Bool, true, false, cond, List, [], ◌∷◌, ◌++◌, set, Option, Some, None, Ok, refl, sym, subst, ap, ◌∙◌, inl, inr, arith, eq-eqb}
use Rattle.std.specs.Prelude.{slice_get, nat_eq, if◌then◌else◌}
use Rattle.std.specs.List.{IsDistinct}
use Rattle.std.proofs.lemmas.Bool.{eqb-true, ne_eqb}
use Rattle.deed_core.proofs.LawProofs.{written, map_set_same}
use Rattle.stock.specs.Spaces.{SpaceState}
use Rattle.lease_terms.specs.Requests.{RequestId}
use Rattle.lease_terms.specs.declared.protocols.Protocol.{Protocol}
use Rattle.lease_proto.specs.declared.lines.Line.{Line}
use Rattle.lease_proto.specs.declared.lines.Line.TheVariants as lines
use Rattle.lease_proto.specs.declared.lines.Op.{Op}
use Rattle.lease_proto.specs.declared.replies.Reply.{Reply}
use Rattle.lease_proto.specs.declared.replies.Reply.TheVariants as replies
use Rattle.lease_proto.specs.Requests.{client_of}
use Rattle.lease_book.specs.Entry.{Entry, Settled, Hello, Swept, Grant, Return, Refuse}
use Rattle.lease_client.specs.ClientState.{ClientState, IsSoundClient, line_at, AreRequests, AreOwn}
use Rattle.lease_client.specs.Replies.{accepts, after_accept, after_reply}
use Rattle.lease_client.specs.Calls.{IsRestarted, IsSent, first_of, next_id}
use Rattle.lease_client.specs.Runs.{Move, Restart, Send, Get, TakesMove}
use Rattle.lease_client.proofs.LawProofs.{moves_in_turn, sent_stays_sent, own_requests}
use Rattle.lease_history.specs.Known.{IsKnown}
use Rattle.lease_history.proofs.LawProofs.{moves_keep_known, replies_keep_known}
use Rattle.world_core.specs.WorldState.{WorldState, arena_name, Each}
use Rattle.world_core.specs.Moves.{ClientSays, ClientHears, sent_again}
use Rattle.world_core.specs.IsWorld.{IsWorld, MayBeSaid, IsDue, IsOfLines}
use Rattle.world_core.specs.declared.tasks.Task.{Task}
use Rattle.world_core.proofs.Members.{each_written, each_pushed, among_more, one_index}

-- Lines that wait for their replies.

found_first : (id : RequestId) (op : Op) (ls : List Line) → line_at id.number (lines.Request id op ∷ ls) ≡ Some (lines.Request id op)
found_first id op ls = λ j. cond (eq-eqb id.number id.number refl j) (Some (lines.Request id op)) (line_at id.number ls)

-- the next request is found once it waits: no other has its number
found_next : (c i from next : ℕ) (ls : List Line) (id : RequestId) (op : Op) → id.number ≡ next → AreRequests c i from next ls
    → line_at id.number (ls ++ lines.Request id op ∷ []) ≡ Some (lines.Request id op)
found_next c i from next [] id op number are = found_first id op []
found_next c i from next (lines.Hello h ∷ ls) id op number are = absurd are
found_next c i from next (lines.Request own asks ∷ ls) id op number are =
    let differs : nat_eq id.number own.number ≡ false = ne_eqb id.number own.number (λ e. omega (arith, number, are.3, e)) in
    (λ j. cond (differs j) (Some (lines.Request own asks)) (line_at id.number (ls ++ lines.Request id op ∷ []))) ∙ found_next c i (own.number + 1) next ls id op number are.4

-- what is found by a number is a request of the client with this number
request_found : (c i from next n : ℕ) (ls : List Line) (line : Line) → AreRequests c i from next ls → line_at n ls ≡ Some line
    → (id : RequestId) × (op : Op) × (line ≡ lines.Request id op) × (id.client ≡ c) × (n ≡ id.number)
request_found c i from next n [] line are at = absurd (let e : None ≡ Some line = at in cc)
request_found c i from next n (lines.Hello h ∷ ls) line are at = absurd are
request_found c i from next n (lines.Request own asks ∷ ls) line are at = by (nat_eq n own.number) refl at (request_found c i (own.number + 1) next n ls line are.4)
  where
    Found : Type 0
    Found = (id : RequestId) × (op : Op) × (line ≡ lines.Request id op) × (id.client ≡ c) × (n ≡ id.number)

    by : (b : Bool) → nat_eq n own.number ≡ b → cond b (Some (lines.Request own asks)) (line_at n ls) ≡ Some line → (line_at n ls ≡ Some line → Found) → Found
    by true is here rest = (let e : lines.Request own asks ≡ line = cc in (own, asks, sym e, are.0, eqb-true n own.number is))
    by false is there rest = rest there

own_found : (c i : ℕ) (p : Protocol) (next : ℕ) (o : Bool) (n : ℕ) (ls : List Line) (line : Line) → AreOwn c i p next o ls → line_at n ls ≡ Some line
    → (id : RequestId) × (op : Op) × (line ≡ lines.Request id op) × (id.client ≡ c) × (n ≡ id.number)
own_found c i p next o n [] line own at = absurd (let e : None ≡ Some line = at in cc)
own_found c i p next o n (lines.Hello h ∷ ls) line own at = absurd (let e : None ≡ Some line = sym (ap (line_at n) own.5) ∙ at in cc)
own_found c i p next o n (lines.Request id op ∷ ls) line own at = request_found c i 1 next n (lines.Request id op ∷ ls) line own.1 at

-- the line is the client's own, which said it
abbrev IsOwnLine : ClientState → Line → Type 0
IsOwnLine c line = (client_of line ≡ c.id) × MayBeSaid c line

first_said : (c : ClientState) (ls : List Line) (line : Line) → c.outstanding ≡ ls → AreOwn c.id c.incarnation c.protocol c.next c.is_open ls → first_of ls ≡ Some line → IsOwnLine c line
first_said c [] line same own at = absurd (let e : None ≡ Some line = at in cc)
first_said c (lines.Hello h ∷ ls) line same own at =
    let is : lines.Hello h ≡ line = cc in
    subst (IsOwnLine c) is (own.0, λ mine. omega (arith, own.1))
first_said c (lines.Request id op ∷ ls) line same own at =
    let is : lines.Request id op ≡ line = cc in
    subst (IsOwnLine c) is (own.1.0, λ mine. inr (ap (line_at id.number) same ∙ found_first id op ls))

-- so is what it sends again
again_said : (c : ClientState) (number : Option ℕ) (line : Line) → IsSoundClient c → sent_again number c ≡ Some line → IsOwnLine c line
again_said c None line sound at = first_said c c.outstanding line refl sound.outstanding at
again_said c (Some n) line sound at =
    let found = own_found c.id c.incarnation c.protocol c.next c.is_open n c.outstanding line sound.outstanding at in
    let waits : line_at found.0.number c.outstanding ≡ Some (lines.Request found.0 found.1) = ap (λ (m : ℕ). line_at m c.outstanding) (sym found.4) ∙ at ∙ ap Some found.2 in
    subst (IsOwnLine c) (sym found.2) (found.3, λ mine. inr waits)

-- What clients do.

-- what a client is after a move
record Goes (names : ℕ → List ℕ) (entries : List Entry) (c next : ClientState) : Type 0 where
  pub id : next.id ≡ c.id
  pub known : IsKnown names entries next
  pub said : (line : Line) → MayBeSaid c line → MayBeSaid next line

-- what it said it may still have said
still_said : (m : Move) (c next : ClientState) → IsSoundClient c → TakesMove m c next → next.id ≡ c.id → c.incarnation ≤ next.incarnation
    → (line : Line) → MayBeSaid c line → MayBeSaid next line
still_said m c next sound takes id more (lines.Hello h) said = λ own. (let le = said (own ∙ id) in omega arith)
still_said m c next sound takes id more (lines.Request r op) said = λ own. sent_stays_sent r op m c next sound takes (said (own ∙ id))

accepted_keeps : (reply : Reply) (c : ClientState) → ((after_accept reply c).id ≡ c.id) × ((after_accept reply c).incarnation ≡ c.incarnation)
accepted_keeps (replies.Welcome w) c = (refl, refl)
accepted_keeps (replies.Granted g) c = (refl, refl)
accepted_keeps (replies.Released id) c = (refl, refl)
accepted_keeps (replies.Refused r) c = (refl, refl)
accepted_keeps (replies.Old o) c = (refl, refl)
accepted_keeps (replies.Stale t) c = (refl, refl)
accepted_keeps (replies.Gap t) c = (refl, refl)
accepted_keeps (replies.Again a) c = (refl, refl)
accepted_keeps (replies.Error e) c = (refl, refl)

got_keeps : (reply : Reply) (c : ClientState) → ((after_reply reply c).id ≡ c.id) × ((after_reply reply c).incarnation ≡ c.incarnation)
got_keeps reply c = by (accepts reply c)
  where
    by : (b : Bool) → ((if b then after_accept reply c else c).id ≡ c.id) × ((if b then after_accept reply c else c).incarnation ≡ c.incarnation)
    by true = accepted_keeps reply c
    by false = (refl, refl)

due_more : (stock : List SpaceState) (names : List (List ℕ)) (requests : List Line) (line : Line) (e : Entry)
    → IsDue stock names requests e → IsDue stock names (requests ++ line ∷ []) e
due_more stock names requests line (Settled id (Grant t terms)) due = record {
  lease = due.lease;
  line = among_more requests _ line due.line;
  within = due.within;
  home = due.home;
  quantum = due.quantum;
  request = due.request;
}
due_more stock names requests line (Settled id (Return a b)) due = tt
due_more stock names requests line (Settled id (Refuse why)) due = tt
due_more stock names requests line (Hello c i p) due = tt
due_more stock names requests line (Swept c i a b) due = tt

lines_more : (requests : List Line) (line : Line) (o : Option Task) → IsOfLines requests o → IsOfLines (requests ++ line ∷ []) o
lines_more requests line None of = tt
lines_more requests line (Some task) of = among_more requests _ line of

not_own : (c : ClientState) (line : Line) → client_of line ≢ c.id → MayBeSaid c line
not_own c (lines.Hello h) other = λ own. absurd (other own)
not_own c (lines.Request id op) other = λ own. absurd (other own)

-- a client goes on and says its own line
says : (w : WorldState) (index : ℕ) (c next : ClientState) (line : Line) → IsWorld w → slice_get w.clients index ≡ Some c
    → Goes (arena_name w.names) w.entries c next → client_of line ≡ c.id → MayBeSaid next line
    → IsWorld (record w { clients = set w.clients index next; requests = w.requests ++ line ∷ [] })
says w index c next line is at goes own may = record {
  parts = is.parts;
  named = is.named;
  few = is.few;
  names = is.names;
  book = is.book;
  due = λ k e there. due_more w.stock w.names w.requests line e (is.due k e there);
  ids = subst (IsDistinct nat_eq) (sym (map_set_same (λ (x : ClientState). x.id) w.clients index c next at goes.id)) is.ids;
  known = each_written (IsKnown (arena_name w.names) w.entries) w.clients index next is.known goes.known;
  said = λ k x there. elim (written w.clients index k next x there) [
    | inl same ↦ subst (λ y. Each (MayBeSaid y) (w.requests ++ line ∷ [])) (sym same.1)
        (each_pushed (MayBeSaid next) w.requests line (λ j l here. goes.said l (is.said index c at j l here)) may)
    | inr other ↦ each_pushed (MayBeSaid x) w.requests line (is.said k x other.1)
        (not_own x line (λ e. other.0 (one_index (λ (y : ClientState). y.id) w.clients k index x c is.ids other.1 at (sym e ∙ own))))
  ];
  cpus = is.cpus;
  tasks = λ k o there. lines_more w.requests line o (is.tasks k o there);
  own = is.own;
  shaped = is.shaped;
  told = is.told;
}

pub restart_keeps : (index i : ℕ) (p : Protocol) (w v : WorldState) → IsWorld w → ClientSays index (λ x y line. IsRestarted i p x y (Ok line)) w v → IsWorld v
restart_keeps index i p w v is m =
    let c = m.client in
    let may = m.may.0 in
    let known = is.known index c m.at in
    let above = (moves_in_turn.restart i c may).0 in
    let goes : Goes (arena_name w.names) w.entries c m.next = rw m.may.2 (record {
      id = refl;
      known = moves_keep_known.restart (arena_name w.names) w.entries c i p is.book.orderly known may;
      said = still_said (Restart i p) c _ known.sound (may, refl) refl (omega arith);
    }) in
    let own : client_of m.line ≡ c.id = ap client_of m.may.1 in
    let said : MayBeSaid m.next m.line = rw (m.may.1, m.may.2) (λ same. omega arith) in
    subst IsWorld (sym m.after) (says w index c m.next m.line is m.at goes own said)

pub send_keeps : (index : ℕ) (op : Op) (w v : WorldState) → IsWorld w → ClientSays index (λ x y line. IsSent op x y (Ok line)) w v → IsWorld v
send_keeps index op w v is m =
    let c = m.client in
    let may = m.may.0 in
    let known = is.known index c m.at in
    let goes : Goes (arena_name w.names) w.entries c m.next = rw m.may.2 (record {
      id = refl;
      known = moves_keep_known.send (arena_name w.names) w.entries c op known may;
      said = still_said (Send op) c _ known.sound (may, refl) refl (omega arith);
    }) in
    let own : client_of m.line ≡ c.id = ap client_of m.may.1 in
    let waits = found_next c.id c.incarnation 1 c.next c.outstanding (next_id c) op refl (own_requests c.id c.incarnation c.protocol c.next c.is_open c.outstanding (moves_in_turn.send op c known.sound may).0 known.sound.outstanding) in
    let said : MayBeSaid m.next m.line = rw (m.may.1, m.may.2) (λ same. inr waits) in
    subst IsWorld (sym m.after) (says w index c m.next m.line is m.at goes own said)

pub resend_keeps : (index : ℕ) (number : Option ℕ) (w v : WorldState) → IsWorld w → ClientSays index (λ x y line. (sent_again number x ≡ Some line) × (y ≡ x)) w v → IsWorld v
resend_keeps index number w v is m =
    let c = m.client in
    let known = is.known index c m.at in
    let own = again_said c number m.line known.sound m.may.0 in
    let goes : Goes (arena_name w.names) w.entries c m.next = rw m.may.1 (record { id = refl; known = known; said = λ line said. said }) in
    let said : MayBeSaid m.next m.line = rw m.may.1 own.1 in
    subst IsWorld (sym m.after) (says w index c m.next m.line is m.at goes own.0 said)

pub hear_keeps : (index which : ℕ) (w v : WorldState) → IsWorld w → ClientHears index which w v → IsWorld v
hear_keeps index which w v is m =
    let c = m.client in
    let known = is.known index c m.at in
    let keeps = got_keeps m.reply c in
    let same = keeps.1 in
    let next = after_reply m.reply c in
    let goes : Goes (arena_name w.names) w.entries c next = record {
      id = keeps.0;
      known = replies_keep_known (arena_name w.names) w.entries c m.reply known (is.told which m.reply m.sent);
      said = still_said (Get m.reply) c next known.sound refl keeps.0 (omega arith);
    } in
    subst IsWorld (sym m.after) (record {
      parts = is.parts;
      named = is.named;
      few = is.few;
      names = is.names;
      book = is.book;
      due = is.due;
      ids = subst (IsDistinct nat_eq) (sym (map_set_same (λ (x : ClientState). x.id) w.clients index c next m.at goes.id)) is.ids;
      known = each_written (IsKnown (arena_name w.names) w.entries) w.clients index next is.known goes.known;
      said = each_written (λ x. Each (MayBeSaid x) w.requests) w.clients index next is.said (λ j l here. goes.said l (is.said index c m.at j l here));
      cpus = is.cpus;
      tasks = is.tasks;
      own = is.own;
      shaped = is.shaped;
      told = is.told;
    })
