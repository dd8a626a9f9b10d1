-- Lemmas on a serving that ends, or ends early.
use Rattle.std.proofs.Common.{◌≡◌, ◌⊎◌, ◌≤◌, ◌+◌, ◌-◌, ◌^◌, ℕ, min, length, take, Bool, true, false, List, [], ◌++◌, refl, sym, ◌∙◌, ap, subst, arith, inl, inr, Ok, Err, Option, Result, OnOk, OnErr, IfErr, IsErrOf}
use Rattle.std.proofs.lemmas.List.{append-nil, take-take}
use Rattle.std.specs.Io.KnownBytes.{Consumes, IsAtEnd}
use Rattle.std.proofs.KnownBytes.{Consumes-kept, Consumes-trans}
use Rattle.lease_proto.specs.declared.limits.TheConstants.{LINE_ROOM}
use Rattle.lease_proto.specs.Frames.{Frame, rest_in, frames_of_rest}
use Rattle.lease_server.specs.declared.intakes.TheConstants.{MOST_READS}
use Rattle.lease_server.specs.Watching.{Streams}
use Rattle.lease_server.specs.Intakes.{AtHand, IntakeState, hand_in, frames_at, begun_at, frames_on, frames_to_end, StopsReading}
use Rattle.lease_server.specs.Serving.{SameFront, Writes, WritesBefore, Stops, ServesAll, ServeFails, TellsAll, TellFails}
use Rattle.lease_server.specs.declared.faults.ServeFault.{ServeFault}
use Rattle.lease_server.specs.declared.faults.ServeFault.TheVariants.{Read, Write, Memory, Turns}
use Rattle.lease_server.proofs.ServingLemmas.{Stops-after, Stops-more, WritesBefore-after, Writes-append, of_all, of_front, frames_of_rest-same}
use Rattle.lease_server.proofs.IntakeLemmas.{frames_to_end-append}

-- where nothing more came, the line begun is as it was
pub last_front : (held after : AtHand) (piece : List ℕ) → after ≡ hand_in held.line piece → piece ≡ [] → SameFront after.line held.line
last_front held after piece is none =
    ap (λ h. take LINE_ROOM h.line) (is ∙ ap (hand_in held.line) none) ∙ take-take LINE_ROOM LINE_ROOM held.line (omega arith)

module _ {S : Type 0} (may_answer : S → List ℕ → List ℕ → S → Type 0) where
  -- the lines at hand, of which serving ended early
  pub held_fails : (from : IntakeState) (old new : Streams) (first mid last : S) (here : AtHand) (input : List ℕ) (done : List Frame)
      (between : Option (List ℕ)) (before : Bool) (fault : ServeFault)
      → Consumes old.unread new.unread input → frames_on from.hand input ≡ done ++ frames_at here
      → Writes may_answer first done old.written between mid → new.reader_failed ≡ false → before ≡ false
      → IsErrOf {T = Unit {0}} (Err fault) Write ⊎ IsErrOf {T = Unit {0}} (Err fault) Memory
      → Stops may_answer mid (frames_at here) between new.written
      → (IsErrOf {T = Unit {0}} (Err fault) Memory → WritesBefore may_answer mid (frames_at here) between new.written last × (new.writer_failed ≡ before))
      → (IsErrOf {T = Unit {0}} (Err fault) Write → new.writer_failed ≡ true)
      → ServeFails may_answer from old new first last fault
  held_fails from old new first mid last here input done between before Write consumed split writes reads works is stops memory failed = (
    of_front old.unread new.unread input (λ all. Stops may_answer first (frames_to_end from.hand all) old.written new.written) consumed
        (λ left. subst (λ f. Stops may_answer first f old.written new.written) (sym (frames_to_end-append from.hand input left))
        (Stops-more may_answer (frames_on from.hand input) _ first old.written new.written
        (subst (λ f. Stops may_answer first f old.written new.written) (sym split)
        (Stops-after may_answer done (frames_at here) first mid old.written between new.written writes stops)))),
    reads,
    failed refl,
  )
  held_fails from old new first mid last here input done between before Memory consumed split writes reads works is stops memory failed =
      let told = memory refl in (
        input,
        consumed,
        subst (λ f. WritesBefore may_answer first f old.written new.written last) (sym split)
            (WritesBefore-after may_answer done (frames_at here) first mid last old.written between new.written writes told.0),
        reads,
        told.1 ∙ works,
      )
  held_fails from old new first mid last here input done between before Read consumed split writes reads works (inl is) stops memory failed = absurd (cc)
  held_fails from old new first mid last here input done between before Read consumed split writes reads works (inr is) stops memory failed = absurd (cc)
  held_fails from old new first mid last here input done between before Turns consumed split writes reads works (inl is) stops memory failed = absurd (cc)
  held_fails from old new first mid last here input done between before Turns consumed split writes reads works (inr is) stops memory failed = absurd (cc)

  -- the next read, which ended the serving
  pub read_fails : (from held after : IntakeState) (old new : Streams) (first last : S) (input : List ℕ) (unread : Option (List ℕ)) (before : Bool) (reads : ℕ) (fault : ServeFault)
      → Consumes old.unread unread input → Writes may_answer first (frames_on from.hand input) old.written new.written last
      → StopsReading held unread new.unread before new.reader_failed fault → before ≡ false → new.writer_failed ≡ false
      → held.ended ≡ from.ended → from.reads ≤ held.reads → held.reads ≤ from.reads + length input
      → (held.reads ≤ after.reads) × (after.reads ≤ MOST_READS)
      → reads ≡ min (old.reads + (held.reads - from.reads)) (2 ^ 64 - 1)
      → new.reads ≡ min (reads + (after.reads - held.reads)) (2 ^ 64 - 1)
      → ServeFails may_answer from old new first last fault
  read_fails from held after old new first last input unread before reads Read consumed writes stops works on still low gave bound counted now =
      (input, (sym still ∙ stops.1, Consumes-kept old.unread unread new.unread input consumed stops.0, writes), stops.2, on)
  read_fails from held after old new first last input unread before reads Turns consumed writes stops works on still low gave bound counted now =
      let full : held.reads ≡ MOST_READS = stops.3 in (
        input,
        (sym still ∙ stops.1, Consumes-kept old.unread unread new.unread input consumed stops.0, writes),
        stops.2 ∙ works,
        on,
        omega (arith, gave, full),
        omega (arith, low, bound, full, counted, now),
      )
  read_fails from held after old new first last input unread before reads Write consumed writes stops works on still low gave bound counted now = absurd stops
  read_fails from held after old new first last input unread before reads Memory consumed writes stops works on still low gave bound counted now = absurd stops

  -- the rest that the input ends
  pub rest_served : (r : Result (Unit {0}) ServeFault) (hand here : AtHand) (old new : Streams) (first mid last : S) (input piece : List ℕ)
      (unread between : Option (List ℕ)) (before : Bool)
      → Consumes old.unread unread input → Consumes unread new.unread piece → piece ≡ [] → IsAtEnd new.unread
      → Writes may_answer first (frames_on hand input) old.written between mid
      → SameFront here.line (rest_in (begun_at hand) input)
      → OnOk r (Writes may_answer mid (frames_of_rest here.line) between new.written last) → OnOk r (new.writer_failed ≡ before)
      → before ≡ false → new.reader_failed ≡ false → OnOk r (ServesAll may_answer hand old new first last)
  rest_served (Err fault) hand here old new first mid last input piece unread between before consumed read none end writes same rest wrote works reads = tt
  rest_served (Ok done) hand here old new first mid last input piece unread between before consumed read none end writes same rest wrote works reads =
      let answered : Writes may_answer first (frames_to_end hand input) old.written new.written last =
      subst (λ f. Writes may_answer first (frames_on hand input ++ f) old.written new.written last) (frames_of_rest-same here.line (rest_in (begun_at hand) input) same)
      (Writes-append may_answer (frames_on hand input) (frames_of_rest here.line) first mid last old.written between new.written writes rest) in (
        of_all old.unread unread new.unread input piece (λ all. Writes may_answer first (frames_to_end hand all) old.written new.written last)
            consumed read none end answered,
        reads,
        wrote ∙ works,
      )

  pub rest_fails : (r : Result (Unit {0}) ServeFault) (from : IntakeState) (here : AtHand) (old new : Streams) (first mid last : S) (input piece : List ℕ)
      (unread between : Option (List ℕ))
      → Consumes old.unread unread input → Consumes unread new.unread piece → piece ≡ [] → IsAtEnd new.unread
      → Writes may_answer first (frames_on from.hand input) old.written between mid
      → SameFront here.line (rest_in (begun_at from.hand) input)
      → OnErr r (Stops may_answer mid (frames_of_rest here.line) between new.written) → OnErr r (IsErrOf r Write) → OnErr r (new.writer_failed ≡ true)
      → new.reader_failed ≡ false → IfErr r (ServeFails may_answer from old new first last)
  rest_fails (Ok done) from here old new first mid last input piece unread between consumed read none end writes same rest is failed reads = tt
  rest_fails (Err Write) from here old new first mid last input piece unread between consumed read none end writes same rest is failed reads =
      let stops : Stops may_answer first (frames_to_end from.hand input) old.written new.written =
      subst (λ f. Stops may_answer first (frames_on from.hand input ++ f) old.written new.written) (frames_of_rest-same here.line (rest_in (begun_at from.hand) input) same)
      (Stops-after may_answer (frames_on from.hand input) (frames_of_rest here.line) first mid old.written between new.written writes rest) in (
        of_all old.unread unread new.unread input piece (λ all. Stops may_answer first (frames_to_end from.hand all) old.written new.written)
            consumed read none end stops,
        reads,
        failed,
      )
  rest_fails (Err Read) from here old new first mid last input piece unread between consumed read none end writes same rest is failed reads = absurd (cc)
  rest_fails (Err Memory) from here old new first mid last input piece unread between consumed read none end writes same rest is failed reads = absurd (cc)
  rest_fails (Err Turns) from here old new first mid last input piece unread between consumed read none end writes same rest is failed reads = absurd (cc)

  -- the lines at hand, of which the answers ended early
  pub held_untold : (from : AtHand) (old new : Streams) (first mid : S) (here : AtHand) (input : List ℕ) (done : List Frame) (between : Option (List ℕ))
      → frames_on from input ≡ done ++ frames_at here → Writes may_answer first done old.written between mid
      → Stops may_answer mid (frames_at here) between new.written → Stops may_answer first (frames_to_end from input) old.written new.written
  held_untold from old new first mid here input done between split writes stops =
      Stops-more may_answer (frames_on from input) _ first old.written new.written
      (subst (λ f. Stops may_answer first f old.written new.written) (sym split)
      (Stops-after may_answer done (frames_at here) first mid old.written between new.written writes stops))

  -- which was a fault of writing
  pub write_untold : (from : IntakeState) (old new : Streams) (first last : S) (fault : ServeFault) → IsErrOf {T = Unit {0}} (Err fault) Write
      → TellFails may_answer from old new first last Write → TellFails may_answer from old new first last fault
  write_untold from old new first last Write is fails = fails
  write_untold from old new first last Read is fails = absurd (cc)
  write_untold from old new first last Memory is fails = absurd (cc)
  write_untold from old new first last Turns is fails = absurd (cc)

  -- a fault of reading
  pub read_untold : (from held : IntakeState) (old new : Streams) (first last : S) (unread : Option (List ℕ)) (before : Bool) (fault : ServeFault)
      → StopsReading held unread new.unread before new.reader_failed fault → ServeFails may_answer from old new first last fault → TellFails may_answer from old new first last fault
  read_untold from held old new first last unread before Read stops fails = fails
  read_untold from held old new first last unread before Turns stops fails = fails
  read_untold from held old new first last unread before Write stops fails = absurd stops
  read_untold from held old new first last unread before Memory stops fails = absurd stops

  -- what was read up to the end
  pub read_all : (a b d : Option (List ℕ)) (input piece : List ℕ) → Consumes a b input → Consumes b d piece → piece ≡ [] → Consumes a d input
  read_all a b d input piece consumed read none =
      subst (λ l. Consumes a d l) (ap (λ l. input ++ l) none ∙ append-nil input) (Consumes-trans a b d input piece consumed read)

  -- the rest that the input ends
  pub rest_told : (r : Result (Unit {0}) ServeFault) (hand here : AtHand) (old new : Streams) (first mid last : S) (input : List ℕ) (between : Option (List ℕ)) (before : Bool)
      → Consumes old.unread new.unread input → IsAtEnd new.unread
      → Writes may_answer first (frames_on hand input) old.written between mid
      → SameFront here.line (rest_in (begun_at hand) input)
      → OnOk r (Writes may_answer mid (frames_of_rest here.line) between new.written last) → OnOk r (new.writer_failed ≡ before)
      → before ≡ false → new.reader_failed ≡ false → OnOk r (TellsAll may_answer hand old new first last)
  rest_told (Err fault) hand here old new first mid last input between before consumed end writes same rest wrote works reads = tt
  rest_told (Ok done) hand here old new first mid last input between before consumed end writes same rest wrote works reads = (
    input,
    consumed,
    end,
    subst (λ f. Writes may_answer first (frames_on hand input ++ f) old.written new.written last) (frames_of_rest-same here.line (rest_in (begun_at hand) input) same)
        (Writes-append may_answer (frames_on hand input) (frames_of_rest here.line) first mid last old.written between new.written writes rest),
    reads,
    wrote ∙ works,
  )

  pub rest_untold : (r : Result (Unit {0}) ServeFault) (from : IntakeState) (here : AtHand) (old new : Streams) (first mid last : S) (input : List ℕ) (between : Option (List ℕ))
      → Consumes old.unread new.unread input
      → Writes may_answer first (frames_on from.hand input) old.written between mid
      → SameFront here.line (rest_in (begun_at from.hand) input)
      → OnErr r (Stops may_answer mid (frames_of_rest here.line) between new.written) → OnErr r (IsErrOf r Write) → OnErr r (new.writer_failed ≡ true)
      → new.reader_failed ≡ false → IfErr r (TellFails may_answer from old new first last)
  rest_untold (Ok done) from here old new first mid last input between consumed writes same rest is failed reads = tt
  rest_untold (Err Write) from here old new first mid last input between consumed writes same rest is failed reads = (
    input,
    consumed,
    subst (λ f. Stops may_answer first (frames_on from.hand input ++ f) old.written new.written) (frames_of_rest-same here.line (rest_in (begun_at from.hand) input) same)
        (Stops-after may_answer (frames_on from.hand input) (frames_of_rest here.line) first mid old.written between new.written writes rest),
    reads,
    failed,
  )
  rest_untold (Err Read) from here old new first mid last input between consumed writes same rest is failed reads = absurd (cc)
  rest_untold (Err Memory) from here old new first mid last input between consumed writes same rest is failed reads = absurd (cc)
  rest_untold (Err Turns) from here old new first mid last input between consumed writes same rest is failed reads = absurd (cc)
