-- From what was told and read to how a server ran.
use Rattle.std.proofs.Common.{IfOk, IfErr, ◌≡◌, ◌∙◌, ◌++◌, ◌-◌, ◌<◌, ℕ, Option, Some, None, List, [], ◌∷◌, Result, Ok, Err, Bool, true, false, refl, sym, ap, subst, inl, inr, append_assoc}
use Rattle.std.proofs.lemmas.List.{append-nil}
use Rattle.std.specs.Global.{Vec}
use Rattle.std.specs.Io.KnownBytes.{Appends, Consumes}
use Rattle.std.proofs.KnownBytes.{Appends-trans, Consumes-nil}
use Rattle.deed_core.specs.Extent.{Extent}
use Rattle.arena_tree.specs.declared.trees.TreeArena.{TreeArena}
use Rattle.lease_proto.specs.Frames.{frames_of}
use Rattle.lease_proto.specs.Serving.{ServesLines}
use Rattle.lease_server.specs.Intakes.{IntakeState, hand_in}
use Rattle.lease_server.specs.Serving as serving
use Rattle.lease_server.specs.Serving.{TellFails, WritesFront}
use Rattle.lease_server.specs.Watching.{Streams}
use Rattle.lease_server.specs.declared.faults.ServeFault.TheVariants as serve
use Rattle.lease_server.proofs.LawProofs.{hand_tells}
use Rattle.lease_threads.specs.Ends.{HaltedState, AreTold, AreRangesLeft, IsRestOf, KeepsRoots}
use Rattle.lease_threads.proofs.Gathered.{ranges_later}
use Rattle.lease_threads.specs.Systems.{SystemState}
use Rattle.vmemd.specs.Operators.{may_tell}
use Rattle.vmemd_setup.specs.declared.faults.RunFault.{RunFault}
use Rattle.vmemd_setup.specs.declared.faults.RunFault.TheVariants.{Read, Write, Listen, Memory, Shut}
use Rattle.vmemd.specs.Retrying.{Retries}
use Rattle.vmemd.specs.Running.{AnswersBehind, Attends, Closes, ServesToItsEnd, closed_line, listening_line}

-- before anything is read
abbrev pub unread_intake : IntakeState
unread_intake = record { hand = hand_in [] []; reads = 0; ended = false }

module _ (arenas last : List TreeArena) (old new : Streams) where
  -- all lines were told
  pub told_all : serving.TellsAll may_tell (hand_in [] []) old new arenas last → AnswersBehind arenas [] old new (Ok tt)
  told_all (input, consumed, end, (text, serves, appends), reads, writes) =
      let frames = (hand_tells [] input).1 in
      (text, (input, consumed, end, (last, subst (λ f. ServesLines may_tell arenas f text last) frames serves)), appends, (reads, writes))

  -- a fault of reading
  pub told_so_far : TellFails may_tell unread_intake old new arenas last serve.Read → AnswersBehind arenas [] old new (Err Read)
  told_so_far (input, (going, consumed, (text, serves, appends)), failed, works) =
      let frames = (hand_tells [] input).0 in
      (text, (input, consumed, (last, subst (λ f. ServesLines may_tell arenas f text last) frames serves), inl failed), appends, works)

  -- as often as it may be read
  pub told_in_turns : TellFails may_tell unread_intake old new arenas last serve.Turns → AnswersBehind arenas [] old new (Err Read)
  told_in_turns (input, (going, consumed, (text, serves, appends)), reads, works, many, counted) =
      let frames = (hand_tells [] input).0 in
      (text, (input, consumed, (last, subst (λ f. ServesLines may_tell arenas f text last) frames serves), inr counted), appends, works)

-- a fault of writing, after which the reader may be read on
pub told_some : (arenas last : List TreeArena) (old mid new : Streams) → TellFails may_tell unread_intake old mid arenas last serve.Write
    → new.written ≡ mid.written → new.writer_failed ≡ mid.writer_failed → AnswersBehind arenas [] old new (Err Write)
told_some arenas last old mid new (input, consumed, (served, later, split, (then, written, unwritten, serves, appends)), reads, failed) same stays =
    let frames = (hand_tells [] input).1 in (
      written ++ unwritten,
      (input, mid.unread, consumed, (served, later, sym frames ∙ split, (then, serves))),
      (written, unwritten, refl, subst (λ w. Appends old.written w written) (sym same) appends),
      stays ∙ failed,
    )

-- behind what was written before
pub behind : (arenas : List TreeArena) (first : List ℕ) (old mid new : Streams) (r : Result (Unit {0}) RunFault) → Appends old.written mid.written first
    → mid.unread ≡ old.unread → mid.reads ≡ old.reads → AnswersBehind arenas [] mid new r → AnswersBehind arenas first old new r
behind arenas first old mid new (Ok u) wrote unread reads (text, (input, consumed, end, tells), appends, works) =
    (text, (input, subst (λ o. Consumes o new.unread input) unread consumed, end, tells), Appends-trans old.written mid.written new.written first text wrote appends, works)
behind arenas first old mid new (Err Read) wrote unread reads (text, (input, consumed, tells, spent), appends, works) =
    (text, (input, subst (λ o. Consumes o new.unread input) unread consumed, tells, rw (sym reads) spent), Appends-trans old.written mid.written new.written first text wrote appends, works)
behind arenas first old mid new (Err Write) wrote unread reads (text, (input, left, consumed, tells), (written, unwritten, split, appends), failed) = (
  text,
  (input, left, subst (λ o. Consumes o left input) unread consumed, tells),
  (
    first ++ written,
    unwritten,
    ap (λ l. first ++ l) split ∙ sym (append_assoc first written unwritten),
    Appends-trans old.written mid.written new.written first written wrote appends,
  ),
  failed,
)
behind arenas first old mid new (Err Memory) wrote unread reads a = absurd a
behind arenas first old mid new (Err Listen) wrote unread reads a = absurd a
behind arenas first old mid new (Err Shut) wrote unread reads a = absurd a

-- with an address before it
pub addressed : (arenas : List TreeArena) (address : List ℕ) (old new : Streams) (r : Result (Unit {0}) RunFault)
    → AnswersBehind arenas (listening_line address) old new r → Attends arenas old new r
addressed arenas address old new (Ok u) a = (address, a)
addressed arenas address old new (Err Read) a = (address, a)
addressed arenas address old new (Err Write) a = (address, a)
addressed arenas address old new (Err Memory) a = absurd a
addressed arenas address old new (Err Listen) a = absurd a
addressed arenas address old new (Err Shut) a = absurd a

-- where the address itself can't be written
pub unanswered : (arenas : List TreeArena) (line : List ℕ) (old new : Streams) → WritesFront line old.written new.written
    → new.writer_failed ≡ true → AnswersBehind arenas line old new (Err Write)
unanswered arenas line old new (written, unwritten, split, appends) failed = (
  [],
  ([], old.unread, Consumes-nil old.unread, ([], frames_of [], refl, (arenas, (refl, refl)))),
  (written, unwritten, append-nil line ∙ split, appends),
  failed,
)

-- a fault before the end is the run's
pub run_fails : (arenas : List TreeArena) (old new : Streams) (fault : RunFault) → Attends arenas old new (Err fault) → ServesToItsEnd arenas old new (Err fault)
run_fails arenas old new Read p = p
run_fails arenas old new Write (address, (text, tells, (written, unwritten, split, appends), failed)) = (
  address,
  text,
  tells,
  (written, unwritten ++ closed_line, ap (λ l. l ++ closed_line) split ∙ append_assoc written unwritten closed_line, appends),
  failed,
)
run_fails arenas old new Listen p = absurd p
run_fails arenas old new Memory p = p
run_fails arenas old new Shut p = absurd p

-- at the end of the input, the run is as telling that it closed
pub run_closes : (arenas : List TreeArena) (old mid new : Streams) (u : Unit {0}) (r : Result (Unit {0}) RunFault) → Attends arenas old mid (Ok u) → new.unread ≡ mid.unread
    → new.reader_failed ≡ mid.reader_failed → Closes mid.written new.written mid.writer_failed new.writer_failed r → ServesToItsEnd arenas old new r
run_closes arenas old mid new u (Ok x) (address, (text, tells, told, (reader, writer))) same works (p, wrote) = (
  address,
  text,
  rw same tells,
  Appends-trans old.written mid.written new.written (listening_line address ++ text) closed_line told p,
  (works ∙ reader, wrote ∙ writer),
)
run_closes arenas old mid new u (Err Shut) (address, (text, tells, told, (reader, writer))) same works (p, wrote) = (
  address,
  text,
  rw same tells,
  Appends-trans old.written mid.written new.written (listening_line address ++ text) closed_line told p,
  (works ∙ reader, wrote ∙ writer),
)
run_closes arenas old mid new u (Err Write) (address, (text, (input, consumed, end, tells), told, (reader, writer))) same works ((written, unwritten, split, appends), failed) = (
  address,
  text,
  (input, mid.unread, consumed, (frames_of input, [], sym (append-nil (frames_of input)), tells)),
  (
    (listening_line address ++ text) ++ written,
    unwritten,
    ap (λ l. (listening_line address ++ text) ++ l) split ∙ sym (append_assoc (listening_line address ++ text) written unwritten),
    Appends-trans old.written mid.written new.written (listening_line address ++ text) written told appends,
  ),
  failed,
)
run_closes arenas old mid new u (Err Read) a same works p = absurd p
run_closes arenas old mid new u (Err Listen) a same works p = absurd p
run_closes arenas old mid new u (Err Memory) a same works p = absurd p

-- the ranges that are left to tell are those that were left before
left_before : (old : HaltedState) (told : Option (List (Vec Extent))) (system : SystemState) (ranges : List (Vec Extent)) → KeepsRoots old told system.roots
    → system.arenas ≡ old.system.arenas → AreTold told system ranges → AreRangesLeft old ranges
left_before old (Some told) system ranges keeps arenas is = subst (λ (r : List (Vec Extent)). AreRangesLeft old r) (sym is) keeps
left_before old None system ranges (none, roots) arenas is =
    subst (λ (t : Option (List (Vec Extent))). AreTold t old.system ranges) (sym none) (ranges_later old.system system arenas roots ranges is)

pub rest_left : (old new : HaltedState) (ranges : List (Vec Extent)) → IsRestOf old new → AreRangesLeft new ranges → AreRangesLeft old ranges
rest_left old new ranges rest left = left_before old new.told new.system ranges rest.roots rest.arenas left

-- what comes of a try, by its ranges, or by what is left
abbrev TriesFrom : {V : Type 0} → (V → List (Vec Extent)) → HaltedState → Result V HaltedState → Type 0
TriesFrom items h tried = IfOk tried (λ ranges. AreRangesLeft h (items ranges)) × IfErr tried (IsRestOf h)

-- however often it is tried, the ranges are in the end those that were left at first
pub ranges_at_last : {V A : Type 0} (items : V → List (Vec Extent)) (may_note : A → Bool → A → Type 0) (may_tell : A → A → Type 0)
    (tries : List (Result V HaltedState)) (h : HaltedState) (tried : Result V HaltedState) (old new : A) (done : V)
    → IfOk tried (λ ranges. AreRangesLeft h (items ranges)) × IfErr tried (IsRestOf h)
    → Retries (λ (rest : HaltedState) (ended : Result V HaltedState). IfOk ended (λ ranges. AreRangesLeft rest (items ranges)) × IfErr ended (IsRestOf rest)) may_note may_tell tried old tries done new
    → AreRangesLeft h (items done)
ranges_at_last items may_note may_tell [] h tried old new done comes (is, same) = (subst (TriesFrom items h) is comes).0
ranges_at_last items may_note may_tell (next ∷ more) h tried old new done comes (rest, told, is, tells, again, retries) =
    rest_left h rest (items done) (subst (TriesFrom items h) is comes).1 (ranges_at_last items may_note may_tell more rest next told new done again retries)
