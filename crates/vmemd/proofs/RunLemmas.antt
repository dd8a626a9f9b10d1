-- Lemmas on a script's setup and the lines after it.
use Rattle.std.proofs.Common.{◌≡◌, ℕ, true, false, Option, Some, None, List, [], ◌∷◌, ◌++◌, refl, sym, ◌∙◌, ap, subst, IfSome, inl, inr, append_assoc}
use Rattle.std.proofs.lemmas.Bool.{cases_Bool}
use Rattle.std.proofs.lemmas.List.{append-nil}
use Rattle.std.specs.Io.KnownBytes.{Consumes, IsAtEnd}
use Rattle.std.proofs.KnownBytes.{Appends-nil, Consumes-trans}
use Rattle.lease_proto.specs.Frames.{Frame, frames_in, frames_of, rest_in, frames_of_rest}
use Rattle.lease_proto.specs.SetupLines.{begins_setup}
use Rattle.lease_proto.specs.declared.setup_lines.SetupLine.{SetupLine}
use Rattle.lease_proto.proofs.LawProofs.{frames_in-append}
use Rattle.lease_server.specs.Intakes.{IntakeState, frames_on, frames_to_end}
use Rattle.lease_server.specs.Serving.{Writes, WritesBefore, Stops, ServeFails}
use Rattle.lease_server.specs.Watching.{Streams}
use Rattle.lease_server.specs.declared.faults.ServeFault.{ServeFault}
use Rattle.lease_server.specs.declared.faults.ServeFault.TheVariants as serving
use Rattle.lease_server.proofs.LawProofs.{hand_tells}
use Rattle.vmemd_setup.specs.declared.faults.ConfigFault.{ConfigFault}
use Rattle.vmemd_setup.specs.declared.faults.ScriptFault.{ScriptFault}
use Rattle.vmemd_setup.specs.declared.faults.ScriptFault.TheVariants.{Setup, Read, Write, Memory}
use Rattle.vmemd_setup.specs.Endings.{serving_fault}
use Rattle.vmemd.specs.Scripts.{OpensDesk, RunsWhole, RunsSoFar, RunsFirst, RunFails, WritesFirst}
use Rattle.vmemd_setup.specs.Setups.{CanGoOn, IsOther, TakesSetup, SetupFails, SetupRefused}
use Rattle.vmemd_setup.proofs.SetupLemmas.{more_read}

-- what follows a setup is no setup line
stays_other : (input : IntakeState) (rest more : List ℕ) → (input.ended ≡ false → IsOther rest) → (input.ended ≡ true → begins_setup rest ≡ false)
    → (input.ended ≡ true → more ≡ []) → begins_setup (rest ++ more) ≡ false
stays_other input rest more other stops none = elim (cases_Bool input.ended) [
  | inr on ↦ other on more
  | inl end ↦ ap (λ l. begins_setup (rest ++ l)) (none end) ∙ ap begins_setup (append-nil rest) ∙ stops end
]

-- what holds of all that is left holds of the whole input
over_all : (unread mid : Option (List ℕ)) (input : List ℕ) (P Q : List ℕ → Type 0) → Consumes unread mid input
    → ((more : List ℕ) → mid ≡ Some more → P more → Q (input ++ more)) → IfSome mid P → IfSome unread Q
over_all None mid input P Q read step holds = tt
over_all (Some xs) None input P Q read step holds = absurd read
over_all (Some xs) (Some ys) input P Q read step holds = subst Q (sym read) (step ys refl holds)

weaker : (a : Option (List ℕ)) (P Q : List ℕ → Type 0) → ((xs : List ℕ) → P xs → Q xs) → IfSome a P → IfSome a Q
weaker None P Q step holds = tt
weaker (Some xs) P Q step holds = step xs holds

module _ {S : Type 0} (may_answer : S → List ℕ → List ℕ → S → Type 0) where
  -- the answers before one of these frames are the first of these and of more
  first_of_more : (old new : S) (fs gs : List Frame) (a b : Option (List ℕ)) → WritesBefore may_answer old fs a b new → WritesFirst may_answer old (fs ++ gs) a b
  first_of_more old new fs gs a b (served, refused, later, split, writes) =
      (served, (refused ∷ later) ++ gs, new, ap (λ l. l ++ gs) split ∙ append_assoc served (refused ∷ later) gs, writes)

  -- the answers before a refused line of those that were read are the first of all
  before_all : (old new : S) (front input : List ℕ) (unread left a b : Option (List ℕ)) → Consumes unread left input
      → WritesBefore may_answer old (frames_in [] (front ++ input)) a b new → IfSome unread (λ all. WritesFirst may_answer old (frames_of (front ++ all)) a b)
  before_all old new front input None left a b read before = tt
  before_all old new front input (Some xs) None a b read before = absurd read
  before_all old new front input (Some xs) (Some ys) a b read before =
      let bytes : front ++ xs ≡ (front ++ input) ++ ys = ap (λ l. front ++ l) read ∙ sym (append_assoc front input ys) in
      let last = frames_of_rest (rest_in [] ((front ++ input) ++ ys)) in
      let more : frames_of ((front ++ input) ++ ys) ≡ frames_in [] (front ++ input) ++ (frames_in (rest_in [] (front ++ input)) ys ++ last) =
      ap (λ l. l ++ last) (frames_in-append [] (front ++ input) ys)
      ∙ append_assoc (frames_in [] (front ++ input)) (frames_in (rest_in [] (front ++ input)) ys) last in
      subst (λ frames. WritesFirst may_answer old frames a b) (sym (ap frames_of bytes ∙ more)) (first_of_more old new (frames_in [] (front ++ input)) _ a b before)

module _ {S T : Type 0} (takes : S → SetupLine → S → Type 0) (refuses : S → SetupLine → ConfigFault → Type 0) (can : S → SetupLine → Type 0)
    (opens : S → T → Type 0) (may_answer : T → List ℕ → List ℕ → T → Type 0) where
  -- a setup that ended early
  pub setup_fails : (first last : S) (unread left a : Option (List ℕ)) (fault : ScriptFault) → SetupFails takes refuses can first unread left last fault
      → RunFails takes refuses can opens may_answer first unread left a a fault
  setup_fails first last unread left a (Setup line word) fails = (
    weaker unread (λ input. SetupRefused takes refuses first input line word last)
        (λ input. (made : S) × SetupRefused takes refuses first input line word made) (λ input is. (last, is)) fails,
    Appends-nil a,
  )
  setup_fails first last unread left a Read (part, read, one) = (read.0, read.1, inl (part, last, read.2, one, Appends-nil a))
  setup_fails first last unread left a Write fails = absurd fails
  setup_fails first last unread left a Memory fails =
      weaker unread (λ input. CanGoOn takes can first input last) (λ input. RunsFirst takes can opens may_answer first input a a)
      (λ input on. inl ((last, inl on), Appends-nil a)) fails

  -- no desk was opened
  pub open_fails : (first made : S) (unread mid a : Option (List ℕ)) (from : IntakeState) → TakesSetup takes first unread mid made from
      → IfSome unread (λ input. RunsFirst takes can opens may_answer first input a a)
  open_fails first made None mid a from is = tt
  open_fails first made (Some xs) None a from is = absurd is.1.1
  open_fails first made (Some xs) (Some ys) a from is =
      let none : from.ended ≡ true → ys ≡ [] = λ e. (is.4 e).1 in
      let other = stays_other from is.0 ys is.3 (λ e. (is.4 e).0) none in
      let setup = (more_read takes first made is.1.0 is.0 ys is.1.2).0 in
      subst (λ input. RunsFirst takes can opens may_answer first input a a) (sym is.1.1)
      (inl ((made, inr (is.0 ++ ys, setup, other)), Appends-nil a))

  -- the lines after a setup, and the desk that it opens
  module _ (first made : S) (desk : T) (unread mid : Option (List ℕ)) (from : IntakeState) (is : TakesSetup takes first unread mid made from) (opened : opens made desk) where
    desk_opens : (more : List ℕ) → (from.ended ≡ true → more ≡ []) → OpensDesk takes opens first (is.1.0 ++ more) (is.0 ++ more) desk
    desk_opens more stops = record {
      made = made;
      setup = (more_read takes first made is.1.0 is.0 more is.1.2).0;
      other = stays_other from is.0 more is.3 (λ e. (is.4 e).0) stops;
      opened = opened;
    }

    -- what holds of all those lines holds of a part of the whole input
    run_ends : (P : List Frame → Type 0) → IfSome mid (λ more. P (frames_of (is.0 ++ more)))
        → IfSome unread (λ input. (lines : List ℕ) × OpensDesk takes opens first input lines desk × P (frames_of lines))
    run_ends P holds = over_all unread mid is.1.0 (λ more. P (frames_of (is.0 ++ more)))
        (λ input. (lines : List ℕ) × OpensDesk takes opens first input lines desk × P (frames_of lines)) is.1.1
        (λ more here p. (is.0 ++ more, desk_opens more (λ e. subst IsAtEnd here (is.4 e).1), p)) holds

    -- all of them are answered
    pub run_whole : (last : T) (before after : Option (List ℕ)) → IfSome mid (λ more. Writes may_answer desk (frames_to_end from.hand more) before after last)
        → IfSome unread (λ input. RunsWhole takes opens may_answer first input before after)
    run_whole last before after writes =
        weaker unread _ (λ input. RunsWhole takes opens may_answer first input before after) (λ input run. (run.0, desk, last, run.1, run.2))
        (run_ends (λ frames. Writes may_answer desk frames before after last)
        (weaker mid _ _ (λ more. subst (λ frames. Writes may_answer desk frames before after last) (ap (λ h. frames_to_end h more) is.2 ∙ (hand_tells is.0 more).1)) writes))

    read_fails : (last : T) (left before after : Option (List ℕ)) (more : List ℕ) → from.ended ≡ false → Consumes mid left more
        → Writes may_answer desk (frames_on from.hand more) before after last
        → (input : List ℕ) × Consumes unread left input × RunsSoFar takes opens may_answer first input before after
    read_fails last left before after more going consumes writes = (
      is.1.0 ++ more,
      Consumes-trans unread mid left is.1.0 more is.1.1 consumes,
      inr (
        is.0 ++ more,
        desk,
        last,
        desk_opens more (λ e. (let bad : true ≡ false = sym e ∙ going in absurd (cc))),
        subst (λ frames. Writes may_answer desk frames before after last) (ap (λ h. frames_on h more) is.2 ∙ (hand_tells is.0 more).0) writes,
      ),
    )

  -- serving them ended early
  pub serving_fails : (first made : S) (desk last : T) (unread : Option (List ℕ)) (from : IntakeState) (old new : Streams) (fault : ServeFault)
      → TakesSetup takes first unread old.unread made from → opens made desk → ServeFails may_answer from old new desk last fault
      → RunFails takes refuses can opens may_answer first unread new.unread old.written new.written (serving_fault fault)
  serving_fails first made desk last unread from old new serving.Read is opened (more, (going, read, writes), reader, writer) =
      read_fails first made desk unread old.unread from is opened last new.unread old.written new.written more going read writes
  serving_fails first made desk last unread from old new serving.Turns is opened (more, (going, read, writes), reader, writer, long, reads) =
      read_fails first made desk unread old.unread from is opened last new.unread old.written new.written more going read writes
  serving_fails first made desk last unread from old new serving.Write is opened (stops, reader, writer) =
      weaker unread _ _ (λ input run. (run.0, desk, run.1, run.2))
      (run_ends first made desk unread old.unread from is opened (λ frames. Stops may_answer desk frames old.written new.written)
      (weaker old.unread _ _
      (λ more. subst (λ frames. Stops may_answer desk frames old.written new.written) (ap (λ h. frames_to_end h more) is.2 ∙ (hand_tells is.0 more).1)) stops))
  serving_fails first made desk last unread from old new serving.Memory is opened (more, read, before, reader, writer) =
      weaker unread _ _ (λ input run. inr (run.0, desk, run.1, run.2))
      (run_ends first made desk unread old.unread from is opened (λ frames. WritesFirst may_answer desk frames old.written new.written)
      (before_all may_answer desk last is.0 more old.unread new.unread old.written new.written read
      (subst (λ frames. WritesBefore may_answer desk frames old.written new.written last) (ap (λ h. frames_on h more) is.2 ∙ (hand_tells is.0 more).0) before)))
