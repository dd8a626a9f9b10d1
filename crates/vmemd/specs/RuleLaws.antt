-- The rules of leases over a whole script.
use Rattle.std.specs.Prelude.{◌≡◌, ◌≢◌, ◌⊎◌, ℕ, List, [], ◌++◌, Option, Some, Ok}
use Rattle.std.specs.List.{flat_map}
use Rattle.std.specs.Io.KnownBytes.{Appends}
use Rattle.lease_proto.specs.declared.lines.Line.{Line}
use Rattle.lease_proto.specs.declared.operators.ServedLine.TheVariants as served
use Rattle.lease_proto.specs.declared.replies.Granted.{Granted}
use Rattle.lease_proto.specs.declared.replies.Reply.{Reply}
use Rattle.lease_proto.specs.Frames.{Frame, frames_of, with_line_feed}
use Rattle.lease_proto.specs.Operators.{served_of}
use Rattle.lease_proto.specs.Serving.{ServesLines}
use Rattle.lease_machine.specs.Picture.{Picture}
use Rattle.lease_machine.specs.AnswerLaws.{IsReadAs, RepliesTo}
use Rattle.lease_machine.specs.Rules.{KeepsRules}
use Rattle.lease_machine.specs.GrantLaws.{GrantsTwice, GrantsApart}
use Rattle.lease_machine.specs.NewGrants.{GrantsTwo}
use Rattle.vmemd_setup.specs.declared.faults.ScriptFault.{ScriptFault}
use Rattle.vmemd.specs.Desks.{ScriptEnds, ScriptFails}
use Rattle.vmemd.specs.Laws.{Script, AnswersNext}

-- an input is a script's setup lines and then the lines that its desk answers, and its text is
-- written
pub record IsWritten (input : List ℕ) (before after : Option (List ℕ)) : Type 0 where
  pub last : Picture
  pub script : Script last
  pub lines : List ℕ
  pub split : input ≡ flat_map with_line_feed script.setup ++ lines
  pub frames : script.frames ≡ frames_of lines
  pub written : Appends before after script.text

-- so is each input that is answered to its end
abbrev pub EndsAreScripts : Type 0
EndsAreScripts = (input : List ℕ) (before after : Option (List ℕ))
    → ScriptEnds input before after → IsWritten input before after

-- an input is a script's setup lines and then lines of which its desk answers the first, and of its
-- text a front is written
pub record IsWrittenInPart (input : List ℕ) (before after : Option (List ℕ)) : Type 0 where
  pub last : Picture
  pub script : Script last
  pub lines : List ℕ
  pub split : input ≡ flat_map with_line_feed script.setup ++ lines
  pub later : List Frame
  pub frames : frames_of lines ≡ script.frames ++ later
  pub front : List ℕ
  pub unwritten : List ℕ
  pub text : script.text ≡ front ++ unwritten
  pub written : Appends before after front

-- so is each whose answers end early, or nothing is written
abbrev pub FailsAreScripts : Type 0
FailsAreScripts = (input : List ℕ) (left before after : Option (List ℕ)) (fault : ScriptFault)
    → ScriptFails (Some input) left before after fault
    → Appends before after [] ⊎ IsWrittenInPart input before after

-- each line of a script, with what is written for it, keeps the rules of leases
abbrev pub ScriptKeepsRules : Type 0
ScriptKeepsRules = (last : Picture) (s : Script last)
    → ServesLines KeepsRules s.desk s.frames s.text last

-- and each line of a client is answered by one line, which is read as a reply to it
abbrev pub ScriptClientsGetReplies : Type 0
ScriptClientsGetReplies = (old new : Picture) (l : Line) (line text : List ℕ)
    → AnswersNext old line text new → served_of line ≡ Ok (served.Client l)
    → (r : Reply) × IsReadAs text r × RepliesTo l r

-- After any lines of a script, one is answered `granted`; then come lines of which none ends that
-- lease, and then a line of another request is answered `granted`. Each of the two is new, or its
-- client asks by the first protocol or while its lease stands. What they were granted doesn't
-- overlap, where the arenas that they name have one top in the setup.
abbrev pub ScriptGrantsStayApart : Type 0
ScriptGrantsStayApart = (old : Picture) (s : Script old) (g h : Granted) → GrantsTwice old g h
    → h.id ≢ g.id → GrantsApart s.made.arenas g h

-- So it is of two requests that no line before settled (none of their client, incarnation and
-- number was answered `granted`, `released` or `refused`), where of the lines between none releases
-- what the first was granted, and is answered so, and none is a hello of a greater incarnation of
-- its client that is welcome. Which lines these are, they and their answers tell alone.
abbrev pub ScriptNewGrantsStayApart : Type 0
ScriptNewGrantsStayApart = (old : Picture) (s : Script old) (g h : Granted)
    → GrantsTwo s.desk s.frames s.text old g h → GrantsApart s.made.arenas g h
