-- Lemmas on the lines of CONFIG, which are all taken or one is refused.
use Rattle.std.proofs.Common.{◌≡◌, ℕ, ◌+◌, Bool, Option, Some, None, Err, Ok, Result, OnOk, IfErr, List, [], ◌∷◌, ◌++◌, length, take, refl, sym, ◌∙◌, ap, subst, arith, IfSome}
use Rattle.std.proofs.lemmas.List.{append-nil, length-take}
use Rattle.std.specs.Io.KnownBytes.{Consumes, IsAtEnd}
use Rattle.std.proofs.KnownBytes.{Consumes-kept}
use Rattle.lease_proto.specs.declared.limits.TheConstants.{LINE_ROOM}
use Rattle.lease_proto.specs.declared.faults.LineFault.{LineFault}
use Rattle.lease_proto.specs.Frames.{frames_of_rest, with_line_feed, IsOneLine}
use Rattle.lease_proto.specs.declared.setup_lines.SetupLine.{SetupLine}
use Rattle.lease_proto.specs.SetupLines.{setup_of}
use Rattle.lease_server.specs.Intakes.{IntakeState, StopsReading}
use Rattle.lease_server.specs.declared.faults.ServeFault.{ServeFault}
use Rattle.lease_server.specs.declared.faults.ServeFault.TheVariants as serving
use Rattle.vmemd_setup.specs.declared.faults.ConfigFault.{ConfigFault}
use Rattle.vmemd_setup.specs.declared.faults.ConfigFault.TheVariants as config
use Rattle.vmemd_setup.specs.declared.faults.ScriptFault.{ScriptFault}
use Rattle.vmemd_setup.specs.declared.faults.ScriptFault.TheVariants.{Setup, Read, Write, Memory}
use Rattle.vmemd_setup.specs.Endings.{serving_fault}
use Rattle.vmemd_setup.specs.Setups.{SetsUp, RefusesFirst, CanGoOn, LineFails}
use Rattle.vmemd_setup.specs.Configs.{LineRefused, ConfigFails}
use Rattle.vmemd_setup.proofs.SetupLemmas.{more_read, rest_first, refuses_line, can_take_line, goes_on}

-- what holds where a result is Ok, from what holds there
pub at_ok : {A E : Type 0} (r : Result A E) (P Q : Type 0) → (P → Q) → OnOk r P → OnOk r Q
at_ok (Ok x) P Q f p = f p
at_ok (Err e) P Q f p = tt

-- what holds of a fault, from what holds of it
pub at_err : {A E : Type 0} (r : Result A E) (P Q : E → Type 0) → ((e : E) → P e → Q e) → IfErr r P → IfErr r Q
at_err (Ok x) P Q f p = tt
at_err (Err e) P Q f p = f e p

-- of which nothing is the front, there is nothing
pub none_of_front : (bytes : List ℕ) → take LINE_ROOM bytes ≡ [] → bytes ≡ []
none_of_front [] none = refl
none_of_front (b ∷ bs) none =
    let size = length-take LINE_ROOM (b ∷ bs) in
    let zero : length (take LINE_ROOM (b ∷ bs)) ≡ 0 = ap length none in
    absurd (omega (arith, size, zero))

module _ {S : Type 0} (takes : S → SetupLine → S → Type 0) (refuses : S → SetupLine → ConfigFault → Type 0) where
  -- the refusal of a line, however the input goes on
  refused_now : (first made : S) (unread left : Option (List ℕ)) (input front : List ℕ) (setup : SetsUp takes first input front made) (number line : ℕ) (word : ConfigFault)
      → Consumes unread left input → number ≡ length setup.lines + 1 → line ≡ number
      → ((more : List ℕ) → RefusesFirst refuses made (front ++ more) word) → IfSome unread (λ all. LineRefused takes refuses first all line word made)
  refused_now first made None left input front setup number line word read counted same refused = tt
  refused_now first made (Some xs) None input front setup number line word read counted same refused = absurd read
  refused_now first made (Some xs) (Some ys) input front setup number line word read counted same refused =
      let more = more_read takes first made input front ys setup in
      subst (λ all. LineRefused takes refuses first all line word made) (sym read)
      (front ++ ys, more.0, same ∙ counted ∙ ap (λ n. n + 1) (sym more.1), refused ys)

  -- the refusal of a line that the input ends in
  pub unended_refused : (first made : S) (unread left : Option (List ℕ)) (input front : List ℕ) (setup : SetsUp takes first input front made) (number : ℕ) (why : LineFault)
      → Consumes unread left input → IsAtEnd left → number ≡ length setup.lines + 1 → IsOneLine front → frames_of_rest (take LINE_ROOM front) ≡ Err why ∷ []
      → IfSome unread (λ all. LineRefused takes refuses first all number (config.Line why) made)
  unended_refused first made None left input front setup number why read end counted one last = tt
  unended_refused first made (Some xs) None input front setup number why read end counted one last = absurd read
  unended_refused first made (Some xs) (Some ys) input front setup number why read end counted one last =
      subst (λ all. LineRefused takes refuses first all number (config.Line why) made) (sym (read ∙ ap (λ l. input ++ l) end ∙ append-nil input))
      (front, setup, counted, (Err why, [], rest_first front why one last, refl))

  -- all lines are taken where nothing is left of the input
  pub all_taken : (first made : S) (unread left : Option (List ℕ)) (input front : List ℕ) (setup : SetsUp takes first input front made)
      → Consumes unread left input → IsAtEnd left → front ≡ [] → IfSome unread (λ all. SetsUp takes first all [] made)
  all_taken first made None left input front setup read end none = tt
  all_taken first made (Some xs) None input front setup read end none = absurd read
  all_taken first made (Some xs) (Some ys) input front setup read end none =
      subst (λ all. SetsUp takes first all [] made) (sym (read ∙ ap (λ l. input ++ l) end ∙ append-nil input))
      (subst (λ f. SetsUp takes first input f made) none setup)

module _ {S : Type 0} (takes : S → SetupLine → S → Type 0) (refuses : S → SetupLine → ConfigFault → Type 0) (can : S → SetupLine → Type 0) where
  pub line_not_taken : (first made last : S) (unread left : Option (List ℕ)) (input front line rest : List ℕ) (setup : SetsUp takes first input front made) (number : ℕ) (fault : ScriptFault)
      → Consumes unread left input → number ≡ length setup.lines + 1 → IsOneLine line → front ≡ with_line_feed line ++ rest
      → last ≡ made → LineFails refuses can made number (setup_of (take LINE_ROOM line)) fault → ConfigFails takes refuses can first unread left last fault
  line_not_taken first made last unread left input front line rest setup number (Setup at word) read counted one e same fails =
      subst (λ s. IfSome unread (λ all. LineRefused takes refuses first all at word s)) (sym same)
      (refused_now takes refuses first made unread left input front setup number at word read counted fails.0
      (λ more. refuses_line takes refuses made front line rest more word one e fails.1))
  line_not_taken first made last unread left input front line rest setup number Read read counted one e same fails = absurd fails
  line_not_taken first made last unread left input front line rest setup number Write read counted one e same fails = absurd fails
  line_not_taken first made last unread left input front line rest setup number Memory read counted one e same fails =
      subst (λ s. IfSome unread (λ all. CanGoOn takes can first all s)) (sym same)
      (goes_on takes can first made unread left input front setup read (λ more. can_take_line takes can made front line rest more one e fails))

  -- a read that failed while a line had begun
  pub reading_stops : (first made : S) (unread mid left : Option (List ℕ)) (input front : List ℕ) (setup : SetsUp takes first input front made) (old : IntakeState) (before after : Bool)
      (fault : ServeFault) → Consumes unread mid input → IsOneLine front → StopsReading old mid left before after fault
      → ConfigFails takes refuses can first unread left made (serving_fault fault)
  reading_stops first made unread mid left input front setup old before after serving.Read read one stops =
      (front, (input, Consumes-kept unread mid left input read stops.0, setup), one)
  reading_stops first made unread mid left input front setup old before after serving.Turns read one stops =
      (front, (input, Consumes-kept unread mid left input read stops.0, setup), one)
  reading_stops first made unread mid left input front setup old before after serving.Write read one stops = absurd stops
  reading_stops first made unread mid left input front setup old before after serving.Memory read one stops = absurd stops
