-- The answer to a line, by what was appended.
use Rattle.std.proofs.Common.{◌≡◌, ℕ, true, false, refl, sym, subst, List, ◌++◌, Result, Ok, Err, OnOk, OnErr}
use Rattle.std.specs.Prelude.{IsOk, is_ok, if◌then◌else◌}
use Rattle.lease_proto.specs.declared.faults.LineFault.{LineFault}
use Rattle.lease_proto.specs.declared.operators.OperatorLine.{OperatorLine}
use Rattle.lease_proto.specs.declared.operators.OperatorLine.TheVariants as operator
use Rattle.lease_proto.specs.declared.operators.ServedLine.{ServedLine}
use Rattle.lease_proto.specs.declared.operators.ServedLine.TheVariants as served
use Rattle.lease_proto.specs.Faults.{error_line}
use Rattle.lease_proto.specs.Operators.{served_of}
use Rattle.lease_machine.specs.Picture.{Picture, IsPicture}
use Rattle.lease_machine.specs.Machine.{AnswersLine, ServedStep, LeaseStep}
use Rattle.lease_machine.proofs.LawProofs.{same_grows}
use Rattle.stock_desk.specs.Operators.{StaysPicture, KeepsPicture}

module _ {A E : Type 0} where
  -- bytes were appended where there was room
  pub appended : (r : Result A E) (P : List ℕ → Type 0) (old bytes new : List ℕ) → new ≡ (if is_ok r then old ++ bytes else old) → P bytes
      → OnOk r ((reply : List ℕ) × (new ≡ old ++ reply) × P reply)
  appended (Ok x) P old bytes new is p = (bytes, is, p)
  appended (Err e) P old bytes new is p = tt

  -- else nothing was
  pub left_alone : (r : Result A E) (old bytes new : List ℕ) → new ≡ (if is_ok r then old ++ bytes else old) → OnErr r (new ≡ old)
  left_alone (Ok x) old bytes new is = tt
  left_alone (Err e) old bytes new is = is

  pub never_err : (r : Result A E) (P : Type 0) → IsOk r → OnErr r P
  never_err (Ok x) P ok = tt
  never_err (Err e) P ok = absurd (let no : false ≡ true = ok in cc)

-- a line that is served
pub served_step : (old new : Picture) (line text : List ℕ) (l : ServedLine) → Ok l ≡ served_of line → ServedStep l old text new → StaysPicture old new → LeaseStep old line text new
served_step old new line text l is step kept = record {
  answer = subst (λ (x : Result ServedLine LineFault). AnswersLine old x text new) is step;
  setup = same_grows old new kept.setup;
  stays = λ none. kept.setup;
  picture = kept.picture;
}

-- an operator's that is served
pub operator_step : (old new : Picture) (line text : List ℕ) (o : OperatorLine) → Ok (served.Operator o) ≡ served_of line → ServedStep (served.Operator o) old text new → KeepsPicture o old new → LeaseStep old line text new
operator_step old new line text (operator.Grow g) is step kept = record {
  answer = subst (λ (x : Result ServedLine LineFault). AnswersLine old x text new) is step;
  setup = kept.setup;
  stays = λ none. absurd (none (g, sym is));
  picture = kept.picture;
}
operator_step old new line text (operator.Cpu n) is step kept = served_step old new line text (served.Operator (operator.Cpu n)) is step kept
operator_step old new line text (operator.Offline n) is step kept = served_step old new line text (served.Operator (operator.Offline n)) is step kept
operator_step old new line text operator.Tick is step kept = served_step old new line text (served.Operator operator.Tick) is step kept
operator_step old new line text (operator.Resize r) is step kept = served_step old new line text (served.Operator (operator.Resize r)) is step kept
operator_step old new line text operator.Reap is step kept = served_step old new line text (served.Operator operator.Reap) is step kept
operator_step old new line text operator.Audit is step kept = served_step old new line text (served.Operator operator.Audit) is step kept
operator_step old new line text operator.Clients is step kept = served_step old new line text (served.Operator operator.Clients) is step kept

-- a line that is refused
pub refused_step : (d : Picture) (line : List ℕ) (fault : LineFault) → Err fault ≡ served_of line → IsPicture d → LeaseStep d line (error_line fault) d
refused_step d line fault is picture = record {
  answer = subst (λ (r : Result ServedLine LineFault). AnswersLine d r (error_line fault) d) is (refl, refl);
  setup = same_grows d d (record { tree = refl; owned = refl });
  stays = λ none. record { tree = refl; owned = refl };
  picture = picture;
}
