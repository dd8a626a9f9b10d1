-- A run on its way.
use Rattle.std.proofs.Common.{◌≡◌, ℕ, ◌+◌, List, [], ◌∷◌, ◌++◌, append_assoc, append-nil, refl, sym, ◌∙◌}
use Rattle.magazine_layer.specs.Rounds.{CpuDepot, StepsRound, RunsRounds, Start, Then}
use Rattle.magazine_layer.specs.declared.rounds.RoundOp.{RoundOp}
use Rattle.magazine_layer.specs.declared.rounds.RoundAnswer.{RoundAnswer}

-- some of the operations are done, and the rest is left
pub record IsRunning {D : Type 0} (s : CpuDepot) (ops rest : List (RoundOp D)) (answers : List (RoundAnswer D)) (s' : CpuDepot) (k : ℕ) : Type 0 where
  pub done : List (RoundOp D)
  pub split : done ++ rest ≡ ops
  pub runs : RunsRounds s done answers s' k

module _ {D : Type 0} where
  pub running_start : (s : CpuDepot) (ops : List (RoundOp D)) → IsRunning s ops ops [] s 0
  running_start s ops = record { done = []; split = refl; runs = Start }

  pub running_then : (s mid s' : CpuDepot) (ops rest left : List (RoundOp D)) (answers more : List (RoundAnswer D)) (k j : ℕ) (op : RoundOp D) (answer : RoundAnswer D)
      → IsRunning s ops rest answers mid k → rest ≡ op ∷ left → more ≡ answers ++ answer ∷ [] → StepsRound op mid s' answer j → IsRunning s ops left more s' (k + j)
  running_then s mid s' ops rest left answers more k j op answer running is pushed step = rw pushed (record {
    done = running.done ++ op ∷ [];
    split = append_assoc running.done (op ∷ []) left ∙ rw (← is) running.split;
    runs = Then op answer s' j running.runs step;
  })

  pub running_end : (s s' : CpuDepot) (ops rest : List (RoundOp D)) (answers : List (RoundAnswer D)) (k : ℕ) → IsRunning s ops rest answers s' k → rest ≡ [] → RunsRounds s ops answers s' k
  running_end s s' ops rest answers k running none = rw (sym (append-nil running.done) ∙ (rw (← none) refl) ∙ running.split) at running.runs
