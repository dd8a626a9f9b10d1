use Rattle.std.proofs.Common.{◌<◌, [], ◌∷◌, ◌++◌, sym, refl, ap, subst, ◌∙◌, append_assoc}
use Rattle.std.proofs.KnownBytes.{Appends-nil}
use Rattle.std.proofs.lemmas.Result.{err_from_is_err_and}
use Rattle.lease_proto.specs.Frames.{frame_of}
use Rattle.lease_server.specs.Serving.{Writes, Stops}
use Rattle.lease_server.specs.Intakes.{hand_in, frames_at}
use Rattle.lease_server.proofs.ServingLemmas.{Writes-append, Stops-after, Stops-more}
use Rattle.lease_server.proofs.IntakeLemmas.{hand_whole, passes_less, size_at}
use Rattle.lease_server.proofs.telling.tell_held.Goals as goal

pub loop-line-init : goal.loop-line-init
loop-line-init g c = ([], refl, refl, ([], (refl, refl), Appends-nil _), refl, refl, refl)

pub loop-line-smaller : goal.loop-line-smaller
loop-line-smaller g c =
    subst (λ v. size_at v.hand < size_at c.loop-line.input.hand) (sym c.pass.ensures) (passes_less c.loop-line.input.hand c.in-Some.ensures.some.0)

pub loop-line-preserved : goal.loop-line-preserved
loop-line-preserved g c =
    let (done, split, same, writes, reads, ended, works) = c.loop-line.invariant in
    let may = g.T.Teller.may_answer in
    let hand = c.loop-line.input.hand in
    let frame = frame_of hand.line in
    let next = hand_in [] hand.rest in
    let first = hand_whole hand c.in-Some.ensures.some.0 in
    let before = g.W.Write.contents c.loop-line.writer.inner in
    let after = g.W.Write.contents c.tell_line.new.writer.inner in
    let told = subst (λ l. Writes may c.loop-line.teller (frame_of l ∷ []) before after c.tell_line.new.teller)
    c.in-Some.ensures.some.1 c.in_ok-tell_line.ensures.ok in
    rw c.pass.ensures (
      done ++ frame ∷ [],
      split ∙ ap (λ f. done ++ f) first.0 ∙ sym (append_assoc done (frame ∷ []) (frames_at next)),
      first.1 ∙ same,
      Writes-append may done (frame ∷ []) c.args.teller.now c.loop-line.teller c.tell_line.new.teller
          (g.W.Write.contents c.args.writer.now.inner) before after writes told,
      reads,
      ended,
      c.in_ok-tell_line.ensures.works ∙ works,
    )

pub returns-in_err-tell_line-clause-err : goal.returns-in_err-tell_line-clause-err
returns-in_err-tell_line-clause-err g c =
    let (done, split, same, writes, reads, ended, works) = c.loop-line.invariant in
    let p = err_from_is_err_and c.from_residual.result c.from_residual.ensures.1 in
    let may = g.T.Teller.may_answer in
    let hand = c.loop-line.input.hand in
    let frame = frame_of hand.line in
    let later = frames_at (hand_in [] hand.rest) in
    let first = hand_whole hand c.in-Some.ensures.some.0 in
    let before = g.W.Write.contents c.args.writer.now.inner in
    let between = g.W.Write.contents c.loop-line.writer.inner in
    let after = g.W.Write.contents c.tell_line.new.writer.inner in
    let stops = subst (λ l. Stops may c.loop-line.teller (frame_of l ∷ []) between after)
    c.in-Some.ensures.some.1 c.in_err-tell_line.ensures.err in
    let all = split ∙ ap (λ f. done ++ f) first.0 ∙ sym (append_assoc done (frame ∷ []) later) in
    rw p.1 (subst (λ f. Stops may c.args.teller.now f before after) (sym all)
    (Stops-more may (done ++ frame ∷ []) later c.args.teller.now before after
    (Stops-after may done (frame ∷ []) c.args.teller.now c.loop-line.teller before between after writes stops)))
