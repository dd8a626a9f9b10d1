use Rattle.std.proofs.Common.{◌≡◌, ◌+◌, ◌-◌, ◌^◌, min, [], ◌++◌, length, true, false, sym, refl, ap, subst, ◌∙◌, arith, rules}
use Rattle.std.proofs.lemmas.List.{append-nil, length-append}
use Rattle.std.proofs.lemmas.Result.{err_from_is_err_and}
use Rattle.std.proofs.KnownBytes.{Consumes-nil, Consumes-trans, Appends-nil}
use Rattle.lease_proto.specs.Frames.{rest_in}
use Rattle.lease_server.specs.Intakes.{frames_at, frames_on, begun_at}
use Rattle.lease_server.specs.Serving.{SameFront, Writes}
use Rattle.lease_server.specs.Watching.{streams_of}
use Rattle.lease_server.proofs.ServingLemmas.{HasAnswered-after, Writes-append}
use Rattle.lease_server.proofs.IntakeLemmas.{hand_more}
use Rattle.lease_server.proofs.FaultLemmas.{held_fails, read_fails, rest_served, rest_fails, last_front}
use Rattle.lease_server.proofs.serving.serve.Goals as goal

pub loop-out-init : goal.loop-out-init
loop-out-init g c =
    let reads = c.args.reader.now.reads in
    let least : reads ≡ min (reads + 0) (2 ^ 64 - 1) = omega (arith, c.reads.ensures) in
    let none : 0 ≡ c.args.input.now.reads - c.args.input.now.reads = omega arith in (
      [],
      Consumes-nil _,
      [],
      append-nil (frames_at c.args.input.now.hand),
      refl,
      c.new-out.ensures.items,
      ([], (refl, refl), Appends-nil _),
      c.requires.works.0,
      c.requires.works.1,
      c.requires.ended,
      omega arith,
      omega arith,
      least ∙ ap (λ n. min (reads + n) (2 ^ 64 - 1)) none,
      refl,
    )

pub returns-in_err-serve_held-clause-err : goal.returns-in_err-serve_held-clause-err
returns-in_err-serve_held-clause-err g c =
    let (input, consumed, done, split, same, empty, writes, reads_on, writes_on, ended, low, gave, counted, still) = c.loop-out.invariant in
    let e = c.in_err-serve_held.ensures in
    let p = err_from_is_err_and c.from_residual.result c.from_residual.ensures.1 in
    rw (p.1, p.2) (held_fails g.P.Responder.may_answer c.args.input.now
    (streams_of g.R.Read.remaining g.W.Write.contents c.args.reader.now c.args.writer.now)
    (streams_of g.R.Read.remaining g.W.Write.contents c.loop-out.reader c.serve_held.new.writer)
    c.args.responder.now c.loop-out.responder c.serve_held.new.responder c.loop-out.input.hand input done
    (g.W.Write.contents c.loop-out.writer.inner) c.loop-out.writer.failed c.in_err-serve_held.field-0.0
    consumed split writes reads_on writes_on e.fault e.err e.memory e.failed)

pub returns-in_err-serve_held-clause-answered : goal.returns-in_err-serve_held-clause-answered
returns-in_err-serve_held-clause-answered g c =
    let (input, consumed, done, split, same, empty, writes, reads_on, writes_on, ended, low, gave, counted, still) = c.loop-out.invariant in
    HasAnswered-after g.P.Responder.may_answer done c.args.responder.now c.loop-out.responder c.serve_held.new.responder _ _ writes c.in_err-serve_held.ensures.answered

pub returns-in_err-read_on-clause-answered : goal.returns-in_err-read_on-clause-answered
returns-in_err-read_on-clause-answered g c =
    let (input, consumed, done, split, same, empty, writes, reads_on, writes_on, ended, low, gave, counted, still) = c.loop-out.invariant in
    HasAnswered-after g.P.Responder.may_answer done c.args.responder.now c.loop-out.responder c.serve_held.new.responder _ _ writes c.in_ok-serve_held.ensures.answered

pub returns-then-not-branch-clause-answered : goal.returns-then-not-branch-clause-answered
returns-then-not-branch-clause-answered g c =
    let (input, consumed, done, split, same, empty, writes, reads_on, writes_on, ended, low, gave, counted, still) = c.loop-out.invariant in
    rw c.serve_rest.ensures.unasked (HasAnswered-after g.P.Responder.may_answer done c.args.responder.now c.loop-out.responder c.serve_held.new.responder _ _ writes c.in_ok-serve_held.ensures.answered)

pub returns-in_err-serve_held-clause-bound : goal.returns-in_err-serve_held-clause-bound
returns-in_err-serve_held-clause-bound g c =
    let (input, consumed, done, split, same, empty, writes, reads_on, writes_on, ended, low, gave, counted, still) = c.loop-out.invariant in
    let kept = c.in_err-serve_held.ensures.kept in
    (omega (arith, low, kept.0), kept.2)

pub returns-in_err-read_on-clause-err : goal.returns-in_err-read_on-clause-err
returns-in_err-read_on-clause-err g c =
    let (input, consumed, done, split, same, empty, writes, reads_on, writes_on, ended, low, gave, counted, still) = c.loop-out.invariant in
    let may = g.P.Responder.may_answer in
    let held = c.in_ok-serve_held.ensures in
    let before = g.W.Write.contents c.args.writer.now.inner in
    let after = g.W.Write.contents c.serve_held.new.writer.inner in
    let answered : Writes may c.args.responder.now (frames_on c.args.input.now.hand input) before after c.serve_held.new.responder =
    subst (λ f. Writes may c.args.responder.now f before after c.serve_held.new.responder) (sym split)
    (Writes-append may done (frames_at c.loop-out.input.hand) c.args.responder.now c.loop-out.responder c.serve_held.new.responder
    before (g.W.Write.contents c.loop-out.writer.inner) after writes held.served) in
    let p = err_from_is_err_and c.from_residual-in_err-read_on.result c.from_residual-in_err-read_on.ensures.1 in
    rw (p.1, p.2) (read_fails may c.args.input.now c.serve_held.new.input c.read_on.new.self
    (streams_of g.R.Read.remaining g.W.Write.contents c.args.reader.now c.args.writer.now)
    (streams_of g.R.Read.remaining g.W.Write.contents c.read_on.new.reader c.serve_held.new.writer)
    c.args.responder.now c.serve_held.new.responder input (g.R.Read.remaining c.loop-out.reader.inner) c.loop-out.reader.failed c.loop-out.reader.reads
    c.in_err-read_on.field-0.0 consumed answered c.in_err-read_on.ensures.err reads_on (held.works ∙ writes_on)
    (held.kept.1 ∙ still) (omega (arith, low, held.kept.0)) (omega (arith, gave, held.kept.0)) c.in_err-read_on.ensures.bound
    (omega (arith, counted, held.kept.0)) c.in_err-read_on.ensures.counted)

pub returns-then-not-branch-clause-ok : goal.returns-then-not-branch-clause-ok
returns-then-not-branch-clause-ok g c =
    let (input, consumed, done, split, same, empty, writes, reads_on, writes_on, ended, low, gave, counted, still) = c.loop-out.invariant in
    let may = g.P.Responder.may_answer in
    let held = c.in_ok-serve_held.ensures in
    let before = g.W.Write.contents c.args.writer.now.inner in
    let between = g.W.Write.contents c.serve_held.new.writer.inner in
    let answered : Writes may c.args.responder.now (frames_on c.args.input.now.hand input) before between c.serve_held.new.responder =
    subst (λ f. Writes may c.args.responder.now f before between c.serve_held.new.responder) (sym split)
    (Writes-append may done (frames_at c.loop-out.input.hand) c.args.responder.now c.loop-out.responder c.serve_held.new.responder
    before (g.W.Write.contents c.loop-out.writer.inner) between writes held.served) in
    let (piece, read, short, hand, more, none) = c.in_ok-read_on.ensures.ok in
    let over : c.in_ok-read_on.field-0 ≡ false = search rules in
    let (nothing, at_end, is_end) = none over in
    let line : SameFront c.read_on.new.self.hand.line (rest_in (begun_at c.args.input.now.hand) input) =
    last_front c.serve_held.new.input.hand c.read_on.new.self.hand piece hand nothing ∙ held.begun.1 ∙ same in
    rest_served may c.serve_rest.result c.args.input.now.hand c.read_on.new.self.hand
    (streams_of g.R.Read.remaining g.W.Write.contents c.args.reader.now c.args.writer.now)
    (streams_of g.R.Read.remaining g.W.Write.contents c.read_on.new.reader c.serve_rest.new.writer)
    c.args.responder.now c.serve_held.new.responder c.serve_rest.new.responder input piece
    (g.R.Read.remaining c.loop-out.reader.inner) between c.serve_held.new.writer.failed
    consumed read nothing is_end answered line c.serve_rest.ensures.ok c.serve_rest.ensures.works
    (held.works ∙ writes_on) (c.in_ok-read_on.ensures.works ∙ reads_on)

pub returns-then-not-branch-clause-err : goal.returns-then-not-branch-clause-err
returns-then-not-branch-clause-err g c =
    let (input, consumed, done, split, same, empty, writes, reads_on, writes_on, ended, low, gave, counted, still) = c.loop-out.invariant in
    let may = g.P.Responder.may_answer in
    let held = c.in_ok-serve_held.ensures in
    let before = g.W.Write.contents c.args.writer.now.inner in
    let between = g.W.Write.contents c.serve_held.new.writer.inner in
    let answered : Writes may c.args.responder.now (frames_on c.args.input.now.hand input) before between c.serve_held.new.responder =
    subst (λ f. Writes may c.args.responder.now f before between c.serve_held.new.responder) (sym split)
    (Writes-append may done (frames_at c.loop-out.input.hand) c.args.responder.now c.loop-out.responder c.serve_held.new.responder
    before (g.W.Write.contents c.loop-out.writer.inner) between writes held.served) in
    let (piece, read, short, hand, more, none) = c.in_ok-read_on.ensures.ok in
    let over : c.in_ok-read_on.field-0 ≡ false = search rules in
    let (nothing, at_end, is_end) = none over in
    let line : SameFront c.read_on.new.self.hand.line (rest_in (begun_at c.args.input.now.hand) input) =
    last_front c.serve_held.new.input.hand c.read_on.new.self.hand piece hand nothing ∙ held.begun.1 ∙ same in
    rest_fails may c.serve_rest.result c.args.input.now c.read_on.new.self.hand
    (streams_of g.R.Read.remaining g.W.Write.contents c.args.reader.now c.args.writer.now)
    (streams_of g.R.Read.remaining g.W.Write.contents c.read_on.new.reader c.serve_rest.new.writer)
    c.args.responder.now c.serve_held.new.responder c.serve_rest.new.responder input piece
    (g.R.Read.remaining c.loop-out.reader.inner) between
    consumed read nothing is_end answered line c.serve_rest.ensures.err c.serve_rest.ensures.fault c.serve_rest.ensures.failed
    (c.in_ok-read_on.ensures.works ∙ reads_on)

pub loop-out-preserved : goal.loop-out-preserved
loop-out-preserved g c =
    let (input, consumed, done, split, same, empty, writes, reads_on, writes_on, ended, low, gave, counted, still) = c.loop-out.invariant in
    let may = g.P.Responder.may_answer in
    let held = c.in_ok-serve_held.ensures in
    let before = g.W.Write.contents c.args.writer.now.inner in
    let after = g.W.Write.contents c.serve_held.new.writer.inner in
    let all = done ++ frames_at c.loop-out.input.hand in
    let answered : Writes may c.args.responder.now all before after c.serve_held.new.responder =
    Writes-append may done (frames_at c.loop-out.input.hand) c.args.responder.now c.loop-out.responder c.serve_held.new.responder
    before (g.W.Write.contents c.loop-out.writer.inner) after writes held.served in
    let (piece, read, short, hand, more, none) = c.in_ok-read_on.ensures.ok in
    let on : c.in_ok-read_on.field-0 ≡ true = search rules in
    let (some, before_end, not_ended, once) = more on in
    let next = hand_more c.args.input.now.hand c.serve_held.new.input.hand input piece all split (held.begun.1 ∙ same) in
    let longer = length-append input piece in
    rw hand (
      input ++ piece,
      Consumes-trans _ _ _ input piece consumed read,
      all,
      next.0,
      next.1,
      held.begun.2,
      answered,
      c.in_ok-read_on.ensures.works ∙ reads_on,
      held.works ∙ writes_on,
      (λ is. let bad : true ≡ false = sym is ∙ not_ended in absurd (cc)),
      omega (arith, low, held.kept.0, once),
      omega (arith, gave, held.kept.0, once, some, longer),
      omega (arith, counted, held.kept.0, once, low, c.read_on.ensures.counted),
      not_ended ∙ sym before_end ∙ held.kept.1 ∙ still,
    )
