use Rattle.std.proofs.Common.{◌≡◌, ◌<◌, ◌+◌, ◌-◌, ◌*◌, ◌^◌, ◌∷◌, ◌++◌, [], Err, length, take, min, refl, sym, ◌∙◌, ap, subst, arith, rules, true, false}
use Rattle.std.proofs.lemmas.List.{append-nil}
use Rattle.std.proofs.lemmas.Result.{err_from_is_err_and}
use Rattle.std.specs.Io.KnownBytes.{Consumes}
use Rattle.std.proofs.KnownBytes.{Consumes-nil, Consumes-trans}
use Rattle.lease_proto.specs.declared.limits.TheConstants.{LONGEST_LINE, LINE_ROOM}
use Rattle.lease_proto.specs.Frames.{frames_of_rest}
use Rattle.lease_proto.specs.SetupLines.{setup_of, begins_setup}
use Rattle.lease_server.specs.declared.intakes.TheConstants.{MOST_READS}
use Rattle.lease_server.specs.Intakes.{IntakeState, hand_in}
use Rattle.lease_server.specs.Watching.{inner_of, has_failed, reads_of}
use Rattle.vmemd_setup.specs.Setups.{LineFails, TakesLine}
use Rattle.vmemd_setup.proofs.OpeningLemmas.{begins_setup-take}
use Rattle.vmemd_setup.proofs.SetupLemmas.{none_taken, one_taken, more_read, line_at, begun_at, read_behind, read_none, begins_by_line, size_at, size-hand_in, size-passed, refused_long, refused_rest, reading_fails, line_fails}
use Rattle.vmemd_setup.proofs.setting_up.take_setup.Goals as goal

pub loop-line-init : goal.loop-line-init
loop-line-init g c =
    let none = none_taken g.S.SetupBuilder.takes c.args.setup.now in
    let reads = reads_of c.args.reader.now in
    let least : reads ≡ min (reads + 0) (2 ^ 64 - 1) = omega (arith, c.reads.ensures) in
    rw c.new-input.ensures ([], Consumes-nil _, [], none.0, refl, none.1, refl, omega arith, omega arith, refl, least)

pub returns-in_err-take_line-in-Some-clause-err : goal.returns-in_err-take_line-in-Some-clause-err
returns-in_err-take_line-in-Some-clause-err g c =
    let (input, read, front, setup, hand, counted, going, room, low, works, spent) = c.loop-line.invariant in
    let (text, rest, one, parts, first, behind) = line_at c.loop-line.input.hand front hand c.in-Some.ensures.some.0 in
    let p = err_from_is_err_and c.from_residual.result c.from_residual.ensures.1 in
    let line : c.in-Some.line.now ≡ take LINE_ROOM text = c.in-Some.ensures.some.1 ∙ first in
    let begins : begins_setup (take LINE_ROOM text) ≡ true = ap begins_setup (sym line) ∙ sym c.begins_setup.ensures ∙ c.if-begins_setup.true in
    let failed = subst (λ l. LineFails g.S.SetupBuilder.refuses g.S.SetupBuilder.can c.loop-line.setup c.loop-line.number (setup_of l) c.in_err-take_line-in-Some.field-0.0)
    line c.in_err-take_line-in-Some.ensures.err in
    rw (p.1, p.2) (line_fails g.S.SetupBuilder.takes g.S.SetupBuilder.refuses g.S.SetupBuilder.can c.args.setup.now c.loop-line.setup c.take_line.new.setup
    (g.R.Read.remaining (inner_of c.args.reader.now)) (g.R.Read.remaining (inner_of c.loop-line.reader))
    input front text rest setup c.loop-line.number c.in_err-take_line-in-Some.field-0.0 read counted begins one parts c.in_err-take_line-in-Some.ensures.unchanged failed)

pub loop-line-smaller-then-begins_setup : goal.loop-line-smaller-then-begins_setup
loop-line-smaller-then-begins_setup g c =
    let old = c.loop-line.input in
    let less = size-passed old.hand c.in-Some.ensures.some.0 in
    subst (λ (v : IntakeState). (MOST_READS - v.reads) * 32768 + size_at v.hand < (MOST_READS - old.reads) * 32768 + size_at old.hand)
    (sym c.pass.ensures) (omega (arith, less))

pub loop-line-preserved-then-begins_setup : goal.loop-line-preserved-then-begins_setup
loop-line-preserved-then-begins_setup g c =
    let (input, read, front, setup, hand, counted, going, room, low, works, spent) = c.loop-line.invariant in
    let (text, rest, one, parts, first, behind) = line_at c.loop-line.input.hand front hand c.in-Some.ensures.some.0 in
    let line : c.in-Some.line.now ≡ take LINE_ROOM text = c.in-Some.ensures.some.1 ∙ first in
    let taken = subst (λ l. TakesLine g.S.SetupBuilder.takes c.loop-line.setup l c.take_line.new.setup) line c.in_ok-take_line-in-Some.ensures.ok in
    let more = one_taken g.S.SetupBuilder.takes c.args.setup.now c.loop-line.setup c.take_line.new.setup input front text rest setup taken parts in
    let less = size-passed c.loop-line.input.hand c.in-Some.ensures.some.0 in
    rw c.pass.ensures (
      input,
      read,
      rest,
      more.0,
      ap (hand_in []) behind,
      ap (λ n. n + 1) (counted ∙ sym more.1),
      going,
      omega (arith, less, room),
      low,
      works,
      spent,
    )

pub returns-in-Some-2-clause-ok : goal.returns-in-Some-2-clause-ok
returns-in-Some-2-clause-ok g c =
    let (input, read, front, setup, hand, counted, going, room, low, works, spent) = c.loop-line.invariant in
    let (text, rest, one, parts, first, behind) = line_at c.loop-line.input.hand front hand c.in-Some.ensures.some.0 in
    let line : c.in-Some.line.now ≡ take LINE_ROOM text = c.in-Some.ensures.some.1 ∙ first in
    let other : begins_setup (take LINE_ROOM text) ≡ false = ap begins_setup (sym line) ∙ sym c.begins_setup.ensures ∙ c.if-begins_setup.false in (
      front,
      (input, read, setup),
      hand,
      (λ _ more. begins_by_line front text rest more parts ∙ other),
      (λ is. let bad : true ≡ false = sym is ∙ going in absurd (cc)),
    )

pub returns-in_err-refuse_long-in-None-clause-err : goal.returns-in_err-refuse_long-in-None-clause-err
returns-in_err-refuse_long-in-None-clause-err g c =
    let (input, read, front, setup, hand, counted, going, room, low, works, spent) = c.loop-line.invariant in
    let (one, first) = begun_at c.loop-line.input.hand front hand c.in-None.ensures.none in
    let line : c.begun.result.now ≡ take LINE_ROOM front = c.begun.ensures ∙ first in
    let p = err_from_is_err_and c.from_residual-in_err-refuse_long-in-None.result c.from_residual-in_err-refuse_long-in-None.ensures.1 in
    let e = c.in_err-refuse_long-in-None.ensures in
    rw (p.1, p.2, e.0) (refused_long g.S.SetupBuilder.takes g.S.SetupBuilder.refuses c.args.setup.now c.loop-line.setup
    (g.R.Read.remaining (inner_of c.args.reader.now)) (g.R.Read.remaining (inner_of c.loop-line.reader))
    input front setup c.loop-line.number read counted one (subst (λ l. LONGEST_LINE < length l) line e.1) (ap begins_setup (sym line) ∙ e.2))

pub returns-in_err-read_on-in-None-clause-err : goal.returns-in_err-read_on-in-None-clause-err
returns-in_err-read_on-in-None-clause-err g c =
    let (input, read, front, setup, hand, counted, going, room, low, works, spent) = c.loop-line.invariant in
    let (one, first) = begun_at c.loop-line.input.hand front hand c.in-None.ensures.none in
    let p = err_from_is_err_and c.from_residual-in_err-read_on-in-None.result c.from_residual-in_err-read_on-in-None.ensures.1 in
    rw (p.1, p.2) (reading_fails g.S.SetupBuilder.takes g.S.SetupBuilder.refuses g.S.SetupBuilder.can c.args.setup.now c.loop-line.setup
    (g.R.Read.remaining (inner_of c.args.reader.now)) (g.R.Read.remaining (inner_of c.loop-line.reader)) (g.R.Read.remaining (inner_of c.read_on.new.reader))
    input front setup c.loop-line.input (has_failed c.loop-line.reader) (has_failed c.read_on.new.reader) c.in_err-read_on-in-None.field-0.0
    read one c.in_err-read_on-in-None.ensures.err)

pub returns-in_err-refuse_rest-in-None-clause-err : goal.returns-in_err-refuse_rest-in-None-clause-err
returns-in_err-refuse_rest-in-None-clause-err g c =
    let (input, read, front, setup, hand, counted, going, room, low, works, spent) = c.loop-line.invariant in
    let (one, first) = begun_at c.loop-line.input.hand front hand c.in-None.ensures.none in
    let (piece, consumes, short, next, more, none) = c.in_ok-read_on-in-None.ensures.ok in
    let over : c.in_ok-read_on-in-None.field-0 ≡ false = search rules in
    let (nothing, at_end, is_end) = none over in
    let stays = read_none c.loop-line.input.hand c.read_on.new.self.hand front piece one first next nothing in
    let line : c.begun-then-not-branch.result.now ≡ take LINE_ROOM front = c.begun-then-not-branch.ensures ∙ ap (λ h. h.line) (stays ∙ sym hand) ∙ first in
    let p = err_from_is_err_and c.from_residual-in_err-refuse_rest-in-None.result c.from_residual-in_err-refuse_rest-in-None.ensures.1 in
    let (why, is, last, begins) = c.in_err-refuse_rest-in-None.ensures.err in
    let unread = g.R.Read.remaining (inner_of c.args.reader.now) in
    let left = g.R.Read.remaining (inner_of c.read_on.new.reader) in
    let all : Consumes unread left input =
    subst (λ l. Consumes unread left l) (ap (λ l. input ++ l) nothing ∙ append-nil input) (Consumes-trans _ _ _ input piece read consumes) in
    rw (p.1, p.2, is) (refused_rest g.S.SetupBuilder.takes g.S.SetupBuilder.refuses c.args.setup.now c.loop-line.setup unread left
    input front setup c.loop-line.number why all is_end counted one (subst (λ l. frames_of_rest l ≡ Err why ∷ []) line last) (ap begins_setup (sym line) ∙ begins))

pub returns-then-not-branch-clause-ok : goal.returns-then-not-branch-clause-ok
returns-then-not-branch-clause-ok g c =
    let (input, read, front, setup, hand, counted, going, room, low, works, spent) = c.loop-line.invariant in
    let (one, first) = begun_at c.loop-line.input.hand front hand c.in-None.ensures.none in
    let (piece, consumes, short, next, more, none) = c.in_ok-read_on-in-None.ensures.ok in
    let over : c.in_ok-read_on-in-None.field-0 ≡ false = search rules in
    let (nothing, at_end, is_end) = none over in
    let stays = read_none c.loop-line.input.hand c.read_on.new.self.hand front piece one first next nothing in
    let line : c.begun-then-not-branch.result.now ≡ take LINE_ROOM front = c.begun-then-not-branch.ensures ∙ ap (λ h. h.line) (stays ∙ sym hand) ∙ first in
    let unread = g.R.Read.remaining (inner_of c.args.reader.now) in
    let left = g.R.Read.remaining (inner_of c.read_on.new.reader) in
    let all : Consumes unread left input =
    subst (λ l. Consumes unread left l) (ap (λ l. input ++ l) nothing ∙ append-nil input) (Consumes-trans _ _ _ input piece read consumes) in (
      front,
      (input, all, setup),
      stays,
      (λ is. let bad : true ≡ false = sym at_end ∙ is in absurd (cc)),
      (λ _. (sym (begins_setup-take front) ∙ ap begins_setup (sym line) ∙ c.in_ok-refuse_rest-in-None.ensures.ok, is_end)),
    )

pub loop-line-smaller : goal.loop-line-smaller
loop-line-smaller g c =
    let (piece, consumes, short, next, more, none) = c.in_ok-read_on-in-None.ensures.ok in
    let on : c.in_ok-read_on-in-None.field-0 ≡ true = search rules in
    let (some, fresh, not_ended, once) = more on in
    let size = ap size_at next in
    let fits = size-hand_in c.loop-line.input.hand.line piece in
    let bound = c.read_on.ensures.bound in
    let less : (MOST_READS - c.read_on.new.self.reads) * 32768 + size_at c.read_on.new.self.hand
    < (MOST_READS - c.loop-line.input.reads) * 32768 + size_at c.loop-line.input.hand = omega (arith, once, bound, size, fits, short) in
    less

pub loop-line-preserved : goal.loop-line-preserved
loop-line-preserved g c =
    let (input, read, front, setup, hand, counted, going, room, low, works, spent) = c.loop-line.invariant in
    let (one, first) = begun_at c.loop-line.input.hand front hand c.in-None.ensures.none in
    let (piece, consumes, short, next, more, none) = c.in_ok-read_on-in-None.ensures.ok in
    let on : c.in_ok-read_on-in-None.field-0 ≡ true = search rules in
    let (some, fresh, not_ended, once) = more on in
    let size = ap size_at next in
    let fits = size-hand_in c.loop-line.input.hand.line piece in
    let grown = more_read g.S.SetupBuilder.takes c.args.setup.now c.loop-line.setup input front piece setup in (
      input ++ piece,
      Consumes-trans _ _ _ input piece read consumes,
      front ++ piece,
      grown.0,
      read_behind c.loop-line.input.hand c.read_on.new.self.hand front piece one first next,
      counted ∙ ap (λ n. n + 1) (sym grown.1),
      not_ended,
      omega (arith, room, once, size, fits, short),
      c.read_on.ensures.bound.1,
      c.in_ok-read_on-in-None.ensures.works ∙ works,
      omega (arith, spent, once, c.read_on.ensures.counted),
    )
