-- What holds over a whole script, from the laws of the lease machine.
use Rattle.std.proofs.Common.{◌≡◌, refl, sym, ◌∙◌, ap, subst, List, [], ◌∷◌, ◌++◌, ℕ, All, Ok, Err, append_assoc}
use Rattle.std.specs.List.{AllByRecursion}
use Rattle.std.specs.Prelude.{slice_get}
use Rattle.deed_core.specs.Holding.{Holding}
use Rattle.arena_tree.specs.declared.trees.TreeArena.{TreeArena}
use Rattle.arena_tree.specs.Trees.{index_in}
use Rattle.lease_proto.specs.Frames.{Frame}
use Rattle.lease_proto.specs.Faults.{error_line}
use Rattle.lease_book.specs.BookState.{BookState}
use Rattle.lease_call.specs.Growing.{range_asked}
use Rattle.lease_machine.specs.Picture.{Picture, IsPicture}
use Rattle.lease_machine.specs.Laws.{Runs, GrowsAlone}
use Rattle.lease_machine.specs.RoomLaws.{NothingIsKept}
use Rattle.lease_machine.proofs.LawProofs.{pictures_stay, grows_then, units_have_one_home, leases_are_apart, audit_is_told, audit_tells_leases, audit_is_whole}
use Rattle.lease_machine.proofs.LawProofs.{lines_repeat, recent_repeat, answers_agree, grants_fit, repeats_fit, never_both, first_lease_is_served, freed_is_whole, tick_and_reap_empty, grown_is_served, grows_keep_nothing}
use Rattle.stock_desk.proofs.LawProofs.{opened_unused}
use Rattle.vmemd.proofs.MadeLemmas.{script_begins}
use Rattle.vmemd.proofs.SpanLemmas.{given_owned, owns_on, range_serves, range_there, script_tree, span_there}
use Rattle.vmemd.proofs.UncachedLemmas.{nothing_kept}
use Rattle.vmemd.specs.Laws.{Script, ScriptsSplit, ScriptLeasesStayApart, ScriptUnitsHaveOneHome, ScriptAuditIsTold, ScriptAuditIsWhole}
use Rattle.vmemd.specs.Laws.{ScriptLinesRepeat, ScriptRecentRepeat, ScriptAnswersAgree, ScriptGrantsFit, ScriptRepeatsFit, ScriptNeverGrantsAndRefuses, ScriptFirstLeaseIsServed, ScriptGrownIsServed, ScriptFreedIsWhole, ScriptReturnedIsWhole, ScriptEmptiedIsWhole}

-- what a script leaves is a picture
script_picture : (last : Picture) → Script last → IsPicture last
script_picture last s = pictures_stay s.desk last s.frames s.text (script_begins last s) s.serves

-- a run of frames is one of the first of them, and then one of the others
run_splits : (old last : Picture) (front rest : List Frame) (text : List ℕ) → Runs old (front ++ rest) text last
    → (mid : Picture) × (first : List ℕ) × (later : List ℕ) × Runs old front first mid × Runs mid rest later last × (text ≡ first ++ later)
run_splits old last [] rest text run = (old, [], text, (refl, refl), run, refl)
run_splits old last (Ok line ∷ front) rest text (reply, others, next, step, same, run) =
    let is = run_splits next last front rest others run in
    let whole : text ≡ (reply ++ is.1) ++ is.2 = same ∙ ap (λ l. reply ++ l) is.5 ∙ sym (append_assoc reply is.1 is.2) in
    (is.0, reply ++ is.1, is.2, (reply, is.1, next, step, refl, is.3), is.4, whole)
run_splits old last (Err fault ∷ front) rest text (others, same, run) =
    let is = run_splits old last front rest others run in
    let whole : text ≡ (error_line fault ++ is.1) ++ is.2 = same ∙ ap (λ l. error_line fault ++ l) is.5 ∙ sym (append_assoc (error_line fault) is.1 is.2) in
    (is.0, error_line fault ++ is.1, is.2, (is.1, refl, is.3), is.4, whole)

pub scripts_split : ScriptsSplit
scripts_split last s front rest split =
    let is = run_splits s.desk last front rest s.text (subst (λ (frames : List Frame). Runs s.desk frames s.text last) split s.serves) in
    (is.0, record { setup = s.setup; made = s.made; desk = s.desk; frames = front; text = is.1; makes = s.makes; opened = s.opened; serves = is.3 }, refl, (is.2, is.4, is.5))

pub script_leases_apart : ScriptLeasesStayApart
script_leases_apart last s = leases_are_apart last (script_picture last s)

pub script_units_one_home : ScriptUnitsHaveOneHome
script_units_one_home last s = units_have_one_home last (script_picture last s)

pub script_audit_told : ScriptAuditIsTold
script_audit_told old new text a = audit_is_told old new text a.step

pub script_audit_whole : ScriptAuditIsWhole
script_audit_whole last s k x at = (audit_tells_leases last (script_picture last s) k x at, audit_is_whole last (script_picture last s) k x at)

pub script_lines_repeat : ScriptLinesRepeat
script_lines_repeat id op first second frames a others =
    lines_repeat a.old a.mid a.late a.new id op a.again a.line first a.between a.repeat second frames (script_picture a.old a.answers.script)
    a.asks a.answers.step others a.goes_on a.asks_again a.answers_again

pub script_recent_repeat : ScriptRecentRepeat
script_recent_repeat id op first second frames a recent =
    recent_repeat a.old a.mid a.late a.new id op a.again a.line first a.between a.repeat second frames (script_picture a.old a.answers.script)
    a.asks a.answers.step a.goes_on recent a.asks_again a.answers_again

pub script_answers_agree : ScriptAnswersAgree
script_answers_agree id op first second frames a =
    answers_agree a.old a.mid a.late a.new id op a.again a.line first a.between a.repeat second frames (script_picture a.old a.answers.script)
    a.asks a.answers.step a.goes_on a.asks_again a.answers_again

pub script_grants_fit : ScriptGrantsFit
script_grants_fit old new id l line text a asks fresh = grants_fit old new id l line text (script_picture old a.script) asks fresh a.step

pub script_repeats_fit : ScriptRepeatsFit
script_repeats_fit id l first second frames a fresh =
    repeats_fit a.old a.mid a.late a.new id l a.again a.line first a.between a.repeat second frames (script_picture a.old a.answers.script)
    a.asks fresh a.answers.step a.goes_on a.asks_again a.answers_again

pub script_never_both : ScriptNeverGrantsAndRefuses
script_never_both last new other id l r s = never_both last new other id l r (script_picture last s)

-- grows alone leave nothing kept
only_grows : (frames : List Frame) (old new : Picture) (text : List ℕ) → Runs old frames text new → AllByRecursion GrowsAlone frames → NothingIsKept old → NothingIsKept new × (new.book ≡ old.book)
only_grows [] old new text run alone kept = (subst NothingIsKept (sym run.1) kept, ap (λ (d : Picture). d.book) run.1)
only_grows (Ok line ∷ frames) old new text (reply, others, mid, step, same, run) alone kept =
    let first = grows_keep_nothing old mid alone.0.0 line reply kept alone.0.1 step in
    let rest = only_grows frames mid new others run alone.1 first.0 in
    (rest.0, rest.1 ∙ first.1)
only_grows (Err fault ∷ frames) old new text (others, same, run) alone kept = only_grows frames old new others run alone.1 kept

pub script_first_lease : ScriptFirstLeaseIsServed
script_first_lease start mid new s hello greeting lease text h id l alone is_hello greets asks answers fits =
    let begun = only_grows s.frames s.desk start s.text s.serves alone (opened_unused s.made s.desk s.opened) in
    let there = span_there start s l fits in
    first_lease_is_served start mid new hello greeting lease text h id l fits.3.arena there.space (script_picture start s) begun.0 (ap (λ (b : BookState). b.accounts) begun.1 ∙ s.opened.book.accounts)
    there.names is_hello greets asks answers there.span fits.3.base there.owns there.serves

pub script_grown_served : ScriptGrownIsServed
script_grown_served old mid new g id l grow line text index a read asks fresh answers named fits said =
    let tree : mid.tree ≡ a.script.made.arenas = a.step.setup.tree ∙ script_tree old a.script in
    let span : Holding = record { root = 0; range = range_asked g } in
    grown_is_served old mid new g id l index fits.arena span fits.base (script_picture old a.script) (record { line = grow; read = read; step = a.step })
    (ap (index_in g.arena) tree ∙ named)
    (record { first = ap (index_in l.arena) tree ∙ fits.named; here = ap (λ (t : List TreeArena). slice_get t index) tree ∙ fits.here })
    refl (range_serves a.script.made.arenas index (range_asked g) l fits span refl)
    (record { line = line; text = text; read = asks; fresh = fresh; step = answers; said = said })

pub script_freed_whole : ScriptFreedIsWhole
script_freed_whole old new id l line text a none asks fresh fits said =
    let there = span_there old a.script l fits in
    freed_is_whole old new id l fits.3.arena there.space (script_picture old a.script) none there.names there.span fits.3.base there.owns there.serves
    (record { line = line; text = text; read = asks; fresh = fresh; step = a.step; said = said })

pub script_returned_whole : ScriptReturnedIsWhole
script_returned_whole old new id l line text a uncached none asks fresh fits =
    let bare = subst (λ (t : List TreeArena). All (λ x. x.qcache_max ≡ 0) t) (sym (script_tree old a.script)) uncached in
    script_freed_whole old new id l line text a (nothing_kept old (script_picture old a.script) bare none) asks fresh fits

pub script_emptied_whole : ScriptEmptiedIsWhole
script_emptied_whole old mid late new id l told reaped line text a free none second asks fresh answers fits said =
    let s = a.script in
    let on = grows_then old mid late a.step.setup second.setup in
    let owns = owns_on old late fits.0 fits.1 on (given_owned old s fits.0 fits.1 fits.3.arena fits.3.here fits.2) in
    let there = range_there late s.made.arenas fits.0 fits.1 l (on.tree ∙ script_tree old s) owns fits.3 in
    freed_is_whole late new id l fits.3.arena there.space second.picture (tick_and_reap_empty old mid late told reaped free none a.step second) there.names there.span fits.3.base there.owns there.serves
    (record { line = line; text = text; read = asks; fresh = fresh; step = answers; said = said })
