use Rattle.std.proofs.Common.{◌≡◌, ◌∙◌, ap₂, refl, true, Ok, inl, inr, sym, subst, map}
use Rattle.clap.specs.Words.{takes, kind_of, fault_of, is_simple_and_free, FailsBy, HasKind, IsAmong, Kinds}
use Rattle.clap.specs.Words.{HasMatchesOf, is_simple, subcommand_of, subcommand_rows_of}
use Rattle.clap.specs.declared.error.Error.{Error}
use Rattle.clap.specs.declared.error.kind.ErrorKind.TheVariants as kind
use Rattle.clap.proofs.OnLiterals.{clap_on_literals}
use Rattle.vmemd_setup.specs.declared.commands.WordsFault.{WordsFault}
use Rattle.vmemd_setup.specs.declared.commands.WordsFault.TheVariants.{Asked, Mistaken, NotText, Memory}
use Rattle.vmemd_setup.specs.Commands.{program, script_words, FailsWords, IsGivenBy, ShowsError}
use Rattle.vmemd_setup.proofs.commands.read_words.Goals as goal

is_taken : takes program script_words ≡ true
unfolding clap_on_literals
is_taken = refl

is_plain : is_simple_and_free program ≡ true
unfolding clap_on_literals
is_plain = refl

is_known : is_simple program ≡ true
unfolding clap_on_literals
is_known = refl

-- what is told of one of these faults
told : (kinds : Kinds) (error : Error) (fault : WordsFault) → HasKind kinds error → ShowsError error fault → FailsWords kinds fault
told kinds error (Asked text) (inl memory) (inl help) = let bad : kind.OutOfMemory ≡ kind.DisplayHelp = sym memory ∙ help in absurd (cc)
told kinds error (Asked text) (inl memory) (inr version) = let bad : kind.OutOfMemory ≡ kind.DisplayVersion = sym memory ∙ version in absurd (cc)
told kinds error (Asked text) (inr among) (inl help) = inl (subst (λ k. IsAmong k kinds) help among)
told kinds error (Asked text) (inr among) (inr version) = inr (subst (λ k. IsAmong k kinds) version among)
told kinds error (Mistaken text) (inl memory) (help, version, other) = absurd (other memory)
told kinds error (Mistaken text) (inr among) (help, version, other) = (kind_of error, among, help, version)
told kinds error NotText has is = is
told kinds error Memory has is = tt

pub returns-in-Err-clause-script : goal.returns-in-Err-clause-script
returns-in-Err-clause-script c = λ are. c.words_fault.ensures.memory (c.in-Err.ensures.passes (ap₂ takes c.in_ok-command.ensures are ∙ is_taken))

pub returns-in-Ok-clause-ok : goal.returns-in-Ok-clause-ok
returns-in-Ok-clause-ok c =
    let words = map (λ w. w.now) c.args.words.now in
    subst (λ a. is_simple_and_free a ≡ true → FailsBy (fault_of a words) (Ok c.in-Ok.matches)) c.in_ok-command.ensures c.in-Ok.ensures.kinds is_plain

pub returns-in-Err-clause-err : goal.returns-in-Err-clause-err
returns-in-Err-clause-err c =
    let words = map (λ w. w.now) c.args.words.now in
    told (fault_of program words) c.in-Err.error c.words_fault.result
    (subst (λ a. is_simple_and_free a ≡ true → HasKind (fault_of a words) c.in-Err.error) c.in_ok-command.ensures c.in-Err.ensures.kinds is_plain)
    c.words_fault.ensures.told

pub returns-in-Ok-clause-given : goal.returns-in-Ok-clause-given
returns-in-Ok-clause-given c =
    let words = map (λ w. w.now) c.args.words.now in
    let found : subcommand_rows_of c.in-Ok.matches ≡ subcommand_of program words =
    (subst (λ a. HasMatchesOf a words c.in-Ok.matches) c.in_ok-command.ensures c.in-Ok.ensures.matches is_known).1 in
    subst (λ f. IsGivenBy f c.given.result) found c.given.ensures
