use Rattle.std.proofs.Common.{ap, ap₂, codes, true, false, Bool, ◌&&◌, not, ◌≡◌, ◌∙◌, refl}
use Rattle.std.proofs.lemmas.Result.{IfOk-weaker}
use Rattle.clap.specs.Words.{App, app_of, new_app, with_subcommand}
use Rattle.vmemd_setup.specs.Commands.{bare_program}
use Rattle.vmemd_setup.proofs.commands.command.Goals as goal

-- the third of these tests fails
third_fails : (a b x d : Bool) → (a && (b && (not x && d))) ≡ true → x ≡ false
third_fails true true true d h = cc
third_fails true true false d h = refl
third_fails true false x d h = cc
third_fails false b x d h = cc

abbrev with_settings : App → App
with_settings a = record a {
  top = record a.top {
    has_version = true;
    disable_help_subcommand = true;
    arg_required_else_help = true;
    subcommand_required = true;
  };
}

pub returns : goal.returns
returns c =
    let script_is : app_of c.after_help-script.result ≡ new_app (codes "script") =
    rw (c.after_help-script.ensures, c.long_about.ensures, c.about.ensures) c.new.ensures.app in
    let bare_is : app_of c.disable_help_subcommand.result ≡ bare_program =
    rw (c.disable_help_subcommand.ensures, c.arg_required_else_help.ensures, c.subcommand_required.ensures, c.after_help.ensures, c.about-2.ensures, c.version.ensures)
    (ap with_settings c.new-2.ensures.app) in
    let script_local = third_fails _ _ _ _ (ap (λ (a : App). a.top.is_plain) script_is) in
    let serve_local = third_fails _ _ _ _ (ap (λ (a : App). a.top.is_plain) c.in_ok-serve.ensures) in
    IfOk-weaker c.subcommand-2.result _ _ (λ r h. h.shape serve_local
    ∙ ap₂ with_subcommand (c.in_ok-subcommand.ensures.shape script_local
    ∙ ap₂ with_subcommand bare_is (ap (λ (a : App). a.top) script_is)) (ap (λ (a : App). a.top) c.in_ok-serve.ensures)) c.subcommand-2.ensures
