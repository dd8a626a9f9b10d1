use Rattle.std.proofs.Common.{ap₂, codes, ◌≡◌, ◌∙◌}
use Rattle.std.proofs.lemmas.Result.{IfOk-weaker}
use Rattle.clap.specs.Words.{app_of, new_app, with_rule}
use Rattle.vmemd_setup.specs.Commands.{bare_serve}
use Rattle.vmemd_setup.proofs.commands.serve.Goals as goal

pub returns : goal.returns
returns c =
    let new_is : app_of c.after_help.result ≡ new_app (codes "serve") = rw (c.after_help.ensures, c.long_about.ensures, c.about.ensures) c.new.ensures.app in
    let bare_is : app_of c.in_ok-arg-3.field-0 ≡ bare_serve = c.in_ok-arg-3.ensures.shape c.workers.ensures.local
    ∙ ap₂ with_rule (c.in_ok-arg-2.ensures.shape c.required-config.ensures.local
    ∙ ap₂ with_rule (c.in_ok-arg.ensures.shape c.required-address.ensures.local ∙ ap₂ with_rule new_is c.required-address.ensures.rule) c.required-config.ensures.rule)
    c.workers.ensures.rule in
    let paced_is = c.in_ok-arg-5.ensures.shape c.seconds-idle.ensures.local
    ∙ ap₂ with_rule (c.in_ok-arg-4.ensures.shape c.seconds-line.ensures.local ∙ ap₂ with_rule bare_is c.seconds-line.ensures.rule) c.seconds-idle.ensures.rule in
    let shared_is = c.in_ok-arg-7.ensures.shape c.connections.ensures.local
    ∙ ap₂ with_rule (c.in_ok-arg-6.ensures.shape c.seconds-grace.ensures.local ∙ ap₂ with_rule paced_is c.seconds-grace.ensures.rule)
    c.connections.ensures.rule in
    IfOk-weaker c.arg-8.result _ _ (λ r h. h.shape c.metrics.ensures.local ∙ ap₂ with_rule shared_is c.metrics.ensures.rule) c.arg-8.ensures
