use Rattle.std.proofs.Common.{ap, codes, refl, ◌∙◌}
use Rattle.std.specs.Borrow.{Bor}
use Rattle.clap.specs.Words.{Text, found_of}
use Rattle.clap.proofs.WalkLemmas.{first_value-rows}
use Rattle.vmemd_setup.proofs.CommandLemmas.{text_given}
use Rattle.vmemd_setup.proofs.commands.serve_given.Goals as goal

pub returns : goal.returns
returns c =
    let found = found_of c.args.of.now in (
      ap (λ (s : Bor Text). s.now) c.unwrap_or.ensures ∙ text_given c.get_str.result _ _ refl (c.get_str.ensures ∙ first_value-rows found (codes "ADDRESS")),
      ap (λ (s : Bor Text). s.now) c.unwrap_or-2.ensures ∙ text_given c.get_str-2.result _ _ refl (c.get_str-2.ensures ∙ first_value-rows found (codes "CONFIG")),
      c.number_given.ensures,
      c.number_given-2.ensures,
      c.number_given-3.ensures,
      c.option_given.ensures,
      c.option_given-2.ensures,
      c.get_str-3.ensures ∙ first_value-rows found (codes "metrics"),
    )
