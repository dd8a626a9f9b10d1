use Rattle.std.proofs.Common.{None}
use Rattle.std.proofs.lemmas.List.{get_or-replicate}
use Rattle.tag_arena.proofs.Linking.{none_linked}
use Rattle.tag_arena.proofs.newest_lists.NewestLists.new.Goals as goal

pub returns-clause-linked : goal.returns-clause-linked
returns-clause-linked c = none_linked _ (λ p lt. get_or-replicate 64 p None None lt)
