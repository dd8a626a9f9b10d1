-- What an arena imported stays of its source.
use Rattle.std.proofs.Common.{◌≡◌, ℕ, ◌+◌, ◌≤◌, sym, subst, List, All, Contains, Option, Some, Result, Ok, Err, IfOk, OnOk, ◌∷◌, get_or, arith}
use Rattle.std.specs.Prelude.{sum_by}
use Rattle.std.specs.Option.{option_to_list}
use Rattle.std.proofs.lemmas.Option.{slice_get-get_or}
use Rattle.std.proofs.lemmas.List.Elements.{All-cons, All-contains}
use Rattle.std.proofs.lemmas.List.Sums.{sum_by-cons}
use Rattle.deed_core.specs.Tag.{Tag}
use Rattle.deed_core.specs.Weights.{Gains, one_at}
use Rattle.deed_core.specs.declared.requests.Request.{Request}
use Rattle.tag_arena.specs.declared.faults.SpanFault.{SpanFault}
use Rattle.deed_core.proofs.LawProofs.{counts_where_it_is, contains_at}
use Rattle.tag_arena.specs.ArenaState.{ArenaState}
use Rattle.tag_arena.specs.Outcomes.{FreeOf, ImportOf}

-- a list that weighs no more has no other members
has_less : (old new : List Tag) → ((f : Tag → ℕ) → sum_by f new ≤ sum_by f old) → (x : Tag) → Contains new x → Contains old x
has_less old new less x has = (let some = (counts_where_it_is x new).1 has in (counts_where_it_is x old).0 (omega (arith, some, less (one_at x))))

all_less : (P : Tag → Type 0) (old new : List Tag) → ((f : Tag → ℕ) → sum_by f new ≤ sum_by f old) → All P old → All P new
all_less P old new less all k d within =
    All-contains P old (get_or new k d) all (has_less old new less (get_or new k d) (contains_at new k (get_or new k d) (slice_get-get_or new k d within)))

pub freed_own : (source : Option ℕ) (old new : ArenaState) (t : Tag) (r : Result (Option Tag) Tag) → FreeOf old t r new → IfOk r (λ back. (f : Tag → ℕ) → sum_by f old.imported ≡ sum_by f new.imported + sum_by f (option_to_list back))
    → All (λ x. source ≡ Some x.arena) old.imported → All (λ x. source ≡ Some x.arena) new.imported
freed_own source old new t (Ok back) of sums all = all_less (λ x. source ≡ Some x.arena) old.imported new.imported (λ f. omega (arith, sums f)) all
freed_own source old new t (Err same) of sums all = subst (λ (a : ArenaState). All (λ x. source ≡ Some x.arena) a.imported) (sym of.2) all

pub imported_own : (source : Option ℕ) (old new : ArenaState) (span : Tag) (q : Request) (r : Result Tag (SpanFault Tag)) → ImportOf old span q r new → OnOk r (Gains old.imported new.imported span) → source ≡ Some span.arena
    → All (λ x. source ≡ Some x.arena) old.imported → All (λ x. source ≡ Some x.arena) new.imported
imported_own source old new span q (Ok t) of sums is all =
    let less : (f : Tag → ℕ) → sum_by f new.imported ≤ sum_by f (span ∷ old.imported) = λ f.
    (let more : sum_by f new.imported ≡ sum_by f old.imported + f span = sums f in
    let with_it : sum_by f (span ∷ old.imported) ≡ f span + sum_by f old.imported = sum_by-cons f span old.imported in
    omega (arith, more, with_it)) in
    all_less (λ x. source ≡ Some x.arena) (span ∷ old.imported) new.imported less (All-cons (λ x. source ≡ Some x.arena) span old.imported is all)
imported_own source old new span q (Err same) of sums is all = subst (λ (a : ArenaState). All (λ x. source ≡ Some x.arena) a.imported) (sym of.1) all
