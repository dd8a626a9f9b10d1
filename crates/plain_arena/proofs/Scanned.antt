-- What a scan has found, carved.
use Rattle.std.proofs.Common.{◌≡◌, ℕ, ◌%◌, refl, sym, subst, ap, ◌∙◌, arith}
use Rattle.deed_core.specs.Request.{IsGood, rounding_of}
use Rattle.deed_core.specs.declared.requests.Request.{Request}
use Rattle.plain_arena.specs.declared.choices.Found.{Found}
use Rattle.plain_arena.specs.declared.whole_spans.Whole.{Whole}
use Rattle.plain_arena.specs.Found.{IsPlaced, IsCuttable}
use Rattle.tag_arena.specs.ArenaState.{ArenaState, IsDivided, IsSoundArena}
use Rattle.tag_arena.specs.Calls.{part}
use Rattle.tag_arena.proofs.Granting.{CarvesAt, FoundAt, rounded_some, rounded_multiple}
use Rattle.tag_arena.proofs.Sounding.{power_some}
use Rattle.tag_arena.proofs.Taking.{WholeAt}

abbrev pub found_at : Found → FoundAt
found_at f = record { at = f.at; range = f.range; base = f.base }

abbrev pub whole_at : Whole → WholeAt
whole_at w = record { at = w.at; free_at = w.free_at; span = w.span }

-- what was found for a good request can be carved there
pub found_cuttable : (a : ArenaState) (q : Request) (f : Found) (n : ℕ) → IsSoundArena a → IsGood a.quantum q → IsPlaced a.quantum q a.free f → n ≡ rounding_of a.quantum q.size → IsCuttable a.quantum a.free f n
found_cuttable a q f n sound good placed n_is = record {
  within = placed.0;
  here = placed.1;
  some = omega (arith, n_is, rounded_some q.size a.quantum good.size);
  from = placed.2.from;
  to = omega (arith, n_is, placed.2.to);
  grid = (placed.2.fits.whole, ap (λ k. k % a.quantum) n_is ∙ rounded_multiple q.size a.quantum (power_some a.quantum sound.divided.power));
}

pub cuttable_carve : (a b : ArenaState) (f : Found) (n : ℕ) → IsDivided a → a ≡ b → IsCuttable b.quantum b.free f n → CarvesAt a f.at f.range (part f.range f.base n)
cuttable_carve a b f n divided same can =
    let here : IsCuttable a.quantum a.free f n = subst (λ (s : ArenaState). IsCuttable s.quantum s.free f n) (sym same) can in
    record {
      sound = divided;
      within = here.within;
      here = here.here;
      held = record { root = refl; from = here.from; to = here.to };
      some = here.some;
      grid = here.grid;
    }
