-- What the magazines of a CPU are after they moved.
-- shaped, no greater than that size, with rounds that are so
use Rattle.deed_core.specs.Tag.{Tag}
use Rattle.lease_machine.proofs.CpuRows.{all_back, all_front, each_all}
use Rattle.lease_machine.proofs.Focus.{size_some}
use Rattle.lease_machine.specs.Chunks.{AnswersRound}
use Rattle.magazine_layer.specs.Depots.{DepotState, SwapsForFull, all_rounds}
use Rattle.magazine_layer.specs.Magazines.{BothEmpty, BothFull, CpuCacheState, IsShaped, IsSize, Pops, Pushes, after_change, cache_rounds, with_rounds}
use Rattle.magazine_layer.specs.Magazines.Pops.{Of_loaded, Of_previous}
use Rattle.magazine_layer.specs.Magazines.Pushes.{On_loaded, On_previous}
use Rattle.magazine_layer.specs.Rounds.{CpuDepot, MakesRoom, cpu_depot}
use Rattle.magazine_layer.specs.Rounds.GivesRound.{Made, No_room, Own_given}
use Rattle.magazine_layer.specs.Rounds.MakesRoom.{By_change, By_empty, By_new}
use Rattle.magazine_layer.specs.Rounds.TakesRound.{None_full, Old_size, Own_taken, Swapped}
use Rattle.magazine_layer.specs.declared.rounds.RoundAnswer.{RoundAnswer}
use Rattle.magazine_layer.specs.declared.rounds.RoundAnswer.TheVariants.{Kept, Nothing, Refused, Taken}
use Rattle.magazine_layer.specs.declared.rounds.RoundOp.TheVariants.{Give, Take}
use Rattle.std.proofs.Common.{All, List, [], ap, arith, inl, inr, length, length-append, refl, subst, sym, ℕ, ◌++◌, ◌+◌, ◌<◌, ◌∙◌, ◌∷◌, ◌≡◌, ◌≢◌, ◌≤◌, ◌⊎◌}
use Rattle.std.proofs.lemmas.List.Elements.{All-append, All-cons, All-head, All-nil}

pub record FitsFor (P : Tag → Type 0) (size : ℕ) (x : CpuCacheState) : Type 0 where
  pub shape : IsShaped x
  pub most : x.size ≤ size
  pub rounds : All P (cache_rounds x)

-- one size is more than twice any smaller one
pub double : (a b : ℕ) → IsSize a → IsSize b → a < b → a + a < b
double a b (inl p) (inl q) less = omega (arith, p, q, less)
double a b (inl p) (inr (inl q)) less = omega (arith, p, q, less)
double a b (inl p) (inr (inr (inl q))) less = omega (arith, p, q, less)
double a b (inl p) (inr (inr (inr q))) less = omega (arith, p, q, less)
double a b (inr (inl p)) (inl q) less = omega (arith, p, q, less)
double a b (inr (inl p)) (inr (inl q)) less = omega (arith, p, q, less)
double a b (inr (inl p)) (inr (inr (inl q))) less = omega (arith, p, q, less)
double a b (inr (inl p)) (inr (inr (inr q))) less = omega (arith, p, q, less)
double a b (inr (inr (inl p))) (inl q) less = omega (arith, p, q, less)
double a b (inr (inr (inl p))) (inr (inl q)) less = omega (arith, p, q, less)
double a b (inr (inr (inl p))) (inr (inr (inl q))) less = omega (arith, p, q, less)
double a b (inr (inr (inl p))) (inr (inr (inr q))) less = omega (arith, p, q, less)
double a b (inr (inr (inr p))) (inl q) less = omega (arith, p, q, less)
double a b (inr (inr (inr p))) (inr (inl q)) less = omega (arith, p, q, less)
double a b (inr (inr (inr p))) (inr (inr (inl q))) less = omega (arith, p, q, less)
double a b (inr (inr (inr p))) (inr (inr (inr q))) less = omega (arith, p, q, less)

abbrev cpu_of : CpuDepot → CpuCacheState
cpu_of s = s.cpu

-- one answer is no other
abbrev tag_in : Tag → RoundAnswer Tag → Tag
tag_in other (Taken t) = t
tag_in other Kept = other
tag_in other (Refused t) = other
tag_in other Nothing = other

nothing_not_taken : (t : Tag) → ◌≡◌ {A = RoundAnswer Tag} Nothing (Taken t) → ⊥
nothing_not_taken t e = cc

taken_not_nothing : (t : Tag) → ◌≡◌ {A = RoundAnswer Tag} (Taken t) Nothing → ⊥
taken_not_nothing t e = cc

kept_not_refused : (t : Tag) → ◌≡◌ {A = RoundAnswer Tag} Kept (Refused t) → ⊥
kept_not_refused t e = cc

-- the round that was taken is the CPU's, or of a full magazine of the depot's
pub round_taken : (t : Tag) (x y : CpuCacheState) (d e : DepotState) → AnswersRound Take (Taken t) d e x y → Pops t x y ⊎ (BothEmpty x × ((c : CpuCacheState) × SwapsForFull x d c e × Pops t c y))
round_taken t x y d e (count, Own_taken z pops same told none) = inl (subst (λ u. Pops u x y) (sym (ap (tag_in t) told)) pops)
round_taken t x y d e (count, Swapped z c empty swaps pops told one) = inr (empty, (c, swaps, subst (λ u. Pops u c y) (sym (ap (tag_in t) told)) pops))
round_taken t x y d e (count, None_full empty same none after told none_made) = absurd (taken_not_nothing t told)
round_taken t x y d e (count, Old_size empty ne after told none_made) = absurd (taken_not_nothing t told)

-- where there is none, the CPU has none, and the depot no full magazine of the CPU's size
pub no_round : (x y : CpuCacheState) (d e : DepotState) → AnswersRound Take Nothing d e x y → BothEmpty x × (x.size ≡ d.size → d.full ≡ [])
no_round x y d e (count, Own_taken t pops same told none) = absurd (nothing_not_taken t told)
no_round x y d e (count, Swapped t c empty swaps pops told one) = absurd (nothing_not_taken t told)
no_round x y d e (count, None_full empty same none after told none_made) = (empty, λ is. none)
no_round x y d e (count, Old_size empty ne after told none_made) = (empty, λ is. absurd (ne is))

length-last : (ts : List Tag) (t : Tag) → length (ts ++ t ∷ []) ≡ length ts + 1
length-last ts t = length-append ts (t ∷ [])

module _ (P : Tag → Type 0) (size : ℕ) where
  all_previous : (x : CpuCacheState) → FitsFor P size x → All P x.previous
  all_previous x fits = all_front P x.previous x.loaded fits.rounds

  all_loaded : (x : CpuCacheState) → FitsFor P size x → All P x.loaded
  all_loaded x fits = all_back P x.previous x.loaded fits.rounds

  -- with other rounds
  built : (x : CpuCacheState) (loaded previous : List Tag) → IsSize x.size → x.size ≤ size → length loaded ≤ x.size → ((length previous ≡ 0) ⊎ (length previous ≡ x.size)) → All P loaded → All P previous → FitsFor P size (with_rounds loaded previous x)
  built x loaded previous sized most fits whole first second = record {
    shape = record { sized = sized; most = fits; whole = whole };
    most = most;
    rounds = All-append P previous loaded second first;
  }

  pub pops_fit : (t : Tag) (x y : CpuCacheState) → FitsFor P size x → Pops t x y → FitsFor P size y
  pops_fit t x y fits (Of_loaded loaded after) =
      let count : length x.loaded ≡ length y.loaded + 1 = ap length loaded ∙ length-last y.loaded t in
      let room : length x.loaded ≤ x.size = fits.shape.most in
      subst (FitsFor P size) (sym after) (built x y.loaded x.previous fits.shape.sized fits.most (omega (arith, count, room)) fits.shape.whole (all_front P y.loaded (t ∷ []) (subst (All P) loaded (all_loaded x fits))) (all_previous x fits))
  pops_fit t x y fits (Of_previous none previous after) =
      let count : length x.previous ≡ length y.loaded + 1 = ap length previous ∙ length-last y.loaded t in
      let room : length y.loaded ≤ x.size = elim fits.shape.whole [
        | inl empty ↦ absurd (omega (arith, empty, count))
        | inr full ↦ omega (arith, full, count)
      ] in
      subst (FitsFor P size) (sym after) (built x y.loaded [] fits.shape.sized fits.most room (inl refl) (all_front P y.loaded (t ∷ []) (subst (All P) previous (all_previous x fits))) (All-nil P))

  pub pushes_fit : (t : Tag) (x y : CpuCacheState) → P t → FitsFor P size x → Pushes t x y → FitsFor P size y
  pushes_fit t x y is fits (On_loaded less after) =
      subst (FitsFor P size) (sym after) (built x (x.loaded ++ t ∷ []) x.previous fits.shape.sized fits.most (omega (arith, less, length-last x.loaded t)) fits.shape.whole (All-append P x.loaded (t ∷ []) (all_loaded x fits) (All-cons P t [] is (All-nil P))) (all_previous x fits))
  pushes_fit t x y is fits (On_previous full none after) =
      let some : 0 < x.size = size_some x.size fits.shape.sized in
      subst (FitsFor P size) (sym after) (built x (t ∷ []) x.loaded fits.shape.sized fits.most (omega (arith, some)) (inr full) (All-cons P t [] is (All-nil P)) (all_loaded x fits))

  -- loaded, which is full, is the previous one now, and an empty one is loaded
  exchanged_fit : (x y : CpuCacheState) → FitsFor P size x → BothFull x → y ≡ with_rounds [] x.loaded x → FitsFor P size y
  exchanged_fit x y fits full is = subst (FitsFor P size) (sym is) (built x [] x.loaded fits.shape.sized fits.most (omega arith) (inr full.loaded_full) (All-nil P) (all_loaded x fits))

  -- the sizes being others, to this one
  pub changed_fit : (x : CpuCacheState) → FitsFor P size x → IsSize size → x.size ≢ size → FitsFor P size (after_change size x)
  changed_fit x fits sized ne =
      let less : x.size < size = (let le = fits.most in omega (arith, le, ne)) in
      let twice = double x.size size fits.shape.sized sized less in
      let count : length (x.previous ++ x.loaded) ≡ length x.previous + length x.loaded = length-append x.previous x.loaded in
      let first : length x.loaded ≤ x.size = fits.shape.most in
      let second : length x.previous ≤ x.size = elim fits.shape.whole [
        | inl none ↦ omega (arith, none)
        | inr full ↦ omega (arith, full)
      ] in
      record {
        shape = record { sized = sized; most = omega (arith, twice, count, first, second); whole = inl refl };
        most = omega arith;
        rounds = fits.rounds;
      }

  -- room is made
  room_fits : (x y : CpuCacheState) (d e : DepotState) (exchanges : ℕ) → d.size ≡ size → IsSize size → FitsFor P size x → BothFull x → MakesRoom (cpu_depot x d) (cpu_depot y e) exchanges → FitsFor P size y
  room_fits x y d e exchanges is sized fits full (By_empty swaps count) = exchanged_fit x y fits full swaps.cache
  room_fits x y d e exchanges is sized fits full (By_new none puts count) = exchanged_fit x y fits full puts.cache
  room_fits x y d e exchanges is sized fits full (By_change ne after count) =
      let changed : y ≡ after_change size x = ap (λ (z : CpuDepot). z.cpu) after ∙ ap (λ n. after_change n x) is in
      subst (FitsFor P size) (sym changed) (changed_fit x fits sized (λ e. ne (e ∙ sym is)))

  pub keeps_fit : (t : Tag) (x y : CpuCacheState) (d e : DepotState) → d.size ≡ size → IsSize size → P t → FitsFor P size x → AnswersRound (Give t) Kept d e x y → FitsFor P size y
  keeps_fit t x y d e is sized so fits (count, Own_given pushes same told none) = pushes_fit t x y so fits pushes
  keeps_fit t x y d e is sized so fits (count, Made made full makes pushes same told) = pushes_fit t made.cpu y so (room_fits x made.cpu d made.depot count is sized fits full makes) pushes
  keeps_fit t x y d e is sized so fits (count, No_room full memory same told none) = absurd (kept_not_refused t told)

  -- a full magazine came
  full_fits : (x y : CpuCacheState) (d e : DepotState) → FitsFor P size x → BothEmpty x → All P (all_rounds d.full) → SwapsForFull x d y e → FitsFor P size y
  full_fits x y d e fits empty all swaps =
      let last : All P (all_rounds (e.full ++ y.loaded ∷ [])) = subst (λ ms. All P (all_rounds ms)) swaps.newest all in
      let rounds : All P y.loaded = All-head (λ m. All P m) y.loaded [] (all_back (λ m. All P m) e.full (y.loaded ∷ []) (each_all P (λ m. m) (e.full ++ y.loaded ∷ []) last)) in
      let none : length x.loaded ≡ 0 = ap length empty.loaded_empty in
      let whole : length y.loaded ≡ x.size = swaps.whole in
      subst (FitsFor P size) (sym swaps.cache) (built x y.loaded x.loaded fits.shape.sized fits.most (omega (arith, whole)) (inl none) rounds (all_loaded x fits))

  pub takes_fit : (t : Tag) (x y : CpuCacheState) (d e : DepotState) → All P (all_rounds d.full) → FitsFor P size x → AnswersRound Take (Taken t) d e x y → FitsFor P size y
  takes_fit t x y d e all fits takes = elim (round_taken t x y d e takes) [
    | inl pops ↦ pops_fit t x y fits pops
    | inr swapped ↦ pops_fit t swapped.1.0 y (full_fits x swapped.1.0 d e fits swapped.0 all swapped.1.1) swapped.1.2
  ]

  pub lacks_fit : (x y : CpuCacheState) (d : DepotState) → d.size ≡ size → IsSize size → FitsFor P size x → AnswersRound Take Nothing d d x y → FitsFor P size y
  lacks_fit x y d is sized fits (count, Own_taken t pops same told none) = absurd (nothing_not_taken t told)
  lacks_fit x y d is sized fits (count, Swapped t c empty swaps pops told one) = absurd (nothing_not_taken t told)
  lacks_fit x y d is sized fits (count, None_full empty same none after told none_made) = subst (FitsFor P size) (sym (ap cpu_of after)) fits
  lacks_fit x y d is sized fits (count, Old_size empty ne (inl after) told none_made) = subst (FitsFor P size) (sym (ap cpu_of after)) fits
  lacks_fit x y d is sized fits (count, Old_size empty ne (inr after) told none_made) =
      subst (FitsFor P size) (sym (ap cpu_of after ∙ ap (λ n. after_change n x) is)) (changed_fit x fits sized (λ e. ne (e ∙ sym is)))
