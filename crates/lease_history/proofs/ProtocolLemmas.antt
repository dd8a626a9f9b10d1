-- The protocol that stands for an incarnation.
use Rattle.std.proofs.Common.{◌≡◌, ℕ, ◌≤◌, ◌==◌, ◌&&◌, Bool, true, false, cond, List, [], ◌∷◌, Option, Some, refl, sym, ap, ◌∙◌, arith, eq-eqb}
use Rattle.std.proofs.lemmas.Bool.{eqb-true}
use Rattle.lease_terms.specs.declared.protocols.Protocol.{Protocol}
use Rattle.lease_terms.specs.declared.protocols.Protocol.TheVariants.{One}
use Rattle.lease_book.specs.Entry.{Entry, Hello, Settled, Swept}
use Rattle.lease_book.specs.History.{incarnation, first_protocol, or_else, AreOrderly}
use Rattle.lease_history.specs.Laws.{WelcomesMayBeTold}

-- a later hello doesn't change it
pub first_stays : (e : Entry) (es : List Entry) (c i : ℕ) (p : Protocol) → first_protocol c i es ≡ Some p → first_protocol c i (e ∷ es) ≡ Some p
first_stays (Settled id s) es c i p first = first
first_stays (Swept d j a b) es c i p first = first
first_stays (Hello d j q) es c i p first = by ((c == d) && (i == j))
  where
    by : (b : Bool) → cond b (Some (or_else q (first_protocol c i es))) (first_protocol c i es) ≡ Some p
    by true = λ k. Some (or_else q (first k))
    by false = first

-- an incarnation that has one isn't to come
pub begun_already : (c i : ℕ) (p : Protocol) (es : List Entry) → AreOrderly es → first_protocol c i es ≡ Some p → i ≤ incarnation c es
begun_already c i p [] orderly first = absurd cc
begun_already c i p (Settled id s ∷ older) orderly first = begun_already c i p older orderly.4 first
begun_already c i p (Swept d j a b ∷ older) orderly first = begun_already c i p older orderly.1 first
begun_already c i p (Hello d j q ∷ older) orderly first = by (c == d) (i == j) refl refl first (begun_already c i p older orderly.2)
  where
    by : (own now : Bool) → (c == d) ≡ own → (i == j) ≡ now → cond (own && now) (Some (or_else q (first_protocol c i older))) (first_protocol c i older) ≡ Some p
        → (first_protocol c i older ≡ Some p → i ≤ incarnation c older) → i ≤ cond own j (incarnation c older)
    by true true own now first rest = omega (arith, eqb-true i j now)
    by true false own now first rest =
        let same : incarnation c older ≡ incarnation d older = ap (λ (n : ℕ). incarnation n older) (eqb-true c d own) in
        omega (arith, rest first, same, orderly.1)
    by false now own is first rest = rest first

pub welcomes_may_be_told : WelcomesMayBeTold
welcomes_may_be_told names es c i p = own ∙ sym (ap (λ (n : ℕ). Some (or_else One (first_protocol c n said))) now ∙ ap (λ (o : Option Protocol). Some (or_else One o)) own)
  where
    said : List Entry
    said = Hello c i p ∷ es

    own : first_protocol c i said ≡ Some (or_else p (first_protocol c i es))
    own = λ j. cond (eq-eqb c c refl j && eq-eqb i i refl j) (Some (or_else p (first_protocol c i es))) (first_protocol c i es)

    now : incarnation c said ≡ i
    now = λ j. cond (eq-eqb c c refl j) i (incarnation c es)
