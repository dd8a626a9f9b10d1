-- What a search for a byte says of the places before it.
use Rattle.std.proofs.Common.{◌≡◌, ◌≢◌, ℕ, ◌<◌, List, get_or, arith}
use Rattle.std.proofs.lemmas.Bool.{eq-eqb, eqb-true}
use Rattle.memchr.specs.Find.{Nowhere, Passes, is_byte}

pub is_there : (byte : ℕ) (bytes : List ℕ) (i : ℕ) → Passes (is_byte byte) bytes i → get_or bytes i 0 ≡ byte
is_there byte bytes i passes = eqb-true _ _ passes

pub none_below : (byte : ℕ) (bytes : List ℕ) (n : ℕ) → Nowhere (Passes (is_byte byte) bytes) 0 n → (k : ℕ) → k < n → get_or bytes k 0 ≢ byte
none_below byte bytes n nowhere = λ k below is. nowhere k (omega arith) below (eq-eqb _ _ is)
