-- The CPUs, of which one has other caches.
-- all members of all rows are so where all of each are
use Rattle.lease_machine.specs.Held.{with_caches_of}
use Rattle.lease_machine.specs.Picture.{NumberedCpu, is_cpu}
use Rattle.local_parts.specs.Cpus.{cpu_rounds}
use Rattle.stock.specs.OwnCaches.{all_own_rounds, OwnCacheState, own_rounds}
use Rattle.std.proofs.Common.{All, AllPairs, Bool, List, None, Some, [], ap, arith, cond, false, filter, find, flat_map, get_or, length, map, not, refl, slice_get, suc, sym, true, ℕ, ◌++◌, ◌<◌, ◌==◌, ◌∙◌, ◌∷◌, ◌≡◌, ◌≢◌}
use Rattle.std.proofs.lemmas.Bool.Decides.{Decides-eqb}
use Rattle.std.proofs.lemmas.Grind.{flat_map-append}
use Rattle.std.proofs.lemmas.List.{get_or-map, length-map}
use Rattle.std.proofs.lemmas.List.Elements.{All-append, All-cons, All-head, All-map, All-nil, All-tail, All-weaker}
use Rattle.std.proofs.lemmas.Option.{get_or_from_slice_get, slice_get_within}

pub flat_all : {X Y : Type 0} (P : Y → Type 0) (g : X → List Y) (xs : List X) → All (λ x. All P (g x)) xs → All P (flat_map g xs)
flat_all P g [] each = All-nil P
flat_all P g (x ∷ xs) each = All-append P (g x) (flat_map g xs) (All-head (λ y. All P (g y)) x xs each) (flat_all P g xs (All-tail (λ y. All P (g y)) x xs each))

pub all_front : {Y : Type 0} (P : Y → Type 0) (xs ys : List Y) → All P (xs ++ ys) → All P xs
all_front P [] ys all = All-nil P
all_front P (x ∷ xs) ys all = All-cons P x xs (All-head P x (xs ++ ys) all) (all_front P xs ys (All-tail P x (xs ++ ys) all))

pub all_back : {Y : Type 0} (P : Y → Type 0) (xs ys : List Y) → All P (xs ++ ys) → All P ys
all_back P [] ys all = all
all_back P (x ∷ xs) ys all = all_back P xs ys (All-tail P x (xs ++ ys) all)

pub each_all : {X Y : Type 0} (P : Y → Type 0) (g : X → List Y) (xs : List X) → All P (flat_map g xs) → All (λ x. All P (g x)) xs
each_all P g [] all = All-nil (λ x. All P (g x))
each_all P g (x ∷ xs) all = All-cons (λ y. All P (g y)) x xs (all_front P (g x) (flat_map g xs) all) (each_all P g xs (all_back P (g x) (flat_map g xs) all))

-- the rounds of a CPU, told in two ways
pub rounds_flat : (rows : List (List OwnCacheState)) → cpu_rounds rows ≡ all_own_rounds (flat_map (λ row. row) rows)
rounds_flat [] = refl
rounds_flat (row ∷ rows) = ap (λ ts. all_own_rounds row ++ ts) (rounds_flat rows) ∙ sym (flat_map-append own_rounds row (flat_map (λ r. r) rows))

abbrev pub with_rows : List (List OwnCacheState) → NumberedCpu → NumberedCpu
with_rows rows c = record { number = c.number; caches = rows }

-- a list of CPUs round one of them
pub record Round (n : ℕ) (rows : List (List OwnCacheState)) (cs : List NumberedCpu) (c : NumberedCpu) : Type 0 where
  pub front : List NumberedCpu
  pub back : List NumberedCpu
  pub is : cs ≡ front ++ c ∷ back
  pub then_is : map (with_caches_of n rows) cs ≡ front ++ with_rows rows c ∷ back
  pub number : c.number ≡ n

module _ (n : ℕ) (rows : List (List OwnCacheState)) where
  abbrev becomes : NumberedCpu → NumberedCpu
  becomes c = with_caches_of n rows c

  abbrev by_test : Bool → NumberedCpu → NumberedCpu
  by_test b c = cond b (with_rows rows c) c

  none_later : (cs : List NumberedCpu) → find (is_cpu n) cs ≡ None → map becomes cs ≡ cs
  none_later [] none = refl
  none_later (x ∷ xs) none = by (is_cpu n x) refl (none_later xs)
    where
      by : (b : Bool) → is_cpu n x ≡ b → (find (is_cpu n) xs ≡ None → map becomes xs ≡ xs) → map becomes (x ∷ xs) ≡ x ∷ xs
      by true is again = absurd (let e : Some x ≡ None = sym (ap (λ b. cond b (Some x) (find (is_cpu n) xs)) is) ∙ none in cc)
      by false is again =
          let rest : find (is_cpu n) xs ≡ None = sym (ap (λ b. cond b (Some x) (find (is_cpu n) xs)) is) ∙ none in
          ap (λ b. by_test b x ∷ map becomes xs) is ∙ ap (λ ys. x ∷ ys) (again rest)

  apart_none : (cs : List NumberedCpu) → ((i : ℕ) (x : NumberedCpu) → slice_get cs i ≡ Some x → x.number ≢ n) → find (is_cpu n) cs ≡ None
  apart_none [] apart = refl
  apart_none (x ∷ xs) apart = ap (λ b. cond b (Some x) (find (is_cpu n) xs)) (not_it (is_cpu n x) refl) ∙ apart_none xs (λ i y at. apart (suc i) y at)
    where
      not_it : (b : Bool) → is_cpu n x ≡ b → is_cpu n x ≡ false
      not_it true is = absurd (apart 0 x refl ((Decides-eqb x.number n).0 is))
      not_it false is = is

  pub round : (cs : List NumberedCpu) (c : NumberedCpu) → find (is_cpu n) cs ≡ Some c → AllPairs (λ a b. a.number ≢ b.number) cs → Round n rows cs c
  round [] c found apart = absurd (let e : None ≡ Some c = found in cc)
  round (x ∷ xs) c found apart = by (is_cpu n x) refl (λ later. round xs c later tail)
    where
      tail : AllPairs (λ (a b : NumberedCpu). a.number ≢ b.number) xs
      tail = λ i j d less within. apart (suc i) (suc j) d (omega (arith, less)) (omega (arith, within))

      by : (b : Bool) → is_cpu n x ≡ b → (find (is_cpu n) xs ≡ Some c → Round n rows xs c) → Round n rows (x ∷ xs) c
      by true is again =
          let e : Some x ≡ Some c = sym (ap (λ b. cond b (Some x) (find (is_cpu n) xs)) is) ∙ found in
          let same : x ≡ c = cc in
          let number : x.number ≡ n = (Decides-eqb x.number n).0 is in
          let none : find (is_cpu n) xs ≡ None = apart_none xs (λ i y at same_number.
          apart 0 (suc i) y (omega arith) (omega (arith, slice_get_within xs i y at)) (number ∙ sym (ap (λ (z : NumberedCpu). z.number) (get_or_from_slice_get xs i y y at) ∙ same_number))) in
          record {
            front = [];
            back = xs;
            is = ap (λ z. z ∷ xs) same;
            then_is = ap (λ b. by_test b x ∷ map becomes xs) is ∙ (ap (λ ys. with_rows rows x ∷ ys) (none_later xs none) ∙ ap (λ z. with_rows rows z ∷ xs) same);
            number = ap (λ (z : NumberedCpu). z.number) (sym same) ∙ number;
          }
      by false is again =
          let later : find (is_cpu n) xs ≡ Some c = sym (ap (λ b. cond b (Some x) (find (is_cpu n) xs)) is) ∙ found in
          let r = again later in
          record {
            front = x ∷ r.front;
            back = r.back;
            is = ap (λ ys. x ∷ ys) r.is;
            then_is = ap (λ b. by_test b x ∷ map becomes xs) is ∙ ap (λ ys. x ∷ ys) r.then_is;
            number = r.number;
          }

  -- it is found among them
  pub found_then : (cs : List NumberedCpu) (c : NumberedCpu) → find (is_cpu n) cs ≡ Some c → find (is_cpu n) (map becomes cs) ≡ Some (with_rows rows c)
  found_then [] c found = absurd (let e : None ≡ Some c = found in cc)
  found_then (x ∷ xs) c found = by (is_cpu n x) refl (found_then xs c)
    where
      by : (b : Bool) → is_cpu n x ≡ b → (find (is_cpu n) xs ≡ Some c → find (is_cpu n) (map becomes xs) ≡ Some (with_rows rows c)) → find (is_cpu n) (map becomes (x ∷ xs)) ≡ Some (with_rows rows c)
      by true is again =
          let e : Some x ≡ Some c = sym (ap (λ b. cond b (Some x) (find (is_cpu n) xs)) is) ∙ found in
          let same : x ≡ c = cc in
          ap (λ b. find (is_cpu n) (by_test b x ∷ map becomes xs)) is ∙ (ap (λ b. cond b (Some (with_rows rows x)) (find (is_cpu n) (map becomes xs))) is ∙ ap (λ z. Some (with_rows rows z)) same)
      by false is again =
          let later : find (is_cpu n) xs ≡ Some c = sym (ap (λ b. cond b (Some x) (find (is_cpu n) xs)) is) ∙ found in
          ap (λ b. find (is_cpu n) (by_test b x ∷ map becomes xs)) is ∙ (ap (λ b. cond b (Some x) (find (is_cpu n) (map becomes xs))) is ∙ again later)

  -- the numbers stay, and so do the others
  number_stays : (x : NumberedCpu) → (becomes x).number ≡ x.number
  number_stays x = by (is_cpu n x)
    where
      by : (b : Bool) → (by_test b x).number ≡ x.number
      by true = refl
      by false = refl

  pub numbers_stay : (cs : List NumberedCpu) → map (λ (c : NumberedCpu). c.number) (map becomes cs) ≡ map (λ (c : NumberedCpu). c.number) cs
  numbers_stay [] = refl
  numbers_stay (x ∷ xs) = ap (λ m. m ∷ map (λ (c : NumberedCpu). c.number) (map becomes xs)) (number_stays x) ∙ ap (λ ms. x.number ∷ ms) (numbers_stay xs)

  abbrev others_in : List NumberedCpu → List NumberedCpu
  others_in cs = filter (λ (c : NumberedCpu). not (is_cpu n c)) cs

  pub others_stay_so : (cs : List NumberedCpu) → others_in (map becomes cs) ≡ others_in cs
  others_stay_so [] = refl
  others_stay_so (x ∷ xs) = by (is_cpu n x) refl (others_stay_so xs)
    where
      by : (b : Bool) → is_cpu n x ≡ b → others_in (map becomes xs) ≡ others_in xs → others_in (map becomes (x ∷ xs)) ≡ others_in (x ∷ xs)
      by true is again =
          ap (λ b. others_in (by_test b x ∷ map becomes xs)) is ∙ (ap (λ b. cond (not b) (with_rows rows x ∷ others_in (map becomes xs)) (others_in (map becomes xs))) is ∙ (again ∙ sym (ap (λ b. cond (not b) (x ∷ others_in xs) (others_in xs)) is)))
      by false is again =
          ap (λ b. others_in (by_test b x ∷ map becomes xs)) is ∙ ap (λ ys. cond (not (is_cpu n x)) (x ∷ ys) ys) again

  pub numbers_apart : (cs : List NumberedCpu) → AllPairs (λ a b. a.number ≢ b.number) cs → AllPairs (λ a b. a.number ≢ b.number) (map becomes cs)
  numbers_apart cs apart i j d less within same =
      let short : j < length cs = omega (arith, within, length-map cs becomes) in
      let first : get_or (map becomes cs) i d ≡ becomes (get_or cs i d) = get_or-map becomes cs i d d (omega (arith, less, short)) in
      let second : get_or (map becomes cs) j d ≡ becomes (get_or cs j d) = get_or-map becomes cs j d d short in
      apart i j d less short (sym (ap (λ (c : NumberedCpu). c.number) first ∙ number_stays (get_or cs i d)) ∙ (same ∙ (ap (λ (c : NumberedCpu). c.number) second ∙ number_stays (get_or cs j d))))

  -- what all are, and the one is then, all are then
  pub all_become : (P : NumberedCpu → Type 0) (cs : List NumberedCpu) → All P cs → ((c : NumberedCpu) → P c → P (with_rows rows c)) → All P (map becomes cs)
  all_become P cs all one = All-map P becomes cs (All-weaker P (λ c. P (becomes c)) (λ c is. by c (is_cpu n c) is) cs all)
    where
      by : (c : NumberedCpu) (b : Bool) → P c → P (by_test b c)
      by c true is = one c is
      by c false is = is

  -- whichever is found, is found
  pub still_found : (m : ℕ) (cs : List NumberedCpu) → find (is_cpu m) cs ≢ None → find (is_cpu m) (map becomes cs) ≢ None
  still_found m [] some = some
  still_found m (x ∷ xs) some = by (is_cpu m x) refl (still_found m xs)
    where
      same : is_cpu m (becomes x) ≡ is_cpu m x
      same = ap (λ k. k == m) (number_stays x)

      by : (b : Bool) → is_cpu m x ≡ b → (find (is_cpu m) xs ≢ None → find (is_cpu m) (map becomes xs) ≢ None) → find (is_cpu m) (map becomes (x ∷ xs)) ≢ None
      by true is again none = (let e : Some (becomes x) ≡ None = sym (ap (λ b. cond b (Some (becomes x)) (find (is_cpu m) (map becomes xs))) (same ∙ is)) ∙ none in cc)
      by false is again none =
          again (λ gone. some (ap (λ b. cond b (Some x) (find (is_cpu m) xs)) is ∙ gone)) (sym (ap (λ b. cond b (Some (becomes x)) (find (is_cpu m) (map becomes xs))) (same ∙ is)) ∙ none)
