-- The finite map that a list of entries makes, against a look-up in the list.
use Rattle.std.proofs.Common.{◌≡◌, ℕ, cond, nat_eq, refl, sym, ap, ◌∙◌, List, [], ◌∷◌, Some, None}
use Rattle.std.specs.Ordering.{nat_cmp, eq_by_cmp}
use Rattle.std.specs.Cmp.{unsigned_tied, eq_by_cmp_equiv, nat_cmp_total}
use Rattle.std.specs.Map.{lookup}
use Rattle.std.specs.FinMap.{find, get, insert, remove, from_entries, get-from_entries, get-insert, get-remove, same_map, nat_cmp-IsAntisymmetric}

pub turned : (k q : ℕ) → nat_eq k q ≡ eq_by_cmp nat_cmp q k
turned k q = sym (unsigned_tied k q) ∙ (eq_by_cmp_equiv nat_cmp_total).symm k q

module _ {X : Type 0} where
  find_length : (es : List (ℕ × X)) (q : ℕ) → find nat_cmp q es ≡ lookup (nat_eq q) es
  find_length [] q = refl
  find_length (e ∷ es) q = ap (λ b. cond b (Some e.1) (find nat_cmp q es)) (unsigned_tied q e.0) ∙ ap (cond (nat_eq q e.0) (Some e.1)) (find_length es q)

  -- what the map has at a key
  pub get_length : (es : List (ℕ × X)) (q : ℕ) → get (from_entries {R = nat_cmp} es) q ≡ lookup (nat_eq q) es
  get_length es q = get-from_entries nat_cmp_total es q ∙ find_length es q

  -- entries that differ at one key make maps that differ there
  pub one_put : (es fs : List (ℕ × X)) (k : ℕ) (v : X) → ((q : ℕ) → lookup (nat_eq q) fs ≡ cond (nat_eq k q) (Some v) (lookup (nat_eq q) es)) → from_entries {R = nat_cmp} fs ≡ insert (from_entries es) k v
  one_put es fs k v h = same_map nat_cmp_total nat_cmp-IsAntisymmetric _ _ (λ q.
      get_length fs q ∙ h q ∙ ap (λ b. cond b (Some v) (lookup (nat_eq q) es)) (turned k q)
      ∙ sym (get-insert nat_cmp_total (from_entries es) k v q ∙ ap (cond (eq_by_cmp nat_cmp q k) (Some v)) (get_length es q)))

  pub one_taken : (es fs : List (ℕ × X)) (k : ℕ) → ((q : ℕ) → lookup (nat_eq q) fs ≡ cond (nat_eq k q) None (lookup (nat_eq q) es)) → from_entries {R = nat_cmp} fs ≡ remove (from_entries es) k
  one_taken es fs k h = same_map nat_cmp_total nat_cmp-IsAntisymmetric _ _ (λ q.
      get_length fs q ∙ h q ∙ ap (λ b. cond b None (lookup (nat_eq q) es)) (turned k q)
      ∙ sym (get-remove nat_cmp_total (from_entries es) k q ∙ ap (cond (eq_by_cmp nat_cmp q k) None) (get_length es q)))

  -- entries that tell the same at each key make the same map
  pub same_length : (es fs : List (ℕ × X)) → ((q : ℕ) → lookup (nat_eq q) fs ≡ lookup (nat_eq q) es) → from_entries {R = nat_cmp} fs ≡ from_entries es
  same_length es fs h = same_map nat_cmp_total nat_cmp-IsAntisymmetric _ _ (λ q. get_length fs q ∙ h q ∙ sym (get_length es q))
