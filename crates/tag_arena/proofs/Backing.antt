-- That what is allocated can come back.
use Rattle.std.proofs.Common.{◌≡◌, ℕ, ◌+◌, ◌<◌, ◌≤◌, ap, ◌∙◌, [], ◌∷◌, ◌++◌, length, Option, None, Some, option_to_list, arith}
use Rattle.std.proofs.lemmas.List.{length_push, length-append}
use Rattle.deed_core.specs.Holding.{Holding}
use Rattle.tag_arena.specs.declared.policies.Policy.{Policy}
use Rattle.tag_arena.specs.FreeRanges.{FreeIndexState, IsBacked}

one_at_most : (o : Option Holding) → length (option_to_list o) ≤ 1
one_at_most None = omega arith
one_at_most (Some h) = omega arith

module _ (policy : Policy) (old more : FreeIndexState) (rest : more ≡ record old { room = more.room; ticks = more.ticks }) where
  -- more room, and time for more
  pub backed_more : (out : ℕ) → (old.room ≤ more.room) × (old.ticks ≤ more.ticks) → IsBacked policy old out → IsBacked policy more out
  backed_more out grows b =
      let l = ap (λ v. length v.ranges) rest in
      record {
        policy_is = ap (λ v. v.policy) rest ∙ b.policy_is;
        room = omega (arith, b.room, grows.0, l);
        ticks = omega (arith, b.ticks, grows.1);
      }

  -- and nothing else
  pub backed_back : (new : FreeIndexState) (out now : ℕ) → (old.room ≤ more.room) × (old.ticks ≤ more.ticks) → new ≡ more → now ≡ out → IsBacked policy old out → IsBacked policy new now
  backed_back new out now grows same len b =
      let m = backed_more out grows b in
      let l = ap (λ v. length v.ranges) same in
      let t = ap (λ v. v.ticks) same in
      let r = ap (λ v. v.room) same in
      record {
        policy_is = ap (λ v. v.policy) same ∙ m.policy_is;
        room = omega (arith, m.room, l, r, len);
        ticks = omega (arith, m.ticks, t, len);
      }

  -- one more is out, and one more is free
  pub backed_carve : (new : FreeIndexState) (out now : ℕ) → length more.ranges + out + 2 ≤ more.room → out + 2 < more.ticks → (new.policy ≡ more.policy) × (new.room ≡ more.room) → length new.ranges ≤ length more.ranges + 1 → more.ticks ≤ new.ticks + 2
      → now ≡ out + 1 → IsBacked policy old out → IsBacked policy new now
  backed_carve new out now room ticks setup len spent is b =
      let r = setup.1 in
      record {
        policy_is = setup.0 ∙ (ap (λ v. v.policy) rest ∙ b.policy_is);
        room = omega (arith, room, len, r, is);
        ticks = omega (arith, ticks, spent, is);
      }

  -- one more is free
  pub backed_insert : (new : FreeIndexState) (h : Holding) (out : ℕ) → length more.ranges + out + 1 ≤ more.room → out + 1 < more.ticks → new.ranges ≡ more.ranges ++ h ∷ [] → new.policy ≡ more.policy → new.room ≡ more.room → new.ticks + 1 ≡ more.ticks
      → IsBacked policy old out → IsBacked policy new out
  backed_insert new h out room ticks is policy_is room_is spent b =
      let l = ap length is ∙ length_push more.ranges h in
      record {
        policy_is = policy_is ∙ (ap (λ v. v.policy) rest ∙ b.policy_is);
        room = omega (arith, room, l, room_is);
        ticks = omega (arith, ticks, spent);
      }

  -- a rest may be free, and one more is out
  pub backed_import : (new : FreeIndexState) (o : Option Holding) (out now : ℕ) → length more.ranges + out + 2 ≤ more.room → out + 2 < more.ticks → new.ranges ≡ more.ranges ++ option_to_list o → new.policy ≡ more.policy → new.room ≡ more.room → more.ticks ≤ new.ticks + 1
      → now ≡ out + 1 → IsBacked policy old out → IsBacked policy new now
  backed_import new o out now room ticks is policy_is room_is spent len b =
      let l = ap length is ∙ length-append more.ranges (option_to_list o) in
      record {
        policy_is = policy_is ∙ (ap (λ v. v.policy) rest ∙ b.policy_is);
        room = omega (arith, room, l, room_is, one_at_most o, len);
        ticks = omega (arith, ticks, spent, len);
      }

-- one came back
pub backed_free : (policy : Policy) (old new : FreeIndexState) (out now : ℕ) → length new.ranges ≤ length old.ranges + 1 → (new.policy ≡ old.policy) × (new.room ≡ old.room) → old.ticks ≤ new.ticks + 1 → now + 1 ≡ out → IsBacked policy old out → IsBacked policy new now
backed_free policy old new out now len setup spent is b =
    let r = setup.1 in
    record {
      policy_is = setup.0 ∙ b.policy_is;
      room = omega (arith, b.room, len, r, is);
      ticks = omega (arith, b.ticks, spent, is);
    }

-- one free range was taken out
pub backed_take : (policy : Policy) (old new : FreeIndexState) (out : ℕ) → length new.ranges ≤ length old.ranges → new.policy ≡ old.policy → new.room ≡ old.room → new.ticks ≡ old.ticks → IsBacked policy old out → IsBacked policy new out
backed_take policy old new out len policy_is room_is ticks_is b = record {
  policy_is = policy_is ∙ b.policy_is;
  room = omega (arith, b.room, len, room_is);
  ticks = omega (arith, b.ticks, ticks_is);
}
