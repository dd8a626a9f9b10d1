-- Paths of events, put together.
use Rattle.std.proofs.Common.{◌≡◌, ℕ, ◌+◌, ◌≤◌, List, Option, Some, None, Bool, true, false, arith, refl, sym, ap, subst, ◌∙◌}
use Rattle.deed_core.specs.Tag.{Tag}
use Rattle.arena_tree.specs.Chains.{Node}
use Rattle.arena_tree.specs.Events.{Event, AnswerTo, BeginsWith, hand_after, locks}
use Rattle.arena_tree.specs.Sound.{Sound}
use Rattle.arena_tree.specs.Stops.{is_stopped, Counts}
use Rattle.arena_tree.specs.Plans.{Plan, Done, Ask, then, or_else, Step, Path, Ran, Within, Handles, Gives}

module _ {S : Type 0} (step : S → (e : Event) → AnswerTo e → S → Type 0) where
  pub path_then : {A B : Type 0} (p : Plan A) (next : A → Plan B) (s m t : S) (a : A) (b : B) → Path step p s m a → Path step (next a) m t b → Path step (then p next) s t b
  path_then (Done c) next s m t a b d q = subst (λ x. Path step (next x) s t b) (sym d.1) (subst (λ x. Path step (next a) x t b) (sym d.0) q)
  path_then (Ask e f) next s m t a b d q = (d.0, d.1, d.2, path_then (f d.1) next d.0 m t a b d.3 q)

  -- the converse: where the first list of steps ended
  pub path_split : {A B : Type 0} (p : Plan A) (next : A → Plan B) (s t : S) (b : B) → Path step (then p next) s t b → (m : S) × (a : A) × Path step p s m a × Path step (next a) m t b
  path_split (Done a) next s t b d = (s, a, (refl, refl), d)
  path_split (Ask e f) next s t b d = let r = path_split (f d.1) next d.0 t b d.3 in (r.0, r.1, (d.0, d.1, d.2, r.2), r.3)

  -- what each event keeps, with the hand that it leaves, the whole keeps
  pub path_keeps : {A : Type 0} (weight : S → Option Tag → ℕ) (left : A → Option Tag) → ((s : S) (h : Option Tag) (e : Event) (x : AnswerTo e) (t : S) → BeginsWith e h → step s e x t → weight t (hand_after e x h) ≡ weight s h)
      → (p : Plan A) (s t : S) (h : Option Tag) (a : A) → Path step p s t a → Handles left p h → weight t (left a) ≡ weight s h
  path_keeps weight left keeps (Done b) s t h a d k = sym (ap (λ x. weight x h) d.0 ∙ (ap (weight t) k ∙ ap (λ x. weight t (left x)) d.1))
  path_keeps weight left keeps (Ask e f) s t h a d k = path_keeps weight left keeps (f d.1) d.0 t (hand_after e d.1 h) a d.3 (k.1 d.1) ∙ keeps s h e d.1 d.0 k.0 d.2

-- by at most its locks
counts_low : (stopped : Bool) (locks old new : ℕ) → Counts stopped locks old new → new ≤ old + locks
counts_low true locks old new is = omega (arith, is)
counts_low false locks old new is = omega (arith, is)

module _ {S : Type 0} (step : S → (e : Event) → AnswerTo e → S → Type 0) (tree : S → List Node) (count : S → ℕ) (rounds : S → ℕ) where
  pub ran_done : {A : Type 0} (s : S) (a : A) → Ran step tree count rounds (Done a) s s a
  ran_done s a = record { path = (refl, refl) }

  pub ran_ask : {A : Type 0} (e : Event) (f : AnswerTo e → Plan A) (s m t : S) (x : AnswerTo e) (a : A) → Step step tree count rounds s e x m → Ran step tree count rounds (f x) m t a → Ran step tree count rounds (Ask e f) s t a
  ran_ask e f s m t x a d r = record { path = (m, x, d, r.path) }

  pub ran_then : {A B : Type 0} (p : Plan A) (next : A → Plan B) (s m t : S) (a : A) (b : B) → Ran step tree count rounds p s m a → Ran step tree count rounds (next a) m t b → Ran step tree count rounds (then p next) s t b
  ran_then p next s m t a b r q = record { path = path_then (Step step tree count rounds) p next s m t a b r.path q.path }

  -- a stage gives the answer
  pub ran_gives : {A : Type 0} (p : Plan (Option A)) (q : Plan A) (s t : S) (a : A) → Ran step tree count rounds p s t (Some a) → Ran step tree count rounds (then p (or_else q)) s t a
  ran_gives p q s t a r = ran_then p (or_else q) s t t (Some a) a r (ran_done t a)

  -- a stage gives nothing, and the next ones follow
  pub ran_goes_on : {A : Type 0} (p : Plan (Option A)) (q : Plan A) (s m t : S) (a : A) → Ran step tree count rounds p s m None → Ran step tree count rounds q m t a → Ran step tree count rounds (then p (or_else q)) s t a
  ran_goes_on p q s m t a r r' = ran_then p (or_else q) s m t None a r r'

  -- the count rises by no more than the list of steps allows
  path_counts : {A : Type 0} (most : A → ℕ) (p : Plan A) (n : ℕ) (s t : S) (a : A) → Path (Step step tree count rounds) p s t a → Within most p n → count t + n ≤ count s + most a
  path_counts most (Done b) n s t a d w = let e : n ≤ most a = subst (λ x. n ≤ most x) d.1 w in let f : count s ≡ count t = ap count d.0 in omega arith
  path_counts most (Ask e f) n s t a d w = let h = path_counts most (f d.1) (n + locks e) d.0 t a d.3 (w d.1) in let g = counts_low (is_stopped e d.1) (locks e) (count s) (count d.0) d.2.counted in omega (arith, h, g)

  pub ran_counts : {A : Type 0} (most : A → ℕ) (p : Plan A) (s t : S) (a : A) → Ran step tree count rounds p s t a → Within most p 0 → count t ≤ count s + most a
  ran_counts most p s t a r w = omega (arith, path_counts most p 0 s t a r.path w)

  path_posts : {A : Type 0} (post : A → Type 0) (nodes : List Node) (p : Plan A) (s t : S) (a : A) → nodes ≡ tree s → Path (Step step tree count rounds) p s t a → Gives nodes post p → post a
  path_posts post nodes (Done b) s t a n d w = subst post d.1 w
  path_posts post nodes (Ask e f) s t a n d w = path_posts post nodes (f d.1) d.0 t a (n ∙ sym d.2.same_tree) d.3 (w d.1 (subst (λ ns. Sound ns e d.1) (sym n) d.2.sound))

  -- what every sound list of answers leads to
  pub ran_posts : {A : Type 0} (post : A → Type 0) (p : Plan A) (s t : S) (a : A) → Ran step tree count rounds p s t a → Gives (tree s) post p → post a
  ran_posts post p s t a r w = path_posts post (tree s) p s t a refl r.path w

pub gives_then : {A B : Type 0} (nodes : List Node) (post : A → Type 0) (post' : B → Type 0) (p : Plan A) (next : A → Plan B) → Gives nodes post p → ((a : A) → post a → Gives nodes post' (next a)) → Gives nodes post' (then p next)
gives_then nodes post post' (Done a) next w f = f a w
gives_then nodes post post' (Ask e g) next w f = λ x s. gives_then nodes post post' (g x) next (w x s) f

-- the bounds of two lists of steps
pub within_then : {A B : Type 0} (most : A → ℕ) (most' : B → ℕ) (p : Plan A) (next : A → Plan B) (n : ℕ) → Within most p n → ((a : A) (m : ℕ) → m ≤ most a → Within most' (next a) m) → Within most' (then p next) n
within_then most most' (Done a) next n w f = f a n w
within_then most most' (Ask e g) next n w f = λ x. within_then most most' (g x) next (n + locks e) (w x) f

pub handles_then : {A B : Type 0} (left : A → Option Tag) (left' : B → Option Tag) (p : Plan A) (next : A → Plan B) (h : Option Tag) → Handles left p h → ((a : A) → Handles left' (next a) (left a)) → Handles left' (then p next) h
handles_then left left' (Done a) next h k f = subst (Handles left' (next a)) (sym k) (f a)
handles_then left left' (Ask e g) next h k f = (k.0, λ x. handles_then left left' (g x) next (hand_after e x h) (k.1 x) f)

-- a list of steps goes on as the code does
pub ruleset ran_on = (ran_then, ran_ask, ran_done)
