-- A line's list of steps over a stock, a CPU and a book that are lent, as one over their states.
use Rattle.std.proofs.Common.{◌≡◌, ◌∙◌, ℕ, List, refl, ap, subst}
use Rattle.arena_tree.specs.Chains.{Node}
use Rattle.arena_tree.specs.Events.{Event, AnswerTo}
use Rattle.arena_tree.specs.Plans.{Step}
use Rattle.arena_tree.specs.Sound.{Sound}
use Rattle.arena_tree.specs.Trees.{nodes_of}
use Rattle.arena_tree.specs.declared.trees.TreeArena.{TreeArena}
use Rattle.lease_book.specs.BookState.{BookState}
use Rattle.lease_call.specs.Calls.{BookCall, AnswerOf}
use Rattle.lease_call.specs.CallPlans.{CallPlan, Done, Part, Call, BookStep, CallPath, CallRan}
use Rattle.local_parts.specs.States.{LocalState}
use Rattle.local_parts.specs.Steps.{LocalStep}
use Rattle.stock.specs.OwnCaches.{OwnCacheState}
use Rattle.stock.specs.Spaces.{SpaceState}
use Rattle.lease_machine.specs.Conversations.{BookDoes, RunsCall}
use Rattle.stock_desk.specs.Supplies.{local_of}

module _ {B P D : Type 0} (arenas : List TreeArena) (read : B → BookState) (see : P → LocalState) (part : P → (e : Event) → AnswerTo e → P → Type 0) (tree : P → List Node) (count rounds : P → ℕ) (book : B → P → (k : BookCall) → AnswerOf D k → B → P → Type 0)
    (parts : (s t : P) (e : Event) (x : AnswerTo e) → part s e x t → LocalStep (see s) e x (see t)) (books : (b c : B) (s t : P) (k : BookCall) (x : AnswerOf D k) → book b s k x c t → BookDoes D (read b) (see s) k x (read c) (see t)) where
  path_seen : {A : Type 0} (p : CallPlan D A) (b : B) (s : P) (c : B) (t : P) (a : A) → tree s ≡ nodes_of arenas → CallPath (Step part tree count rounds) (BookStep book tree count rounds) p b s c t a → RunsCall arenas p (read b) (see s) (read c) (see t) a
  path_seen (Done y) b s c t a k d = (ap read d.0, ap see d.1, d.2)
  path_seen (Part e f) b s c t a k d =
      (see d.0, d.1, record { step = parts s d.0 e d.1 d.2.does; sound = subst (λ ns. Sound ns e d.1) k d.2.sound }, path_seen (f d.1) b d.0 c t a (d.2.same_tree ∙ k) d.3)
  path_seen (Call q f) b s c t a k d =
      (read d.0, see d.1, d.2, books b d.0 s d.1 q d.2 d.3.does, path_seen (f d.2) d.0 d.1 c t a (d.3.same_tree ∙ k) d.4)

  pub call_seen : {A : Type 0} (p : CallPlan D A) (b : B) (s : P) (c : B) (t : P) (a : A) → tree s ≡ nodes_of arenas → CallRan part tree count rounds book p b s c t a → RunsCall arenas p (read b) (see s) (read c) (see t) a
  call_seen p b s c t a k ran = path_seen p b s c t a k ran.path

-- what no step changes is as it was
module _ {B P D G : Type 0} (part : P → (e : Event) → AnswerTo e → P → Type 0) (tree : P → List Node) (count rounds : P → ℕ) (book : B → P → (k : BookCall) → AnswerOf D k → B → P → Type 0) (see : B → P → G)
    (parts : (b : B) (s t : P) (e : Event) (x : AnswerTo e) → part s e x t → see b t ≡ see b s) (books : (b c : B) (s t : P) (k : BookCall) (x : AnswerOf D k) → book b s k x c t → see c t ≡ see b s) where
  path_stays : {A : Type 0} (p : CallPlan D A) (b : B) (s : P) (c : B) (t : P) (a : A) → CallPath (Step part tree count rounds) (BookStep book tree count rounds) p b s c t a → see c t ≡ see b s
  path_stays (Done y) b s c t a d = stay d.0 d.1
    where
      stay : b ≡ c → s ≡ t → see c t ≡ see b s
      stay e f = subst (λ z. see z t ≡ see b s) e (subst (λ z. see b z ≡ see b s) f refl)
  path_stays (Part e f) b s c t a d = path_stays (f d.1) b d.0 c t a d.3 ∙ parts b s d.0 e d.1 d.2.does
  path_stays (Call q f) b s c t a d = path_stays (f d.2) d.0 d.1 c t a d.4 ∙ books b d.0 s d.1 q d.2 d.3.does

  pub call_stays : {A : Type 0} (p : CallPlan D A) (b : B) (s : P) (c : B) (t : P) (a : A) → CallRan part tree count rounds book p b s c t a → see c t ≡ see b s
  call_stays p b s c t a ran = path_stays p b s c t a ran.path

pub same_local : (a b : List SpaceState) (x y : List (List OwnCacheState)) → b ≡ a → y ≡ x → local_of b y ≡ local_of a x
same_local a b x y e f = ap (λ s. local_of s y) e ∙ ap (λ r. local_of a r) f
