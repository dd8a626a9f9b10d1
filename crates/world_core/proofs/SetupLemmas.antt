-- A world that is set up is one.
use Rattle.std.proofs.Common.{◌≡◌, ◌≢◌, ℕ, Bool, ◌≤◌, List, [], ◌∷◌, ◌++◌, length, Option, Some, None, refl, sym, subst}
use Rattle.std.specs.Prelude.{nat_eq}
use Rattle.std.specs.List.{IsDistinct}
use Rattle.deed_core.specs.Tag.{Tag}
use Rattle.arena_tree.specs.declared.limits.TheConstants.{MOST_ARENAS}
use Rattle.stock.specs.Spaces.{SpaceState}
use Rattle.stock.specs.OwnCaches.{OwnCacheState}
use Rattle.stock.specs.Stocks.{IsStock}
use Rattle.stock.specs.Accounts.{Accounts}
use Rattle.stock_audit.specs.Outside.{outside}
use Rattle.stock_audit.specs.Accounted.{IsAccountedFor}
use Rattle.stock_audit.proofs.LawProofs.{fresh_is_accounted}
use Rattle.lease_terms.specs.Ranges.{IsClient}
use Rattle.lease_proto.specs.declared.lines.Line.{Line}
use Rattle.lease_proto.specs.declared.replies.Reply.{Reply}
use Rattle.lease_book.specs.Account.{Account}
use Rattle.lease_book.specs.Entry.{Entry}
use Rattle.lease_book.specs.BookState.{BookState, IsHistory, segments_of_accounts}
use Rattle.lease_client.specs.ClientState.{ClientState, silent_client}
use Rattle.lease_history.specs.Known.{IsKnown}
use Rattle.lease_history.proofs.LawProofs.{clients_begin_known}
use Rattle.world_core.specs.declared.tasks.Task.{Task}
use Rattle.world_core.specs.declared.logs.Logged.{Logged}
use Rattle.world_core.specs.WorldState.{WorldState, arena_name, in_hands, entries_of, Each}
use Rattle.world_core.specs.IsWorld.{IsWorld, AreNames, AreSoManyCpus, AreInOrder, MayBeSaid}
use Rattle.world_core.proofs.Members.{each_pushed, distinct_more}

nothing : {X : Type 0} (P : X → Type 0) → Each P []
nothing P k x at = absurd (let e : None ≡ Some x = at in cc)

none_twice : IsDistinct nat_eq []
unfolding IsDistinct
none_twice = tt

no_caches : AreInOrder [] []
no_caches = record { owned = refl; order = λ i j cpu o p less mine here yours there. absurd (let e : None ≡ Some o = here in cc) }

no_cpus : AreSoManyCpus 0 [] [] []
no_cpus = record { served = refl; marked = refl; owned = nothing _ }

made : (stock : List SpaceState) (names : List (List ℕ)) (book : BookState) → IsStock stock → Accounts stock [] → length names ≡ length stock → length names ≤ MOST_ARENAS → AreNames names
    → IsHistory [] book → IsWorld (record { stock = stock; names = names; hands = []; tasks = []; failed = []; owners = []; caches = []; book = book; entries = []; clients = []; requests = []; replies = [] })
made stock names book sound balances named few apart empty = record {
  parts = subst (λ (accounts : List Account). IsAccountedFor stock (outside (in_hands []) (segments_of_accounts accounts) [])) (sym empty.accounts)
      (fresh_is_accounted stock (record { stock = sound; accounts = balances }));
  named = named;
  few = few;
  names = apart;
  book = empty;
  due = nothing _;
  ids = none_twice;
  known = nothing _;
  said = nothing _;
  cpus = no_cpus;
  tasks = nothing _;
  own = no_caches;
  shaped = nothing _;
  told = nothing _;
}

pub born : (stock : List SpaceState) (names : List (List ℕ)) (book : BookState) (hands : List (Option Tag)) (tasks : List (Option Task)) (failed : List Bool) (owners : List ℕ) (caches : List OwnCacheState) (log : List Logged) (clients : List ClientState)
    (requests : List Line) (replies : List Reply) → IsStock stock → Accounts stock [] → length names ≡ length stock → length names ≤ MOST_ARENAS → AreNames names → IsHistory [] book
    → hands ≡ [] → tasks ≡ [] → failed ≡ [] → owners ≡ [] → caches ≡ [] → log ≡ [] → clients ≡ [] → requests ≡ [] → replies ≡ []
    → IsWorld (record { stock = stock; names = names; hands = hands; tasks = tasks; failed = failed; owners = owners; caches = caches; book = book; entries = entries_of log; clients = clients; requests = requests; replies = replies })
born stock names book hands tasks failed owners caches log clients requests replies sound balances named few apart empty h t f o x l c q r =
    let hs = sym h in
    let ts = sym t in
    let fs = sym f in
    let os = sym o in
    let xs = sym x in
    let ls = sym l in
    let cs = sym c in
    let qs = sym q in
    let rs = sym r in
    subst IsWorld (λ j. record { stock = stock; names = names; hands = hs j; tasks = ts j; failed = fs j; owners = os j; caches = xs j; book = book; entries = entries_of (ls j); clients = cs j; requests = qs j; replies = rs j })
    (made stock names book sound balances named few apart empty)

pub client_added : (w : WorldState) (id : ℕ) (clients : List ClientState) → IsWorld w → w.entries ≡ [] → w.requests ≡ [] → Each (λ c. c.id ≢ id) w.clients → IsClient id
    → clients ≡ w.clients ++ silent_client id ∷ [] → IsWorld (record w { clients = clients })
client_added w id clients is entries requests fresh range c =
    let cs = sym c in
    subst IsWorld (λ j. record w { clients = cs j }) (record {
      parts = is.parts;
      named = is.named;
      few = is.few;
      names = is.names;
      book = is.book;
      due = is.due;
      ids = distinct_more (λ (x : ClientState). x.id) w.clients (silent_client id) is.ids fresh;
      known = each_pushed (IsKnown (arena_name w.names) w.entries) w.clients (silent_client id) is.known
          (subst (λ (es : List Entry). IsKnown (arena_name w.names) es (silent_client id)) (sym entries) (clients_begin_known (arena_name w.names) id range));
      said = each_pushed (λ x. Each (MayBeSaid x) w.requests) w.clients (silent_client id) is.said
          (subst (λ (ls : List Line). Each (MayBeSaid (silent_client id)) ls) (sym requests) (nothing (MayBeSaid (silent_client id))));
      cpus = is.cpus;
      tasks = is.tasks;
      own = is.own;
      shaped = is.shaped;
      told = is.told;
    })
