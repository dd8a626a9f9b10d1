-- Whatever happens, a world stays one.
use Rattle.std.proofs.Common.{List, [], ◌∷◌, ◌++◌, Some, None, refl, sym, subst, inl, inr}
use Rattle.world_core.specs.declared.events.WorldEvent.{WorldEvent}
use Rattle.world_core.specs.declared.events.WorldEvent.TheVariants as events
use Rattle.world_core.specs.declared.events.Outcome.{Outcome}
use Rattle.world_core.specs.declared.events.Outcome.TheVariants.{Done, NotEnabled, NoMemory, Refused}
use Rattle.world_core.specs.WorldState.{WorldState}
use Rattle.world_core.specs.IsWorld.{IsWorld}
use Rattle.world_core.specs.Events.{MovesBy, EndsAs, HappensAs, HappensTo}
use Rattle.world_core.proofs.TalkLemmas.{restart_keeps, send_keeps, resend_keeps, hear_keeps}
use Rattle.world_core.proofs.BookingLemmas.{hello_taken_keeps, hello_refused_keeps, answered_keeps, taken_keeps, granted_keeps, refused_keeps, released_keeps, answer_keeps, given_up_keeps, swept_keeps}
use Rattle.world_core.proofs.StockLemmas.{hand_move_keeps, part_move_keeps}
use Rattle.world_core.proofs.OwnLemmas.{popped_keeps, pushed_keeps, own_move_keeps}
use Rattle.world_core.proofs.AdoptLemmas.{hand_adopted_keeps, round_adopted_keeps}

pub moves_keep : (event : WorldEvent) (w v : WorldState) → IsWorld w → MovesBy event w v → IsWorld v
moves_keep (events.Restarts c i p) w v is m = restart_keeps c i p w v is m
moves_keep (events.Says c op) w v is m = send_keeps c op w v is m
moves_keep (events.Repeats c number) w v is m = resend_keeps c number w v is m
moves_keep (events.Hears c which) w v is m = hear_keeps c which w v is m
moves_keep (events.Looks cpu which) w v is (inl m) = hello_taken_keeps which w v is m
moves_keep (events.Looks cpu which) w v is (inr (inl m)) = hello_refused_keeps which w v is m
moves_keep (events.Looks cpu which) w v is (inr (inr (inl m))) = answered_keeps which w v is m
moves_keep (events.Looks cpu which) w v is (inr (inr (inr m))) = taken_keeps cpu which w v is m
moves_keep (events.Settles cpu) w v is (inl m) = granted_keeps cpu w v is m
moves_keep (events.Settles cpu) w v is (inr (inl (m, why))) = refused_keeps cpu _ w v is m
moves_keep (events.Settles cpu) w v is (inr (inr m)) = answer_keeps cpu w v is m
moves_keep (events.Declines cpu why) w v is (inl m) = refused_keeps cpu why w v is m
moves_keep (events.Declines cpu why) w v is (inr m) = answer_keeps cpu w v is m
moves_keep (events.GivesUp cpu) w v is m = given_up_keeps cpu w v is m
moves_keep (events.Releases cpu) w v is (inl m) = released_keeps cpu w v is m
moves_keep (events.Releases cpu) w v is (inr (inl (m, why))) = refused_keeps cpu _ w v is m
moves_keep (events.Releases cpu) w v is (inr (inr m)) = answer_keeps cpu w v is m
moves_keep (events.Sweeps cpu c) w v is m = swept_keeps cpu c w v is m
moves_keep (events.Carves cpu arena q) w v is (t, m) = hand_move_keeps cpu None (Some t) _ w v is m
moves_keep (events.Frees cpu) w v is (t, back, m) = hand_move_keeps cpu (Some t) back _ w v is m
moves_keep (events.AddCarves cpu child size) w v is (span, t, m) = hand_move_keeps cpu (Some span) (Some t) _ w v is m
moves_keep (events.SlabTakes cpu arena cache) w v is (t, m) = hand_move_keeps cpu None (Some t) _ w v is m
moves_keep (events.SlabPuts cpu) w v is (t, m) = hand_move_keeps cpu (Some t) None _ w v is m
moves_keep (events.SlabAdds cpu arena cache) w v is (span, t, m) = hand_move_keeps cpu (Some span) (Some t) _ w v is m
moves_keep (events.SlabReaps cpu arena cache) w v is (t, m) = hand_move_keeps cpu None (Some t) _ w v is m
moves_keep (events.DepotReaps cpu arena cache) w v is (t, m) = hand_move_keeps cpu None (Some t) _ w v is m
moves_keep (events.Pops cpu arena cache) w v is m = popped_keeps cpu arena cache w v is m
moves_keep (events.Pushes cpu) w v is m = pushed_keeps cpu w v is m
moves_keep (events.SwapsFull cpu arena cache) w v is m = own_move_keeps cpu arena cache _ w v is m
moves_keep (events.SwapsEmpty cpu arena cache) w v is m = own_move_keeps cpu arena cache _ w v is m
moves_keep (events.SwapsFresh cpu arena cache) w v is m = own_move_keeps cpu arena cache _ w v is m
moves_keep (events.Changes cpu arena cache size) w v is m = own_move_keeps cpu arena cache _ w v is m
moves_keep (events.Adopts cpu other) w v is (inl m) = hand_adopted_keeps cpu other w v is m
moves_keep (events.Adopts cpu other) w v is (inr m) = round_adopted_keeps cpu other w v is m
moves_keep (events.Grows arena range) w v is m = part_move_keeps _ w v is m
moves_keep (events.Ticks arena cache) w v is m = part_move_keeps _ w v is m
moves_keep (events.Resizes arena cache size) w v is m = part_move_keeps _ w v is m

pub end_keeps : (event : WorldEvent) (outcome : Outcome) (w v : WorldState) → IsWorld w → EndsAs event outcome w v → IsWorld v
end_keeps event Done w v is (enabled, m) = moves_keep event w v is m
end_keeps event NotEnabled w v is (disabled, same) = subst IsWorld (sym same) is
end_keeps event (Refused why) w v is (refused, same) = subst IsWorld (sym same) is
end_keeps event NoMemory w v is (may, same) = subst IsWorld (sym same) is

pub happens_keeps : (event : WorldEvent) (outcome : Outcome) (w v : WorldState) → IsWorld w → HappensAs event outcome w v → IsWorld v
happens_keeps event outcome w v is (inl (failed, none, same)) = subst IsWorld (sym same) is
happens_keeps event outcome w v is (inr (other, ends)) = end_keeps event outcome w v is ends

pub events_keep : (list : List WorldEvent) (outcomes : List Outcome) (w v : WorldState) → IsWorld w → HappensTo list outcomes w v → IsWorld v
events_keep [] [] w v is run = subst IsWorld (sym run) is
events_keep [] (o ∷ outcomes) w v is run = absurd run
events_keep (event ∷ list) [] w v is run = absurd run
events_keep (event ∷ list) (outcome ∷ outcomes) w v is (next, step, rest) = events_keep list outcomes next v (happens_keeps event outcome w next is step) rest

-- one event more
pub happens_more : (list : List WorldEvent) (outcomes : List Outcome) (event : WorldEvent) (outcome : Outcome) (w mid v : WorldState) → HappensTo list outcomes w mid → HappensAs event outcome mid v
    → HappensTo (list ++ event ∷ []) (outcomes ++ outcome ∷ []) w v
happens_more [] [] event outcome w mid v run last = (v, subst (λ (x : WorldState). HappensAs event outcome x v) run last, refl)
happens_more [] (o ∷ outcomes) event outcome w mid v run last = absurd run
happens_more (first ∷ list) [] event outcome w mid v run last = absurd run
happens_more (first ∷ list) (o ∷ outcomes) event outcome w mid v (next, step, rest) last = (next, step, happens_more list outcomes event outcome next mid v rest last)
