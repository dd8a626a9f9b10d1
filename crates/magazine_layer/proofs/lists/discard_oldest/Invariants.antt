use Rattle.std.proofs.Common.{◌≡◌, ◌+◌, drop, deque_len, deque_capacity}
use Rattle.magazine_layer.proofs.lists.discard_oldest.Given as goal

abbrev pub invariant-loop-done : goal.invariant-loop-done
invariant-loop-done g l = (l.empty.items ≡ drop l.done l.fn.empty.items) × (deque_len l.empty + l.done ≡ deque_len l.fn.empty) × (deque_capacity l.empty ≡ deque_capacity l.fn.empty)
