use Rattle.gix_order.proofs.Heaps.{heap_ahead, heap_kept, stack_taken, stack_ahead, stack_kept}
use Rattle.gix_order.proofs.front.Front.pop.Goals as goal

pub returns-in-Heap-clause-ahead : goal.returns-in-Heap-clause-ahead
returns-in-Heap-clause-ahead c = rw c.in-Heap.is (heap_ahead _ _ _ c.pop.ensures.heap_order)

pub returns-in-Heap-clause-sound : goal.returns-in-Heap-clause-sound
returns-in-Heap-clause-sound c = rw c.in-Heap.is (heap_kept _ _ _ _ c.pop.ensures.heap_order c.pop.ensures.unchanged)

pub returns-in-Stack-clause-taken : goal.returns-in-Stack-clause-taken
returns-in-Stack-clause-taken c = rw c.in-Stack.is (stack_taken _ _ _ c.pop-in-Stack.ensures.items)

pub returns-in-Stack-clause-ahead : goal.returns-in-Stack-clause-ahead
returns-in-Stack-clause-ahead c = rw c.in-Stack.is (stack_ahead _ _ _ c.pop-in-Stack.ensures.items)

pub returns-in-Stack-clause-sound : goal.returns-in-Stack-clause-sound
returns-in-Stack-clause-sound c = rw c.in-Stack.is (stack_kept _ _ _ c.pop-in-Stack.ensures.items)
