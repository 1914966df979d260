use Rattle.std.proofs.lemmas.List.Sorted.{IsPermutation-sym, IsPermutation-to_front}
use Rattle.gix_order.proofs.front.Front.push.Goals as goal

pub returns-in_ok-push-in-Stack-clause-added : goal.returns-in_ok-push-in-Stack-clause-added
returns-in_ok-push-in-Stack-clause-added c =
    rw (c.in-Stack.is, c.in_ok-push-in-Stack.ensures.items) (IsPermutation-sym _ _ (IsPermutation-to_front c.in-Stack.stack.items c.args.free))
