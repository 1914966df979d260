use Rattle.std.proofs.Common.{subst, ◌∙◌, ◌∷◌, []}
use Rattle.gix_range.specs.Ranges.{Keeps}
use Rattle.gix_range.proofs.Choosing.{kept_covers, kept_lists, kept_most, kept_least}
use Rattle.gix_range.proofs.range.ahead_behind.Goals as goal

pub returns-clause-ahead : goal.returns-clause-ahead
returns-clause-ahead g c acyclic =
    let h = g.S.Find.history c.args.graph.now.source in
    let found = rw c.in_ok-found.ensures.after.graph.same_history at c.in_ok-ahead.ensures.keeps in
    let keeps = subst (λ l. Keeps h l (c.args.theirs ∷ []) found.0) c.deref.ensures.value found.1 in
    (found.0, kept_lists h (c.args.ours ∷ []) (c.args.theirs ∷ []) _ found.0 c.in_ok-found.ensures.firsts keeps acyclic, found.2)

pub returns-clause-behind : goal.returns-clause-behind
returns-clause-behind g c acyclic =
    let h = g.S.Find.history c.args.graph.now.source in
    let found = rw (c.in_ok-ahead.ensures.after.graph.same_history ∙ c.in_ok-found.ensures.after.graph.same_history) at c.in_ok-behind.ensures.keeps in
    let keeps = subst (λ l. Keeps h l (c.args.ours ∷ []) found.0) c.deref-2.ensures.value found.1 in
    (found.0, kept_lists h (c.args.theirs ∷ []) (c.args.ours ∷ []) _ found.0 c.in_ok-found.ensures.seconds keeps acyclic, found.2)

pub returns-clause-no_less_ahead : goal.returns-clause-no_less_ahead
returns-clause-no_less_ahead g c =
    let h = g.S.Find.history c.args.graph.now.source in
    let found = rw c.in_ok-found.ensures.after.graph.same_history at c.in_ok-ahead.ensures.keeps in
    let keeps = subst (λ l. Keeps h l (c.args.theirs ∷ []) found.0) c.deref.ensures.value found.1 in
    kept_most h (c.args.ours ∷ []) (c.args.theirs ∷ []) _ _ found.2 (kept_covers h (c.args.ours ∷ []) (c.args.theirs ∷ []) _ found.0 c.in_ok-found.ensures.firsts keeps)

pub returns-clause-no_less_behind : goal.returns-clause-no_less_behind
returns-clause-no_less_behind g c =
    let h = g.S.Find.history c.args.graph.now.source in
    let found = rw (c.in_ok-ahead.ensures.after.graph.same_history ∙ c.in_ok-found.ensures.after.graph.same_history) at c.in_ok-behind.ensures.keeps in
    let keeps = subst (λ l. Keeps h l (c.args.ours ∷ []) found.0) c.deref-2.ensures.value found.1 in
    kept_most h (c.args.theirs ∷ []) (c.args.ours ∷ []) _ _ found.2 (kept_covers h (c.args.theirs ∷ []) (c.args.ours ∷ []) _ found.0 c.in_ok-found.ensures.seconds keeps)

pub returns-clause-no_more_ahead : goal.returns-clause-no_more_ahead
returns-clause-no_more_ahead g c =
    let h = g.S.Find.history c.args.graph.now.source in
    let found = rw c.in_ok-found.ensures.after.graph.same_history at c.in_ok-ahead.ensures.keeps in
    let keeps = subst (λ l. Keeps h l (c.args.theirs ∷ []) found.0) c.deref.ensures.value found.1 in
    kept_least h (c.args.ours ∷ []) (c.args.theirs ∷ []) _ _ found.2 (kept_covers h (c.args.ours ∷ []) (c.args.theirs ∷ []) _ found.0 c.in_ok-found.ensures.firsts keeps)

pub returns-clause-no_more_behind : goal.returns-clause-no_more_behind
returns-clause-no_more_behind g c =
    let h = g.S.Find.history c.args.graph.now.source in
    let found = rw (c.in_ok-ahead.ensures.after.graph.same_history ∙ c.in_ok-found.ensures.after.graph.same_history) at c.in_ok-behind.ensures.keeps in
    let keeps = subst (λ l. Keeps h l (c.args.ours ∷ []) found.0) c.deref-2.ensures.value found.1 in
    kept_least h (c.args.theirs ∷ []) (c.args.ours ∷ []) _ _ found.2 (kept_covers h (c.args.theirs ∷ []) (c.args.ours ∷ []) _ found.0 c.in_ok-found.ensures.seconds keeps)
