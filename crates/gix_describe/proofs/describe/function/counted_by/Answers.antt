use Rattle.std.proofs.Common.{◌≡◌, ◌∙◌, sym, ap, refl, min, Some, None, Bool, false, true, not}
use Rattle.std.specs.Option.{option_map}
use Rattle.gix_revwalk.specs.Followed.{followed}
use Rattle.gix_revwalk.specs.Graph.{held_at}
use Rattle.gix_describe.specs.Outcomes.{names_of, description_of, Walks}
use Rattle.gix_describe.specs.Lent.{options_by, outcomes_by}
use Rattle.gix_describe.proofs.NamesFound.{named_from, unnamed_from}
use Rattle.gix_describe.proofs.Describes.{described_named, described_idle, described_none, described_some, refused_walk, fixed_none, fixed_some, held_none, held_some}
use Rattle.gix_describe.proofs.Asked.{err_came}
use Rattle.gix_describe.proofs.PopsCounted.{pops_named, pops_none, pops_some}
use Rattle.gix_describe.proofs.describe.function.counted_by.Goals as goal

walks : {h : Bool} (b : Bool) → h ≡ b → b ≡ false → not h ≡ true
walks b e f = ap not (e ∙ f)

not_true : (b : Bool) → not b ≡ true → b ≡ false
not_true false e = refl
not_true true e = absurd (let f : false ≡ true = e in cc)

pub returns-then-contains_key-clause-described : goal.returns-then-contains_key-clause-described
returns-then-contains_key-clause-described g c =
    let named = named_from c.args.names.now.entries c.args.commit.now (sym c.contains_key.ensures ∙ c.if-contains_key.true) in
    described_named (followed c.args.manner.first_parent (g.S.Find.history c.args.graph.now.source)) c.args.commit.now (names_of c.args.names.now.entries)
    (min c.args.manner.max_candidates 32) c.args.manner.fallback_to_oid (option_map description_of (outcomes_by c.args.names.now c.in_ok-own.own)) named c.in_ok-own.ensures.answer

pub returns-then-contains_key-clause-pops : goal.returns-then-contains_key-clause-pops
returns-then-contains_key-clause-pops g c =
    pops_named c.args.manner.tie (g.S.Find.history c.args.graph.now.source) c.args.commit.now (options_by c.args.names.now c.args.manner) (outcomes_by c.args.names.now c.in_ok-own.own) (named_from c.args.names.now.entries c.args.commit.now (sym c.contains_key.ensures ∙ c.if-contains_key.true))

pub returns-in_err-own-clause-no_walk : goal.returns-in_err-own-clause-no_walk
returns-in_err-own-clause-no_walk g c = λ absent idle.
    let named = named_from c.args.names.now.entries c.args.commit.now (sym c.contains_key.ensures ∙ c.if-contains_key.true) in
    absurd (let no : Some named.0 ≡ None = sym named.1 ∙ absent in cc)

pub returns-then-is_idle-clause-described : goal.returns-then-is_idle-clause-described
returns-then-is_idle-clause-described g c =
    described_idle (followed c.args.manner.first_parent (g.S.Find.history c.args.graph.now.source)) c.args.commit.now (names_of c.args.names.now.entries)
    (min c.args.manner.max_candidates 32) c.args.manner.fallback_to_oid (option_map description_of (outcomes_by c.args.names.now c.without_name.result))
    (unnamed_from c.args.names.now.entries c.args.commit.now (sym c.contains_key.ensures ∙ c.if-contains_key.false)) (sym c.is_idle.ensures ∙ c.if-is_idle.true) (c.without_name.ensures.answer c.args.names.now)

pub returns-then-is_idle-clause-untouched : goal.returns-then-is_idle-clause-untouched
returns-then-is_idle-clause-untouched g c = λ no. refl

pub find_name-requires-clause-unnamed : goal.find_name-requires-clause-unnamed
find_name-requires-clause-unnamed g c = unnamed_from c.args.names.now.entries c.args.commit.now (sym c.contains_key.ensures ∙ c.if-contains_key.false)

pub returns-in_err-found-clause-refused : goal.returns-in_err-found-clause-refused
returns-in_err-found-clause-refused g c =
    let cause = rw c.clear.ensures.source at c.in_err-found.ensures.asked.cause in
    rw (err_came c.from_residual-in_err-found.result _ c.from_residual-in_err-found.ensures.1) (refused_walk (followed c.args.manner.first_parent (g.S.Find.history c.args.graph.now.source)) c.args.commit.now (names_of c.args.names.now.entries)
    (min c.args.manner.max_candidates 32) c.args.manner.fallback_to_oid c.in_err-found.field-0.0
    (unnamed_from c.args.names.now.entries c.args.commit.now (sym c.contains_key.ensures ∙ c.if-contains_key.false)) (sym c.is_idle.ensures ∙ c.if-is_idle.false) cause)

pub returns-in_err-found-clause-untouched : goal.returns-in_err-found-clause-untouched
returns-in_err-found-clause-untouched g c = λ no. absurd (no (unnamed_from c.args.names.now.entries c.args.commit.now (sym c.contains_key.ensures ∙ c.if-contains_key.false), walks _ (sym c.is_idle.ensures) c.if-is_idle.false))

pub returns-in_default-clause-described : goal.returns-in_default-clause-described
returns-in_default-clause-described g c =
    let found = rw (c.in_default.is, c.clear.ensures.source) at c.in_ok-found.ensures.found in
    described_none (followed c.args.manner.first_parent (g.S.Find.history c.args.graph.now.source)) c.args.commit.now (names_of c.args.names.now.entries)
    (min c.args.manner.max_candidates 32) c.args.manner.fallback_to_oid (option_map description_of (outcomes_by c.args.names.now c.without_name-answer.result)) c.in_ok-found.found.seen
    (unnamed_from c.args.names.now.entries c.args.commit.now (sym c.contains_key.ensures ∙ c.if-contains_key.false)) (sym c.is_idle.ensures ∙ c.if-is_idle.false) found (c.without_name-answer.ensures.answer c.args.names.now)

pub returns-in_default-clause-pops : goal.returns-in_default-clause-pops
returns-in_default-clause-pops g c =
    let found = rw (c.in_default.is, c.clear.ensures.source) at c.in_ok-found.ensures.found in
    let counts = rw c.in_default.is at c.in_ok-found.ensures.pops in
    let w : Walks c.args.commit.now (options_by c.args.names.now c.args.manner) = (unnamed_from c.args.names.now.entries c.args.commit.now (sym c.contains_key.ensures ∙ c.if-contains_key.false), walks _ (sym c.is_idle.ensures) c.if-is_idle.false) in
    pops_none c.args.manner.tie (g.S.Find.history c.args.graph.now.source) c.args.commit.now (options_by c.args.names.now c.args.manner) (outcomes_by c.args.names.now c.without_name-answer.result) c.args.manner.fallback_to_oid c.in_ok-found.found.seen c.in_ok-found.found.pops w found counts (c.without_name-answer.ensures.answer c.args.names.now)

pub returns-in_default-clause-untouched : goal.returns-in_default-clause-untouched
returns-in_default-clause-untouched g c = λ no. absurd (no (unnamed_from c.args.names.now.entries c.args.commit.now (sym c.contains_key.ensures ∙ c.if-contains_key.false), walks _ (sym c.is_idle.ensures) c.if-is_idle.false))

pub returns-clause-described : goal.returns-clause-described
returns-clause-described g c =
    let found = rw (c.in-Some.is, c.clear.ensures.source, c.room.ensures) at c.in_ok-found.ensures.found in
    described_some (followed c.args.manner.first_parent (g.S.Find.history c.args.graph.now.source)) c.args.commit.now (names_of c.args.names.now.entries)
    (min c.args.manner.max_candidates 32) c.args.manner.fallback_to_oid (option_map description_of (outcomes_by c.args.names.now c.in_ok-named.named)) (c.in-Some.id, c.in-Some.depth) c.in_ok-found.found.seen
    (unnamed_from c.args.names.now.entries c.args.commit.now (sym c.contains_key.ensures ∙ c.if-contains_key.false)) (sym c.is_idle.ensures ∙ c.if-is_idle.false) found c.in_ok-named.ensures.answer

pub returns-clause-pops : goal.returns-clause-pops
returns-clause-pops g c =
    let found = rw (c.in-Some.is, c.clear.ensures.source, c.room.ensures) at c.in_ok-found.ensures.found in
    let counts = rw (c.in-Some.is, c.clear.ensures.source, c.room.ensures) at c.in_ok-found.ensures.pops in
    let w : Walks c.args.commit.now (options_by c.args.names.now c.args.manner) = (unnamed_from c.args.names.now.entries c.args.commit.now (sym c.contains_key.ensures ∙ c.if-contains_key.false), walks _ (sym c.is_idle.ensures) c.if-is_idle.false) in
    pops_some c.args.manner.tie (g.S.Find.history c.args.graph.now.source) c.args.commit.now (options_by c.args.names.now c.args.manner) (outcomes_by c.args.names.now c.in_ok-named.named) (c.in-Some.id, c.in-Some.depth) c.in_ok-found.found.seen c.in_ok-found.found.pops w found counts c.in_ok-named.ensures.answer

pub returns-clause-untouched : goal.returns-clause-untouched
returns-clause-untouched g c = λ no. absurd (no (unnamed_from c.args.names.now.entries c.args.commit.now (sym c.contains_key.ensures ∙ c.if-contains_key.false), walks _ (sym c.is_idle.ensures) c.if-is_idle.false))

pub returns-in_err-named-clause-untouched : goal.returns-in_err-named-clause-untouched
returns-in_err-named-clause-untouched g c = λ no. absurd (no (unnamed_from c.args.names.now.entries c.args.commit.now (sym c.contains_key.ensures ∙ c.if-contains_key.false), walks _ (sym c.is_idle.ensures) c.if-is_idle.false))

pub returns-then-contains_key-clause-tied : goal.returns-then-contains_key-clause-tied
returns-then-contains_key-clause-tied g c = λ w.
    let named = named_from c.args.names.now.entries c.args.commit.now (sym c.contains_key.ensures ∙ c.if-contains_key.true) in
    absurd (let no : Some named.0 ≡ None = sym named.1 ∙ w.0 in cc)

pub returns-then-is_idle-clause-tied : goal.returns-then-is_idle-clause-tied
returns-then-is_idle-clause-tied g c = λ w. absurd (let no : true ≡ false = sym (sym c.is_idle.ensures ∙ c.if-is_idle.true) ∙ not_true _ w.1 in cc)

pub returns-in_default-clause-tied : goal.returns-in_default-clause-tied
returns-in_default-clause-tied g c = λ w.
    fixed_none c.args.manner.tie (followed c.args.manner.first_parent (g.S.Find.history c.args.graph.now.source)) c.args.commit.now (names_of c.args.names.now.entries)
    (min c.args.manner.max_candidates 32) c.in_ok-found.found.seen c.args.manner.fallback_to_oid (option_map description_of (outcomes_by c.args.names.now c.without_name-answer.result)) (c.without_name-answer.ensures.answer c.args.names.now)

pub returns-clause-tied : goal.returns-clause-tied
returns-clause-tied g c = λ w.
    let tied = rw (c.in-Some.is, c.clear.ensures.source, c.room.ensures) at c.in_ok-found.ensures.tied in
    fixed_some c.args.manner.tie (followed c.args.manner.first_parent (g.S.Find.history c.args.graph.now.source)) c.args.commit.now (names_of c.args.names.now.entries)
    (min c.args.manner.max_candidates 32) c.in_ok-found.found.seen c.in-Some.depth c.in-Some.id (option_map description_of (outcomes_by c.args.names.now c.in_ok-named.named)) c.in_ok-named.ensures.answer tied

pub returns-then-contains_key-clause-held : goal.returns-then-contains_key-clause-held
returns-then-contains_key-clause-held g c = λ w.
    let named = named_from c.args.names.now.entries c.args.commit.now (sym c.contains_key.ensures ∙ c.if-contains_key.true) in
    absurd (let no : Some named.0 ≡ None = sym named.1 ∙ w.0 in cc)

pub returns-then-is_idle-clause-held : goal.returns-then-is_idle-clause-held
returns-then-is_idle-clause-held g c = λ w. absurd (let no : true ≡ false = sym (sym c.is_idle.ensures ∙ c.if-is_idle.true) ∙ not_true _ w.1 in cc)

pub returns-in_default-clause-held : goal.returns-in_default-clause-held
returns-in_default-clause-held g c = λ w.
    let held = rw c.clear.ensures.source at c.in_ok-found.ensures.held in
    held_none c.args.manner.tie (followed c.args.manner.first_parent (g.S.Find.history c.args.graph.now.source)) c.args.commit.now (held_at c.find_name.new.graph)
    c.in_ok-found.found.seen c.args.manner.fallback_to_oid (option_map description_of (outcomes_by c.args.names.now c.without_name-answer.result)) (c.without_name-answer.ensures.answer c.args.names.now) held

pub returns-clause-held : goal.returns-clause-held
returns-clause-held g c = λ w.
    let held = rw c.clear.ensures.source at c.in_ok-found.ensures.held in
    held_some c.args.manner.tie (followed c.args.manner.first_parent (g.S.Find.history c.args.graph.now.source)) c.args.commit.now (names_of c.args.names.now.entries) (held_at c.find_name.new.graph)
    c.in_ok-found.found.seen c.in-Some.depth c.in-Some.id (option_map description_of (outcomes_by c.args.names.now c.in_ok-named.named)) c.in_ok-named.ensures.answer held

pub returns-in_err-found-clause-fault : goal.returns-in_err-found-clause-fault
returns-in_err-found-clause-fault g c =
    let fault = rw c.clear.ensures.source at c.in_err-found.ensures.fault in
    rw (err_came c.from_residual-in_err-found.result _ c.from_residual-in_err-found.ensures.1) fault

pub returns-then-contains_key-clause-kept : goal.returns-then-contains_key-clause-kept
returns-then-contains_key-clause-kept g c = c.in_ok-own.ensures.id

pub returns-then-contains_key-clause-history : goal.returns-then-contains_key-clause-history
returns-then-contains_key-clause-history g c = refl

pub returns-then-contains_key-clause-count : goal.returns-then-contains_key-clause-count
returns-then-contains_key-clause-count g c = refl

pub returns-then-contains_key-clause-untouched : goal.returns-then-contains_key-clause-untouched
returns-then-contains_key-clause-untouched g c = λ no. refl

pub returns-then-contains_key-clause-no_walk : goal.returns-then-contains_key-clause-no_walk
returns-then-contains_key-clause-no_walk g c = λ absent idle. refl

pub returns-then-is_idle-clause-kept : goal.returns-then-is_idle-clause-kept
returns-then-is_idle-clause-kept g c = c.without_name.ensures.id

pub returns-then-is_idle-clause-history : goal.returns-then-is_idle-clause-history
returns-then-is_idle-clause-history g c = refl

pub returns-then-is_idle-clause-count : goal.returns-then-is_idle-clause-count
returns-then-is_idle-clause-count g c = refl

pub returns-then-is_idle-clause-no_walk : goal.returns-then-is_idle-clause-no_walk
returns-then-is_idle-clause-no_walk g c = λ absent idle. refl

pub returns-in_default-clause-kept : goal.returns-in_default-clause-kept
returns-in_default-clause-kept g c = c.without_name-answer.ensures.id

pub returns-in_default-clause-history : goal.returns-in_default-clause-history
returns-in_default-clause-history g c = rw c.clear.ensures.source at c.in_ok-found.ensures.asked.same_history

pub returns-in_default-clause-count : goal.returns-in_default-clause-count
returns-in_default-clause-count g c = rw c.clear.ensures.source at c.in_ok-found.ensures.asked.count

pub returns-in_default-clause-no_walk : goal.returns-in_default-clause-no_walk
returns-in_default-clause-no_walk g c = λ absent idle. refl

pub returns-clause-kept : goal.returns-clause-kept
returns-clause-kept g c = c.in_ok-named.ensures.id

pub returns-clause-history : goal.returns-clause-history
returns-clause-history g c = rw c.clear.ensures.source at c.in_ok-found.ensures.asked.same_history

pub returns-clause-count : goal.returns-clause-count
returns-clause-count g c = rw c.clear.ensures.source at c.in_ok-found.ensures.asked.count

pub returns-clause-no_walk : goal.returns-clause-no_walk
returns-clause-no_walk g c = λ absent idle. refl

pub returns-in_err-own-clause-described : goal.returns-in_err-own-clause-described
returns-in_err-own-clause-described g c = rw (err_came c.from_residual.result _ c.from_residual.ensures.1) tt

pub returns-in_err-own-clause-kept : goal.returns-in_err-own-clause-kept
returns-in_err-own-clause-kept g c = rw (err_came c.from_residual.result _ c.from_residual.ensures.1) tt

pub returns-in_err-own-clause-tied : goal.returns-in_err-own-clause-tied
returns-in_err-own-clause-tied g c = rw (err_came c.from_residual.result _ c.from_residual.ensures.1) tt

pub returns-in_err-own-clause-held : goal.returns-in_err-own-clause-held
returns-in_err-own-clause-held g c = rw (err_came c.from_residual.result _ c.from_residual.ensures.1) tt

pub returns-in_err-own-clause-pops : goal.returns-in_err-own-clause-pops
returns-in_err-own-clause-pops g c = rw (err_came c.from_residual.result _ c.from_residual.ensures.1) tt

pub returns-in_err-found-clause-described : goal.returns-in_err-found-clause-described
returns-in_err-found-clause-described g c = rw (err_came c.from_residual-in_err-found.result _ c.from_residual-in_err-found.ensures.1) tt

pub returns-in_err-found-clause-kept : goal.returns-in_err-found-clause-kept
returns-in_err-found-clause-kept g c = rw (err_came c.from_residual-in_err-found.result _ c.from_residual-in_err-found.ensures.1) tt

pub returns-in_err-found-clause-tied : goal.returns-in_err-found-clause-tied
returns-in_err-found-clause-tied g c = rw (err_came c.from_residual-in_err-found.result _ c.from_residual-in_err-found.ensures.1) tt

pub returns-in_err-found-clause-held : goal.returns-in_err-found-clause-held
returns-in_err-found-clause-held g c = rw (err_came c.from_residual-in_err-found.result _ c.from_residual-in_err-found.ensures.1) tt

pub returns-in_err-found-clause-pops : goal.returns-in_err-found-clause-pops
returns-in_err-found-clause-pops g c = rw (err_came c.from_residual-in_err-found.result _ c.from_residual-in_err-found.ensures.1) tt

pub returns-in_err-named-clause-described : goal.returns-in_err-named-clause-described
returns-in_err-named-clause-described g c = rw (err_came c.from_residual-in_err-named.result _ c.from_residual-in_err-named.ensures.1) tt

pub returns-in_err-named-clause-kept : goal.returns-in_err-named-clause-kept
returns-in_err-named-clause-kept g c = rw (err_came c.from_residual-in_err-named.result _ c.from_residual-in_err-named.ensures.1) tt

pub returns-in_err-named-clause-tied : goal.returns-in_err-named-clause-tied
returns-in_err-named-clause-tied g c = rw (err_came c.from_residual-in_err-named.result _ c.from_residual-in_err-named.ensures.1) tt

pub returns-in_err-named-clause-held : goal.returns-in_err-named-clause-held
returns-in_err-named-clause-held g c = rw (err_came c.from_residual-in_err-named.result _ c.from_residual-in_err-named.ensures.1) tt

pub returns-in_err-named-clause-pops : goal.returns-in_err-named-clause-pops
returns-in_err-named-clause-pops g c = rw (err_came c.from_residual-in_err-named.result _ c.from_residual-in_err-named.ensures.1) tt

pub returns-in_err-own-clause-history : goal.returns-in_err-own-clause-history
returns-in_err-own-clause-history g c = refl

pub returns-in_err-own-clause-count : goal.returns-in_err-own-clause-count
returns-in_err-own-clause-count g c = rw (err_came c.from_residual.result _ c.from_residual.ensures.1, c.in_err-own.ensures.refused) refl

pub returns-in_err-own-clause-untouched : goal.returns-in_err-own-clause-untouched
returns-in_err-own-clause-untouched g c = λ no. refl

pub returns-in_err-found-clause-history : goal.returns-in_err-found-clause-history
returns-in_err-found-clause-history g c = rw c.clear.ensures.source at c.in_err-found.ensures.asked.same_history

pub returns-in_err-found-clause-count : goal.returns-in_err-found-clause-count
returns-in_err-found-clause-count g c = rw (err_came c.from_residual-in_err-found.result _ c.from_residual-in_err-found.ensures.1) (rw c.clear.ensures.source at c.in_err-found.ensures.asked.count)

pub returns-in_err-found-clause-no_walk : goal.returns-in_err-found-clause-no_walk
returns-in_err-found-clause-no_walk g c = λ absent idle. absurd (let no : true ≡ false = sym idle ∙ sym c.is_idle.ensures ∙ c.if-is_idle.false in cc)

pub returns-in_err-named-clause-history : goal.returns-in_err-named-clause-history
returns-in_err-named-clause-history g c = rw c.clear.ensures.source at c.in_ok-found.ensures.asked.same_history

pub returns-in_err-named-clause-count : goal.returns-in_err-named-clause-count
returns-in_err-named-clause-count g c = rw (err_came c.from_residual-in_err-named.result _ c.from_residual-in_err-named.ensures.1, c.in_err-named.ensures.refused) (rw c.clear.ensures.source at c.in_ok-found.ensures.asked.count)

pub returns-in_err-named-clause-no_walk : goal.returns-in_err-named-clause-no_walk
returns-in_err-named-clause-no_walk g c = λ absent idle. absurd (let no : true ≡ false = sym idle ∙ sym c.is_idle.ensures ∙ c.if-is_idle.false in cc)
