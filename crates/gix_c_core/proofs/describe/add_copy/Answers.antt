use Rattle.std.proofs.Common.{◌≡◌, ℕ, cond, List, Some, None, sym, subst, ◌∙◌}
use Rattle.gix_revwalk.specs.History.{same_id}
use Rattle.gix_describe.specs.Described.{name_at}
use Rattle.gix_describe.specs.Outcomes.{names_of}
use Rattle.gix_c_core.specs.Answers.{id_of}
use Rattle.gix_c_core.specs.Descriptions.{first_of}
use Rattle.gix_c_core.proofs.Named.{added-name, known-name}
use Rattle.gix_c_core.proofs.describe.add_copy.Goals as goal

pub returns-in_ok-insert : goal.returns-in_ok-insert
returns-in_ok-insert c =
    let es = c.args.map.now.entries in
    let fs = c.insert.new.self.entries in
    let k = id_of c.args.name.now.id in
    let copied : c.in_ok-text.text.items ≡ c.args.name.now.text.now = c.in_ok-text.ensures.items_if_clones_equal (λ x y same. same) in
    λ q. subst (λ (t : List ℕ). name_at (names_of fs) q ≡ first_of (name_at (names_of es) q) (cond (same_id q k) (Some t) None)) copied
    (added-name es fs k _ (sym c.contains_key.ensures ∙ c.if-not-contains_key.true) c.in_ok-insert.ensures.updates.0 q)

pub returns-else-not-contains_key : goal.returns-else-not-contains_key
returns-else-not-contains_key c = known-name c.args.map.now.entries (id_of c.args.name.now.id) c.args.name.now.text.now (sym c.contains_key.ensures ∙ c.if-not-contains_key.false)
