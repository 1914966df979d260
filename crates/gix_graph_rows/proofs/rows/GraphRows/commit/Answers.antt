use Rattle.std.proofs.Common.{rules, length, ap, ◌∙◌}
use Rattle.gix_graph_rows.specs.FilesRead.{files_of}
use Rattle.gix_graph_rows.proofs.SameFiles.{refilled, files_are, contents_same, hints_on, commit_on, row_on, at_on}
use Rattle.gix_graph_rows.proofs.rows.GraphRows.commit.Goals as goal

pub invariant_of-self-in-None : goal.invariant_of-self-in-None
invariant_of-self-in-None g c =
    let kept = refilled c.args.self.now.layers.len c.args.self.now.layers.items c.find.new.layers (search rules) (c.find.ensures.same ∙ ap length c.deref_mut.ensures.value) in
    record { known = λ k. hints_on _ _ _ (ap files_of kept ∙ c.find.ensures.files ∙ ap files_of c.deref_mut.ensures.value) (c.args.self.now.known k) }

pub invariant_of-self-in-Some : goal.invariant_of-self-in-Some
invariant_of-self-in-Some g c =
    let kept = refilled c.args.self.now.layers.len c.args.self.now.layers.items c.find.new.layers (search rules) (c.find.ensures.same ∙ ap length c.deref_mut.ensures.value) in
    let again = refilled c.args.self.now.layers.len _ c.commit_at.new.layers (search rules) (c.commit_at.ensures.same ∙ ap length c.deref_mut-in-Some.ensures.value) in
    record {
      known = λ k. hints_on _ _ _ (ap files_of again ∙ c.commit_at.ensures.files)
          (c.commit_at.ensures.kept k (hints_on _ _ _ (ap files_of c.deref_mut-in-Some.ensures.value ∙ ap files_of kept ∙ c.find.ensures.files ∙ ap files_of c.deref_mut.ensures.value) (c.args.self.now.known k)));
    }

pub returns-in_ok-commit-in-Some-clause-value : goal.returns-in_ok-commit-in-Some-clause-value
returns-in_ok-commit-in-Some-clause-value g c = λ k.
    let kept = refilled c.args.self.now.layers.len c.args.self.now.layers.items c.find.new.layers (search rules) (c.find.ensures.same ∙ ap length c.deref_mut.ensures.value) in
    let same = ap files_of c.deref_mut-in-Some.ensures.value ∙ ap files_of kept ∙ c.find.ensures.files ∙ ap files_of c.deref_mut.ensures.value in
    row_on _ _ _ _ (files_are k c.args.self.now.layers.items)
    (commit_on _ _ c.in-Some.place c.args.id _ same (at_on _ _ _ _ _ (ap files_of c.deref_mut.ensures.value) c.in-Some.is (c.in_ok-place.ensures.value k)) (c.in_ok-commit-in-Some.ensures.value k))

pub returns-in_err-place-clause-same : goal.returns-in_err-place-clause-same
returns-in_err-place-clause-same g c =
    let kept = refilled c.args.self.now.layers.len c.args.self.now.layers.items c.find.new.layers (search rules) (c.find.ensures.same ∙ ap length c.deref_mut.ensures.value) in
    contents_same _ _ (ap files_of kept ∙ c.find.ensures.files ∙ ap files_of c.deref_mut.ensures.value)

pub returns-in-None-clause-same : goal.returns-in-None-clause-same
returns-in-None-clause-same g c =
    let kept = refilled c.args.self.now.layers.len c.args.self.now.layers.items c.find.new.layers (search rules) (c.find.ensures.same ∙ ap length c.deref_mut.ensures.value) in
    contents_same _ _ (ap files_of kept ∙ c.find.ensures.files ∙ ap files_of c.deref_mut.ensures.value)

pub returns-in_err-commit-in-Some-clause-same : goal.returns-in_err-commit-in-Some-clause-same
returns-in_err-commit-in-Some-clause-same g c =
    let kept = refilled c.args.self.now.layers.len c.args.self.now.layers.items c.find.new.layers (search rules) (c.find.ensures.same ∙ ap length c.deref_mut.ensures.value) in
    let again = refilled c.args.self.now.layers.len _ c.commit_at.new.layers (search rules) (c.commit_at.ensures.same ∙ ap length c.deref_mut-in-Some.ensures.value) in
    contents_same _ _ (ap files_of again ∙ c.commit_at.ensures.files ∙ ap files_of c.deref_mut-in-Some.ensures.value ∙ ap files_of kept ∙ c.find.ensures.files ∙ ap files_of c.deref_mut.ensures.value)

pub returns-in_ok-commit-in-Some-clause-same : goal.returns-in_ok-commit-in-Some-clause-same
returns-in_ok-commit-in-Some-clause-same g c =
    let kept = refilled c.args.self.now.layers.len c.args.self.now.layers.items c.find.new.layers (search rules) (c.find.ensures.same ∙ ap length c.deref_mut.ensures.value) in
    let again = refilled c.args.self.now.layers.len _ c.commit_at.new.layers (search rules) (c.commit_at.ensures.same ∙ ap length c.deref_mut-in-Some.ensures.value) in
    contents_same _ _ (ap files_of again ∙ c.commit_at.ensures.files ∙ ap files_of c.deref_mut-in-Some.ensures.value ∙ ap files_of kept ∙ c.find.ensures.files ∙ ap files_of c.deref_mut.ensures.value)
