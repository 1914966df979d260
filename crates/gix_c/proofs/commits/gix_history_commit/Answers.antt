use Rattle.std.proofs.Common.{◌≡◌, ap, sym, subst, ◌∙◌, ℕ, List, map}
use Rattle.std.proofs.lemmas.List.{length-map}
use Rattle.std.specs.Option.{option_map}
use Rattle.gix_revwalk.specs.Held.{entry_of}
use Rattle.gix_revwalk.specs.History.{History as Commits, entry_at}
use Rattle.gix_c_core.specs.Answers.{id_of, bytes_in, IsWritten}
use Rattle.gix_c_core.specs.Behind.{commits_of, joined}
use Rattle.gix_c_core.specs.declared.history.History.{History}
use Rattle.gix_c.proofs.commits.gix_history_commit.Goals as goal

pub returns-clause-commit : goal.returns-clause-commit
returns-clause-commit c =
    let lent : c.source-source.result.now ≡ c.args.history.now.value.graph.source = c.source-source.ensures ∙ ap (λ (v : History). v.graph.source) c.get_mut.ensures.value in
    let same : joined c.source-source.result.now ≡ commits_of c.args.history.now = ap joined lent in
    let list = c.deref-2.ensures.value ∙ c.in-Ok-bytes_of_each.ensures ∙ ap (map bytes_in) c.deref.ensures.value in
    record {
      commit = entry_of c.in-Some.commit;
      there = ap (λ (h : Commits). entry_at h (id_of c.args.id.now)) (sym same) ∙ sym c.in-Ok.ensures ∙ ap (option_map entry_of) c.in-Some.is;
      time = c.fields_of.ensures.time;
      generation = c.fields_of.ensures.generation;
      parents = record {
        counted = c.fields_of.ensures.parents ∙ sym (length-map c.in-Some.commit.parents.items bytes_in);
        written = (subst (λ (xs : List (List ℕ)). IsWritten xs c.args.parents.now c.write.new.out c.write.new.count) list c.write.ensures).written;
      };
    }
