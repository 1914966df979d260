use Rattle.std.proofs.Common.{◌≡◌, true, false, refl}
use Rattle.gix_merge_base.specs.Bases.{is_trivial}
use Rattle.gix_merge_base.proofs.merge_base.queries.answer_to.Goals as goal

pub returns-in-Ok : goal.returns-in-Ok
returns-in-Ok g c =
    let found = rw c.deref.ensures.value at c.in-Ok.ensures in
    let alone = rw c.deref.ensures.value at c.merge_base.ensures.trivial in
    let taken = rw c.deref.ensures.value at c.merge_base.ensures.taken in
    rw c.in-MergeBase.is record {
      right = record {
        bases = found.bases;
        without_generations = found.without_generations;
        once = found.once;
        order = found.order;
        alone = found.trivial_answer;
      };
      unchanged = λ p. (alone p).1;
      taken = taken;
      after = record {
        graph = record {
          same_history = c.merge_base.ensures.history;
          count = found.count;
          held = c.merge_base.ensures.held;
        };
        cause = tt;
      };
    }

pub returns-in-Ok-octopus : goal.returns-in-Ok-octopus
returns-in-Ok-octopus g c =
    let says = rw c.deref-in-Octopus.ensures.value at c.in-Ok-octopus.ensures in
    let trivial = rw c.deref-in-Octopus.ensures.value at c.octopus.ensures.trivial in
    rw c.in-Octopus.is record {
      right = record {
        base = says.base;
        common = says.common;
        alone = λ p. let same = (trivial p).0 in let found = c.in-Ok-octopus.is in cc;
      };
      unchanged = λ p. (trivial p).1;
      taken = tt;
      after = record {
        graph = record {
          same_history = c.octopus.ensures.history;
          count = says.count;
          held = c.octopus.ensures.held;
        };
        cause = tt;
      };
    }

pub returns-in-Err : goal.returns-in-Err
returns-in-Err g c =
    let call = c.merge_base.ensures in
    let plain = rw c.deref.ensures.value at call.trivial in
    let little = rw c.deref.ensures.value at call.taken in
    let looked : is_trivial c.in-MergeBase.first c.in-MergeBase.others.items ≡ false =
    elim (is_trivial c.in-MergeBase.first c.in-MergeBase.others.items) as (λ b. is_trivial c.in-MergeBase.first c.in-MergeBase.others.items ≡ b → b ≡ false) [
      | false ↦ λ e. refl
      | true ↦ λ e. let answered = rw c.in-Err.is at (plain e).0 in cc
    ] refl in
    rw c.in-MergeBase.is record {
      right = looked;
      unchanged = λ p. (plain p).1;
      taken = little;
      after = record {
        graph = record {
          same_history = call.history;
          count = c.in-Err.ensures.count;
          held = call.held;
        };
        cause = c.in-Err.ensures.cause;
      };
    }
