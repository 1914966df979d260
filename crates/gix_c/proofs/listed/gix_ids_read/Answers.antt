use Rattle.std.proofs.Common.{◌≡◌, ◌∙◌, ap, ℕ, List, ◌++◌, take, drop, length, length-drop}
use Rattle.std.specs.Prelude.{min}
use Rattle.gix_c_core.specs.declared.stock.Stock.{Stock}
use Rattle.gix_c.proofs.listed.gix_ids_read.Goals as goal

pub returns-clause-read : goal.returns-clause-read
returns-clause-read c =
    let all = c.args.ids.now.value.ids.items in
    let old = c.args.out.now in
    let n = c.copy_front.result in
    let rest : c.behind.result.now ≡ drop c.args.from all =
    c.behind.ensures ∙ ap (λ (l : List (List ℕ)). drop c.args.from l) (c.deref.ensures.value ∙ ap (λ (s : Stock). s.ids.items) c.get_mut.ensures.value) in
    record {
      counted = c.copy_front.ensures.counted ∙ ap (λ (l : List (List ℕ)). min (length l) (length old)) rest ∙ ap (λ (k : ℕ). min k (length old)) (length-drop c.args.from all);
      written = c.copy_front.ensures.written ∙ ap (λ (l : List (List ℕ)). take n l ++ drop n old) rest;
    }
