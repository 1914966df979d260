use Rattle.std.proofs.Common.{◌≡◌, ℕ, sym, ap, ◌∙◌, arith}
use Rattle.std.specs.declared.cmp.Ordering.TheVariants.{Less, Greater}
use Rattle.gix_ids.specs.TableForm.{compare_ids, id_of}
use Rattle.gix_ids.proofs.Order.{all-less, all-greater}
use Rattle.gix_ids.proofs.Fanned.{tied}
use Rattle.gix_ids.proofs.lookup.narrow.Goals as goal

pub search-init : goal.search-init
search-init c = record {
  least = omega arith;
  order = c.requires.order;
  most = omega arith;
  before = λ rise k from h. absurd (omega (arith, from, h));
  behind = λ rise k from h. absurd (omega (arith, from, h));
}

pub search-preserved-in-Less : goal.search-preserved-in-Less
search-preserved-in-Less c =
    let m : ℕ = c.place-place.result in
    let e : compare_ids (id_of c.args.bytes.now c.args.t m) c.args.id ≡ Less = ap (λ x. compare_ids x c.args.id) (sym c.id_at-found.ensures) ∙ sym c.cmp.ensures ∙ c.in-Less.is in
    record {
      least = omega arith;
      order = omega arith;
      most = c.search.invariant.most;
      before = λ rise. all-less c.args.bytes.now c.args.t c.args.span rise m c.args.id (omega arith) e;
      behind = c.search.invariant.behind;
    }

pub search-preserved : goal.search-preserved
search-preserved c =
    let m : ℕ = c.place-place.result in
    let e : compare_ids (id_of c.args.bytes.now c.args.t m) c.args.id ≡ Greater = ap (λ x. compare_ids x c.args.id) (sym c.id_at-found.ensures) ∙ sym c.cmp.ensures ∙ c.in-Greater.is in
    record {
      least = c.search.invariant.least;
      order = omega arith;
      most = omega arith;
      before = c.search.invariant.before;
      behind = λ rise. all-greater c.args.bytes.now c.args.t c.args.span rise m c.args.id (omega arith) e;
    }

pub returns-in-Equal : goal.returns-in-Equal
returns-in-Equal c = record {
  from = omega arith;
  below = omega arith;
  same = sym c.id_at-found.ensures ∙ tied c.id_at-found.result c.args.id (sym c.cmp.ensures ∙ c.in-Equal.is);
}

pub returns : goal.returns
returns c = record {
  from = c.search.invariant.least;
  within = omega arith;
  before = c.search.invariant.before;
  behind = λ rise j h within. c.search.invariant.behind rise j (omega arith) within;
}
