use Rattle.std.proofs.Common.{◌≡◌, ◌∙◌, ◌+◌, ap, sym, subst, IfSome, None, Some}
use Rattle.gix_revwalk.specs.Numbers.{item_at}
use Rattle.gix_history.specs.Whole.{IsListed}
use Rattle.gix_history.proofs.Counted.{listed-first, listed-whole}
use Rattle.gix_history.proofs.Grown.{grows-itself, grows-on}
use Rattle.gix_history.proofs.history.History.count_list.Goals as goal

pub loop-place-init : goal.loop-place-init
loop-place-init g c = record {
  grown = grows-itself c.args.self.now.known;
  listed = listed-first c.args.list.now.items c.args.self.now.known.commits c.requires;
}

pub returns-in_default-clause-counted : goal.returns-in_default-clause-counted
returns-in_default-clause-counted g c =
    let is = c.loop-place.invariant.listed in
    let done : item_at c.loop-place.list.items c.loop-place.place ≡ None = ap (λ l. item_at l c.loop-place.place) (sym c.deref.ensures.value) ∙ sym c.listed_at.ensures ∙ c.in_default.is in
    listed-whole c.args.list.now.items c.loop-place.self.known.commits c.loop-place.list.items c.loop-place.place c.loop-place.count is done g.K.Beyond.beyond

pub loop-place-preserved : goal.loop-place-preserved
loop-place-preserved g c =
    let inv = c.loop-place.invariant in
    let at : item_at c.loop-place.list.items c.loop-place.place ≡ Some c.in-Some.id = ap (λ l. item_at l c.loop-place.place) (sym c.deref.ensures.value) ∙ sym c.listed_at.ensures ∙ c.in-Some.is in
    record {
      grown = grows-on c.args.self.now.known c.loop-place.self.known c.count_listed.new.self.known inv.grown c.count_listed.ensures.grown;
      listed = subst (λ o. IfSome o (λ n. IsListed c.args.list.now.items c.count_listed.new.self.known.commits c.count_listed.new.list.items (c.loop-place.place + 1) n)) c.in-Some-2.is
          (c.in_ok-more.ensures.counted c.args.list.now.items c.loop-place.place inv.listed at);
    }
