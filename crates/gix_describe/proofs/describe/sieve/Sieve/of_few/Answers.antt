use Rattle.std.proofs.Common.{◌≡◌, ◌∙◌, ◌∷◌, refl, ap, sym, length, true, false, inl, inr, arith}
use Rattle.std.specs.Map.Iter.{deref}
use Rattle.std.proofs.lemmas.Map.Iter.{rest_all, rest_more}
use Rattle.gix_revwalk.specs.History.{is_one_of}
use Rattle.gix_describe.proofs.Sieve.{one_less}
use Rattle.gix_describe.proofs.WalkSteps.{names_is}
use Rattle.gix_describe.proofs.describe.sieve.Sieve.of_few.Goals as goal

pub loop-id-init : goal.loop-id-init
loop-id-init g c = λ q named. inr (sym (c.keys-ids.ensures.has q) ∙ sym (names_is c.args.names.now.entries q _ refl) ∙ named)

pub loop-id-preserved : goal.loop-id-preserved
loop-id-preserved g c = λ q named.
    one_less c.loop-id.sieve.words c.let_pass.new.self.words c.in-Some.id.now q c.loop-id.ids c.next.new.self (rest_more deref _ _ _ _ c.in-Some.is c.next.ensures.steps) c.let_pass.ensures.own (c.let_pass.ensures.others q)
    (c.loop-id.invariant q named)

pub loop-id-smaller : goal.loop-id-smaller
loop-id-smaller g c =
    let len : length c.loop-id.ids ≡ length (c.in-Some.id.now ∷ c.next.new.self) = ap length (rest_more deref _ _ _ _ c.in-Some.is c.next.ensures.steps) in
    omega arith

pub returns : goal.returns
returns g c = λ q named. elim (c.loop-id.invariant q named) [
  | inl has ↦ has
  | inr comes ↦ absurd (let f : false ≡ true = ap (λ l. is_one_of l q) (sym (rest_all deref _ _ _ c.in_default.is c.next.ensures.steps)) ∙ comes in cc)
]
