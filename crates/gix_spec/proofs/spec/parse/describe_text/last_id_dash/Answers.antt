use Rattle.std.proofs.Common.{◌≡◌, ◌+◌, ◌-◌, ◌==◌, ◌&&◌, sym, ◌∙◌, eq-eqb, true, length, take, drop, slice_index, take_all, length-drop, arith}
use Rattle.gix_spec.specs.Marks.{dash}
use Rattle.gix_spec.specs.DescribeText.{last_id_dash, is_id_token}
use Rattle.gix_spec.proofs.Places.{greatest_below-is, greatest_below-none}
use Rattle.gix_spec.proofs.Describing.{has_first, both_true}
use Rattle.gix_spec.proofs.spec.parse.describe_text.last_id_dash.Goals as goal

pub returns-then-is_id_token-clause-place : goal.returns-then-is_id_token-clause-place
unfolding last_id_dash
returns-then-is_id_token-clause-place c =
    let text = c.args.text.now in
    let place = c.loop-place.place - 1 in
    let all : take (length text - (place + 1)) (drop (place + 1) text) ≡ drop (place + 1) text = take_all _ _ (omega (arith, length-drop (place + 1) text)) in
    let token : is_id_token (drop (place + 1) text) ≡ true = rw all at (sym c.is_id_token.ensures ∙ c.if-is_id_token.true) in
    sym (greatest_below-is (λ k. (slice_index text k == dash) && is_id_token (drop (k + 1) text)) (length text) place (omega arith) (both_true (eq-eqb _ _ c.if-text-place-eq45.true) token) (λ j low high. c.loop-place.invariant j (omega (arith, low)) high))

pub returns-then-is_id_token-clause-within : goal.returns-then-is_id_token-clause-within
returns-then-is_id_token-clause-within c =
    let text = c.args.text.now in
    let place = c.loop-place.place - 1 in
    let all : take (length text - (place + 1)) (drop (place + 1) text) ≡ drop (place + 1) text = take_all _ _ (omega (arith, length-drop (place + 1) text)) in
    let token : is_id_token (drop (place + 1) text) ≡ true = rw all at (sym c.is_id_token.ensures ∙ c.if-is_id_token.true) in
    has_first text (place + 1) token

pub returns-clause-place : goal.returns-clause-place
unfolding last_id_dash
returns-clause-place c =
    let text = c.args.text.now in
    sym (greatest_below-none (λ k. (slice_index text k == dash) && is_id_token (drop (k + 1) text)) (length text) (λ j high. c.loop-place.invariant j (omega (arith, c.loop-place-test.false)) high))
