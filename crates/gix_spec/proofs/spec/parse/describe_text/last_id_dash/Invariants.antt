use Rattle.std.proofs.Common.{◌≡◌, ◌==◌, ◌&&◌, ◌+◌, ℕ, ◌<◌, ◌≤◌, false, length, drop, slice_index}
use Rattle.gix_spec.specs.Marks.{dash}
use Rattle.gix_spec.specs.DescribeText.{is_id_token}
use Rattle.gix_spec.proofs.spec.parse.describe_text.last_id_dash.Given as goal

-- no dash that the digits of an id follow stands at the places so far
abbrev pub invariant-loop-place : goal.invariant-loop-place
invariant-loop-place l =
    (k : ℕ) → l.place ≤ k → k < length l.text → ((slice_index l.text k == dash) && is_id_token (drop (k + 1) l.text)) ≡ false
