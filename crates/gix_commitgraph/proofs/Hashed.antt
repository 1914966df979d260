-- The hash at the end of a file.
use Rattle.std.proofs.Common.{◌≡◌, ◌↔◌, ℕ, ◌-◌, List, length, take, drop, Bool, IsTrue, nat_eq, sym, ◌∙◌, arith}
use Rattle.std.proofs.lemmas.List.{take_all, length-drop}
use Rattle.std.proofs.lemmas.Slice.Eq.{slice_eq-Decides}
use Rattle.std.proofs.lemmas.Bool.Decides.{Decides-eqb}
use Rattle.std.specs.Cmp.Lexicographic.{pointwise}
use Rattle.sha1.specs.Sha1.{sha1}
use Rattle.gix_commitgraph.specs.FileHash.{HashIsRight}

-- equal bytes at the end are the right hash
pub hash-tells : (s t : List ℕ) (b : Bool) → b ≡ pointwise nat_eq (take (length s - (length s - 20)) (drop (length s - 20) s)) t
    → t ≡ sha1 (take (length s - 20) s) → IsTrue b ↔ HashIsRight s
hash-tells s t b tells digest =
    let end : List ℕ = drop (length s - 20) s in
    let all : take (length s - (length s - 20)) end ≡ end = take_all (length s - (length s - 20)) end (let e = length-drop (length s - 20) s in omega arith) in
    let is = slice_eq-Decides Decides-eqb (take (length s - (length s - 20)) end) t b tells in
    (λ yes'. sym all ∙ is.0 yes' ∙ digest, λ right. is.1 (all ∙ right ∙ sym digest))
