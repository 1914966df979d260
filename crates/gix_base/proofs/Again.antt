-- Digits that were written are read again.
use Rattle.std.proofs.Common.{◌≡◌, ◌↔◌, ℕ, ◌≤◌, ◌++◌, List, length, take, drop, replicate, Result, Ok, Err, IsOk, IfOk, sym, ap, ◌∙◌, arith}
use Rattle.std.specs.Str.{str_to_ascii_lowercase}
use Rattle.std.proofs.lemmas.List.{length-take, take_all}
use Rattle.std.proofs.Math.Seq.{take-append_seam}
use Rattle.gix_base.specs.Digits.{bytes_of}
use Rattle.gix_base.specs.Hash.{id_text, padded, IsId, IsIdText}
use Rattle.gix_base.specs.Prefix.{prefix_text, IsPrefixText}
use Rattle.gix_base.specs.declared.hash.HexError.{HexError}
use Rattle.gix_base.specs.declared.hash.ObjectId.{ObjectId}
use Rattle.gix_base.specs.declared.hash.Prefix.{Prefix}
use Rattle.gix_base.proofs.ReadBack.{reads_back}
use Rattle.gix_base.proofs.PrefixBack.{prefix_text-injective, IsPrefixText-prefix_text, lower-prefix_text}

-- what is read from the text of an id is the id
pub read_id : (id : ObjectId) → IsId id → (text : List ℕ) → text ≡ id_text id → (r : Result ObjectId HexError)
    → (IsOk r ↔ IsIdText text) → IfOk r (λ x. x.0 ≡ bytes_of text) → r ≡ Ok id
read_id id h text e (Ok x) found value =
    let bytes : x.0 ≡ id.0 = value ∙ (ap bytes_of e ∙ (reads_back id h).1) in
    ap (λ (b : List ℕ). let read : Result ObjectId HexError = Ok (record { 0 = b }) in read) bytes
read_id id h text e (Err why) found value =
    let is : IsIdText text = rw e (reads_back id h).0 in
    cc (found.1 is)

-- what is read from the text of a prefix is the prefix
pub read_prefix : (p : Prefix) (text : List ℕ) → text ≡ prefix_text p → (r : Result Prefix HexError)
    → (IsOk r ↔ IsPrefixText text) → IfOk r (λ x. prefix_text x ≡ str_to_ascii_lowercase text) → r ≡ Ok p
read_prefix p text e (Ok x) found shows =
    ap Ok (prefix_text-injective x p (shows ∙ (ap str_to_ascii_lowercase e ∙ lower-prefix_text p)))
read_prefix p text e (Err why) found shows =
    let is : IsPrefixText text = rw e (IsPrefixText-prefix_text p) in
    cc (found.1 is)

-- the front of what was written
pub take-written : (n : ℕ) (digits old out : List ℕ) → n ≤ length digits → out ≡ take n digits ++ drop n old → take n out ≡ take n digits
take-written n digits old out h e =
    let long : length (take n digits) ≡ n = omega (arith, length-take n digits) in
    let seam = take-append_seam (take n digits) (drop n old) in
    ap (take n) e ∙ (rw long at seam)

-- all of it, where all was written
pub written_all : (n : ℕ) (digits old out : List ℕ) → n ≡ length digits → length out ≡ length digits → out ≡ take n digits ++ drop n old → out ≡ digits
written_all n digits old out all long e =
    sym (take_all n out (omega (arith, all, long))) ∙ (take-written n digits old out (omega (arith, all)) e ∙ take_all n digits (omega (arith, all)))

-- the front of a text that was filled up
pub take-padded : (n : ℕ) (text : List ℕ) → n ≡ length text → take n (padded text) ≡ text
take-padded n text e = rw e (take-append_seam text (drop (length text) (replicate 40 48)))
