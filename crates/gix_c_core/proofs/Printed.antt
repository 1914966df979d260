-- What a format writes, by the fields that it was made of.
use Rattle.std.proofs.Common.{◌≡◌, ◌∙◌, ℕ, List, ◌++◌, Option, None, subst}
use Rattle.std.proofs.lemmas.List.{append-nil}
use Rattle.std.specs.Cow.{cow_slice_items}
use Rattle.std.specs.Option.{option_map}
use Rattle.std.specs.String.{string_bytes}
use Rattle.std.specs.declared.borrow.CowSlice.{CowSlice}
use Rattle.gix_base.specs.declared.hash.ObjectId.{ObjectId}
use Rattle.gix_describe.specs.FormatText.{described_text, hex_text, suffix_text, format_bytes}
use Rattle.gix_describe.specs.declared.describe.format.Format.{Format}

pub written-so : {A : Type 0} (f : Format A) (name : Option (CowSlice ℕ A)) (id : ObjectId) (n depth : ℕ) (text : List ℕ)
    → f.name ≡ name → f.id ≡ id → f.hex_len ≡ n → f.depth ≡ depth → f.dirty_suffix ≡ None → text ≡ format_bytes f
    → text ≡ described_text (option_map cow_slice_items name) (hex_text id n) depth f.long
written-so {A} f name id n depth text names ids digits depths bare is =
    let e1 = subst (λ (x : Option (CowSlice ℕ A)). text ≡ described_text (option_map cow_slice_items x) (hex_text f.id f.hex_len) f.depth f.long ++ suffix_text (option_map string_bytes f.dirty_suffix)) names is in
    let e2 = subst (λ (x : ObjectId). text ≡ described_text (option_map cow_slice_items name) (hex_text x f.hex_len) f.depth f.long ++ suffix_text (option_map string_bytes f.dirty_suffix)) ids e1 in
    let e3 = subst (λ (x : ℕ). text ≡ described_text (option_map cow_slice_items name) (hex_text id x) f.depth f.long ++ suffix_text (option_map string_bytes f.dirty_suffix)) digits e2 in
    let e4 = subst (λ (x : ℕ). text ≡ described_text (option_map cow_slice_items name) (hex_text id n) x f.long ++ suffix_text (option_map string_bytes f.dirty_suffix)) depths e3 in
    let e5 = subst (λ x. text ≡ described_text (option_map cow_slice_items name) (hex_text id n) depth f.long ++ suffix_text (option_map string_bytes x)) bare e4 in
    e5 ∙ append-nil (described_text (option_map cow_slice_items name) (hex_text id n) depth f.long)
