-- What the front of a file says of its chunks is what the file says.
use Rattle.std.proofs.Common.{◌≡◌, ℕ, zero, suc, ◌+◌, ◌-◌, ◌*◌, ◌≤◌, ◌<◌, Bool, true, false, List, [], ◌∷◌, length, cond, nat_eq, slice_index, Option, Some, None, IfSome, refl, sym, ap, ◌∙◌, arith}
use Rattle.std.specs.Option.{option_map}
use Rattle.std.specs.Int.{w32, w64, from_be_bytes}
use Rattle.std.proofs.lemmas.List.{get_or-take}
use Rattle.gix_ids.specs.TableBytes.{word, long}
use Rattle.gix_commitgraph.specs.FileChunks.{row_count, row_from, chunk_of, chunk_at, start_of, size_of, layout_of, oidf, oidl, cdat, edge}
use Rattle.gix_commitgraph.proofs.Rows.{layout-made}
use Rattle.gix_files.specs.Known.{IsPart}
use Rattle.gix_files.proofs.Parts.{piece}
use Rattle.gix_graph_rows.specs.ChainRows.{layout_from}
use Rattle.gix_graph_rows.specs.FanoutForm.{fanout_in}
use Rattle.gix_graph_rows.specs.FrontForm.{chunk_in, chunk_there, start_in, len_in}
use Rattle.gix_graph_rows.specs.declared.front.Layout.{Layout as Fronts}
use Rattle.gix_graph_rows.proofs.KnownBytes.{word4}

module _ (s xs : List ℕ) (p : IsPart s 0 xs) where
  byte : (j : ℕ) → j < length xs → slice_index xs j ≡ slice_index s j
  byte j h = ap (λ z. slice_index z j) (sym p) ∙ get_or-take (length xs) s j 0 h

  front_word : (k : ℕ) → k + 4 ≤ length xs → word xs k ≡ word s k
  unfolding word
  front_word k h =
      let a = byte k (omega arith) in
      let b = byte (k + 1) (omega arith) in
      let c = byte (k + 2) (omega arith) in
      let d = byte (k + 3) (omega arith) in
      λ i. from_be_bytes w32 (a i ∷ b i ∷ c i ∷ d i ∷ [])

  front_long : (k : ℕ) → k + 8 ≤ length xs → long xs k ≡ long s k
  unfolding long
  front_long k h =
      let a = byte k (omega arith) in
      let b = byte (k + 1) (omega arith) in
      let c = byte (k + 2) (omega arith) in
      let d = byte (k + 3) (omega arith) in
      let e = byte (k + 4) (omega arith) in
      let f = byte (k + 5) (omega arith) in
      let g = byte (k + 6) (omega arith) in
      let n = byte (k + 7) (omega arith) in
      λ i. from_be_bytes w64 (a i ∷ b i ∷ c i ∷ d i ∷ e i ∷ f i ∷ g i ∷ n i ∷ [])

  front_row : (tag i n : ℕ) → 8 + 12 * (i + n) ≤ length xs → row_from xs tag i n ≡ row_from s tag i n
  front_row tag i zero h = refl
  front_row tag i (suc n) h =
      let here = front_word (8 + 12 * i) (omega arith) in
      let rest = front_row tag (i + 1) n (omega arith) in
      λ j. cond (nat_eq (here j) tag) (Some i) (rest j)

  below_if : (b : Bool) (r : Option ℕ) (i m : ℕ) → i < m → IfSome r (λ k. k < m) → IfSome (cond b (Some i) r) (λ k. k < m)
  below_if true r i m h rest = h
  below_if false r i m h rest = rest

  row_below : (tag i n m : ℕ) → i + n ≤ m → IfSome (row_from s tag i n) (λ k. k < m)
  row_below tag i zero m h = tt
  row_below tag i (suc n) m h = below_if (nat_eq (word s (8 + 12 * i)) tag) (row_from s tag (i + 1) n) i m (omega arith) (row_below tag (i + 1) n m (omega arith))

  starts : (r : Option ℕ) (rows : ℕ) → 20 + 12 * rows ≤ length xs → IfSome r (λ k. k < rows) → start_in (option_map (chunk_in xs) r) ≡ start_of (option_map (chunk_of s) r)
  starts None rows h b = refl
  starts (Some k) rows h b = front_long (12 + 12 * k) (omega (arith, b))

  lens : (r : Option ℕ) (rows : ℕ) → 20 + 12 * rows ≤ length xs → IfSome r (λ k. k < rows) → len_in (option_map (chunk_in xs) r) ≡ size_of (option_map (chunk_of s) r)
  lens None rows h b = refl
  lens (Some k) rows h b =
      let start = front_long (12 + 12 * k) (omega (arith, b)) in
      let end = front_long (24 + 12 * k) (omega (arith, b)) in
      λ j. end j - start j

  row_same : (tag : ℕ) → 20 + 12 * row_count xs ≤ length xs → row_from xs tag 0 (row_count xs) ≡ row_from s tag 0 (row_count s)
  row_same tag h = front_row tag 0 (row_count xs) (omega arith) ∙ ap (row_from s tag 0) (byte 6 (omega arith))

  front_start : (tag : ℕ) → 20 + 12 * row_count xs ≤ length xs → start_in (chunk_there xs tag) ≡ start_of (chunk_at s tag)
  unfolding chunk_at
  front_start tag h =
      let count = byte 6 (omega arith) in
      ap (λ r. start_in (option_map (chunk_in xs) r)) (row_same tag h)
      ∙ starts (row_from s tag 0 (row_count s)) (row_count xs) h (row_below tag 0 (row_count s) (row_count xs) (omega (arith, count)))

  front_len : (tag : ℕ) → 20 + 12 * row_count xs ≤ length xs → len_in (chunk_there xs tag) ≡ size_of (chunk_at s tag)
  unfolding chunk_at
  front_len tag h =
      let count = byte 6 (omega arith) in
      ap (λ r. len_in (option_map (chunk_in xs) r)) (row_same tag h)
      ∙ lens (row_from s tag 0 (row_count s)) (row_count xs) h (row_below tag 0 (row_count s) (row_count xs) (omega (arith, count)))

  -- the layout of a file
  pub laid_out : (l : Fronts) (fan : List ℕ) → 20 + 12 * row_count xs ≤ length xs → l.fanout ≡ start_in (chunk_there xs oidf) → IsPart s l.fanout fan → 1024 ≤ length fan
      → l.count ≡ (fanout_in fan).count → l.ids ≡ start_in (chunk_there xs oidl) → l.rows ≡ start_in (chunk_there xs cdat)
      → l.edges.start ≡ start_in (chunk_there xs edge) → l.edges.len ≡ len_in (chunk_there xs edge) → layout_from l ≡ layout_of s
  laid_out l fan h fanout part long count ids rows start len =
      let last : word fan 1020 ≡ word s (l.fanout + 1020) =
      sym (word4 fan 1020) ∙ ap (λ z. word z 0) (sym (piece s fan l.fanout 1020 4 (omega arith) part)) ∙ word4 s (l.fanout + 1020) in
      let words = l.words in
      let sized = len ∙ front_len edge h in
      layout-made s (layout_from l) (fanout ∙ front_start oidf h) (count ∙ last) (ids ∙ front_start oidl h) (rows ∙ front_start cdat h)
      (start ∙ front_start edge h) (omega (arith, words, sized))
