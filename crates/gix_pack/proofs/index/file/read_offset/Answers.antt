use Rattle.std.proofs.Common.{◌≡◌, ◌+◌, ◌-◌, ◌*◌, ◌^◌, ◌<◌, sym, ap, ◌∙◌, arith}
use Rattle.gix_ids.specs.TableBytes.{word}
use Rattle.gix_pack.specs.IndexForm.{large_count, short_offset}
use Rattle.gix_pack.proofs.Objects.{large-said}
use Rattle.gix_pack.proofs.index.file.read_offset.Goals as goal

pub long_at-requires : goal.long_at-requires
long_at-requires c =
    let s = c.args.bytes.now in
    let count = c.word_at-count.ensures.value in
    let said = large-said c.word_at.result c.in-Large.entry (sym c.offset_said.ensures ∙ c.in-Large.is) in
    let high = said.0 in
    let entry = said.1 in
    let short : c.word_at.result ≡ short_offset s c.args.i = c.word_at.ensures.value ∙ ap (λ n. word s (1032 + 24 * n + 4 * c.args.i)) count in
    let has : short_offset s c.args.i - 2 ^ 31 < large_count s = c.requires.index.offsets c.args.i c.requires.here (omega (arith, high, short)) in
    let size = c.requires.index.size in
    omega (arith, count, entry, short, has, size)
