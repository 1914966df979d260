use Rattle.std.proofs.Common.{◌≡◌, ap, ◌∙◌, ◌∷◌, [], ◌++◌, length, arith}
use Rattle.std.proofs.lemmas.List.{length-drop}
use Rattle.gix_base.specs.Hash.{id_text}
use Rattle.gix_base.proofs.Again.{written_all}
use Rattle.gix_base.proofs.ReadBack.{length-id_text}
use Rattle.gix_c_core.specs.Answers.{id_of}
use Rattle.gix_c.proofs.Ended.{ended}
use Rattle.gix_c.proofs.digits.gix_id_write.Goals as goal

pub returns : goal.returns
returns c =
    let id = id_of c.args.id.now in
    let long = length-id_text id c.is_id.ensures in
    let count = c.write_hex.ensures.count in
    let text = written_all c.write_hex.result (id_text id) _ c.write_hex.new.out (omega (arith, long, count)) (omega (arith, long, c.write_hex.array_long)) c.write_hex.ensures.written in
    let copied : c.copy_from_slice.new.self ≡ id_text id = c.copy_from_slice.ensures.after ∙ text in
    ended _ _ 40 0 (ap length copied ∙ long) (omega (arith, length-drop 40 c.args.out.now, c.told-out)) ∙ ap (λ l. l ++ 0 ∷ []) copied
