use Rattle.std.proofs.Common.{ap, ◌∙◌, arith}
use Rattle.std.proofs.lemmas.List.Edits.{sets}
use Rattle.report.specs.NumberLaws.{length-number, le-bytes}
use Rattle.report.proofs.puts.Writer.number.Goals as goal

pub returns : goal.returns
returns c =
    let put = c.put.ensures in
    record {
      room = put.room;
      size = put.size;
      next = omega (arith, length-number c.args.x);
      text = put.put.text ∙ ap (sets _ _) (c.to_le_bytes.ensures ∙ le-bytes c.args.x.digits);
    }
