use Rattle.std.proofs.Common.{sym, ◌∙◌, arith}
use Rattle.report.specs.CodeAnswer.{hex-room, hex-put, plain-put, without}
use Rattle.report.proofs.puts.Writer.answer.Goals as goal

pub hex_field-requires : goal.hex_field-requires
hex_field-requires c = omega (arith, hex-room c.args.a c.args.sent.now _ (sym c.hex_in.ensures ∙ c.in-Some.is), c.requires.0)

pub returns-in-Some : goal.returns-in-Some
returns-in-Some c = hex-put c.args.a c.args.sent.now (sym c.hex_in.ensures ∙ c.in-Some.is) c.word.ensures c.hex_field.ensures

pub returns-in_default : goal.returns-in_default
returns-in_default c = plain-put c.args.a c.args.sent.now (without _ c.hex_in.ensures c.in_default.not-Some) c.word.ensures
