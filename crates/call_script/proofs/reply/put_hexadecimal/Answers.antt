use Rattle.std.proofs.Common.{sym, ◌∙◌, arith}
use Rattle.call_script.proofs.Hexadecimal.{digits_put}
use Rattle.call_script.proofs.reply.put_hexadecimal.Goals as goal

pub returns-then-is_ok-clause-value : goal.returns-then-is_ok-clause-value
returns-then-is_ok-clause-value c =
    digits_put c.encode_to_slice.result c.args.bytes.now c.encode_to_slice.new.output c.args.text.now c.put.new.self
    (sym c.is_ok.ensures.value ∙ c.if-is_ok.true) c.encode_to_slice.ensures.written (λ i. let small = c.type_inv.bytes i in omega (arith, small)) c.put.ensures
