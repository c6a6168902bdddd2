use Rattle.std.proofs.Common.{arith, ◌∷◌, []}
use Rattle.call_script.proofs.Decimals.{ten_digits, length_put}
use Rattle.call_script.proofs.reply_text.ReplyText.put_number.Goals as goal

pub put_digits-requires : goal.put_digits-requires
put_digits-requires c =
    let ten = ten_digits c.args.number (omega arith) in
    let one = length_put c.args.self.now (32 ∷ []) c.put_byte.new.self c.put_byte.ensures in
    omega (arith, ten, one, c.requires)

pub returns-clause-len : goal.returns-clause-len
returns-clause-len c =
    let ten = ten_digits c.args.number (omega arith) in
    let one = length_put c.args.self.now (32 ∷ []) c.put_byte.new.self c.put_byte.ensures in
    let all = length_put c.put_byte.new.self _ c.put_digits.new.self c.put_digits.ensures in
    omega (arith, ten, one, all)
