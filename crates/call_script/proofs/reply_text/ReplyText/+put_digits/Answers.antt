use Rattle.std.proofs.Common.{rules, arith}
use Rattle.call_script.proofs.Decimals.{one_digit, more_digits, first_put, next_put, length_put}
use Rattle.call_script.proofs.reply_text.ReplyText.+put_digits.Goals as goal

pub put_digits-requires : goal.put_digits-requires
put_digits-requires t c = (search rules, omega (arith, more_digits c.args.number c.if-number-lt10.false (omega arith), c.requires))

pub put_byte-requires : goal.put_byte-requires
put_byte-requires t c = omega (arith, one_digit c.args.number c.if-number-lt10.true, c.requires)

pub returns : goal.returns
returns t c = next_put c.args.self.now c.put_digits.new.self c.put_byte-2.new.self c.args.number c.if-number-lt10.false (omega arith) c.put_digits.ensures c.put_byte-2.ensures

pub returns-then-number-lt10 : goal.returns-then-number-lt10
returns-then-number-lt10 t c = first_put c.args.self.now c.put_byte.new.self c.args.number c.if-number-lt10.true c.put_byte.ensures

pub put_byte-requires-2 : goal.put_byte-requires-2
put_byte-requires-2 t c =
    let more = more_digits c.args.number c.if-number-lt10.false (omega arith) in
    let put = length_put c.args.self.now _ c.put_digits.new.self c.put_digits.ensures in
    omega (arith, more, put, c.requires)
