use Rattle.std.proofs.Common.{arith}
use Rattle.call_script.proofs.Decimals.{five_digits}
use Rattle.call_script.proofs.reply_text.ReplyText.numbered.Goals as goal

pub put_digits-requires : goal.put_digits-requires
put_digits-requires c = let five = five_digits c.args.number c.requires in rw c.new-text.ensures (omega (arith, five))

pub returns-clause-len : goal.returns-clause-len
returns-clause-len c =
    let five = five_digits c.args.number c.requires in
    let put = rw c.new-text.ensures at c.put_digits.ensures in
    rw put five
