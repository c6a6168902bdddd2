use Rattle.std.proofs.Common.{◌≡◌, ◌+◌, ◌-◌, ◌++◌, length, replicate, arith}
use Rattle.image_format.proofs.Padded.{front_of_message, message_back}
use Rattle.image_format.proofs.messages.put_message.Goals as goal

pub returns : goal.returns
returns c = λ limit few.
    let made : c.put_padded.new.into ≡ (front_of_message c.args.number (length c.args.bytes.now) ++ c.args.bytes.now) ++ replicate (512 - (6 + length c.args.bytes.now)) 0 =
    rw (c.front_of_message-front.ensures, c.requires.long) at c.put_padded.ensures in
    rw made (message_back limit c.args.bytes.now c.args.number (512 - (6 + length c.args.bytes.now)) c.requires.numbered (omega arith) c.requires.some c.requires.few few)
