use Rattle.call_script.proofs.Decimals.{six}
use Rattle.call_script.proofs.reply.put_port_status.Goals as goal

pub returns-clause-value : goal.returns-clause-value
returns-clause-value c =
    let updated = rw c.updated_word.ensures.word at c.put_word-2.ensures.value in
    let validity = rw c.validity_word.ensures.word at c.put_word-3.ensures.value in
    six c.args.text.now _ _ _ _ _ _ c.put_word.new.self c.put_number.new.self c.put_number-2.new.self c.put_word-2.new.self c.put_word-3.new.self c.put_number-3.new.self
    c.put_word.ensures.value c.put_number.ensures.value c.put_number-2.ensures.value updated validity c.put_number-3.ensures.value
