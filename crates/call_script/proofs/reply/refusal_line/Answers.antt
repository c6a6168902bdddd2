use Rattle.call_script.proofs.Refusals.{told}
use Rattle.call_script.proofs.reply.refusal_line.Goals as goal

pub returns : goal.returns
returns c =
    told c.args.error c.number.result c.unwrap_or.result c.name.result.now c.line.result
    c.new-text.result c.put.new.self c.put_word.new.self c.put_number.new.self c.put_word-2.new.self c.put_place.new.text c.put_byte.new.self
    c.number.ensures.value c.name.ensures.value c.line.ensures c.unwrap_or.ensures
    c.new-text.ensures c.put.ensures c.put_word.ensures.value c.put_number.ensures.value c.put_word-2.ensures.value c.put_place.ensures.value c.put_byte.ensures
