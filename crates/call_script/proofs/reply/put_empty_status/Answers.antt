use Rattle.std.proofs.Common.{◌∷◌, codes, decimal}
use Rattle.call_script.proofs.Decimals.{after_three}
use Rattle.call_script.proofs.reply.put_empty_status.Goals as goal

pub returns-clause-value : goal.returns-clause-value
returns-clause-value c =
    after_three c.args.text.now (32 ∷ codes "DESTINATION") (32 ∷ decimal c.args.size) (32 ∷ decimal c.args.refresh) (32 ∷ codes "EMPTY_PORT") c.put_port.new.text c.put_word.new.self c.put_port.ensures.value c.put_word.ensures.value
