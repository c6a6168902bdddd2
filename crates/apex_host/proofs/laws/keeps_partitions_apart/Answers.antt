use Rattle.apex_host.proofs.Apart.{told-apart, all-told}
use Rattle.apex_host.proofs.laws.keeps_partitions_apart.Goals as goal

pub returns-clause-so_far : goal.returns-clause-so_far
returns-clause-so_far g c = λ t v before after status rows lines stored ends table script image.
    told-apart c.replies_depend_on_upstream.ensures c.reply_lines_tell.ensures c.step_keeps_valid.ensures v before after rows lines stored table script image t ends

pub returns-clause-done : goal.returns-clause-done
returns-clause-done g c = λ t v before after rows lines stored ends table script image.
    all-told c.replies_depend_on_upstream.ensures c.reply_lines_tell.ensures c.step_keeps_valid.ensures v before after rows lines stored table script image t ends
