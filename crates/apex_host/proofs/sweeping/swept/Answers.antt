use Rattle.std.proofs.Common.{sym, ◌∙◌, refl}
use Rattle.apex_host.proofs.EndLaws.{some-some}
use Rattle.apex_host.proofs.sweeping.swept.Goals as goal

pub returns : goal.returns
returns c = λ line is.
    sym (some-some is) ∙ c.swept_text.ensures c.args.counts.now (c.in_ok-calls.ensures c.in_ok-calls.calls refl) (c.in_ok-images.ensures c.in_ok-images.images refl)
    (c.in_ok-mounted.ensures c.in_ok-mounted.mounted refl) (c.in_ok-files.ensures c.in_ok-files.files refl)
