use Rattle.image_layout.proofs.Following.{table_laid_out}
use Rattle.image_layout.proofs.table_is_laid_out.Goals as goal

pub returns : goal.returns
returns c = table_laid_out
