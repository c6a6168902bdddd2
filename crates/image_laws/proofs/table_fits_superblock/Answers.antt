use Rattle.image_laws.proofs.TableSizes.{table_fits}
use Rattle.image_laws.proofs.table_fits_superblock.Goals as goal

pub returns : goal.returns
returns _ = table_fits
